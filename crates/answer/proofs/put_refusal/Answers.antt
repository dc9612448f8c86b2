-- `put_refusal` meets its contract: the word, the numbers and the end of the line, one behind the other. Assumes nothing.
use Rattle.text.proofs.PutLaws.{then}
use Rattle.hexadecimal.proofs.RowLaws.{puts_inside}
use Rattle.answer.proofs.put_refusal.Goals as goal

pub put_fields-requires : goal.put_fields-requires
put_fields-requires c = puts_inside c.bytes.ensures

pub returns : goal.returns
returns c = then c.bytes.ensures (then c.put_fields.ensures c.byte.ensures)
