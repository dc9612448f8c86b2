-- `put_file` meets its contract: the word, the bytes and the end of the line, one behind the other. Assumes nothing.
use Rattle.text.proofs.PutLaws.{then}
use Rattle.answer.proofs.put_file.Goals as goal

pub returns : goal.returns
returns c = then c.bytes.ensures (then c.put_hex.ensures c.byte.ensures)
