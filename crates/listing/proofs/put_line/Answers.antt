-- `put_line` meets its contract: the words, a number and the end of the line, one behind the other. Assumes nothing.
use Rattle.text.proofs.PutLaws.{then}
use Rattle.listing.proofs.put_line.Goals as goal

pub returns : goal.returns
returns c = then c.bytes.ensures (then c.field.ensures c.bytes-2.ensures)
