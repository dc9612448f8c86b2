-- `put_around` meets its contract: words, a number and words, one behind the other. Assumes nothing.
use Rattle.text.proofs.PutLaws.{then}
use Rattle.spoken.proofs.put_around.Goals as goal

pub returns : goal.returns
returns c = then c.bytes.ensures (then c.natural.ensures c.bytes-2.ensures)
