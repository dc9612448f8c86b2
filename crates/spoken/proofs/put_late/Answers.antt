-- `put_late` meets its contract: words, minutes and words, one behind the other. Assumes nothing.
use Rattle.text.proofs.PutLaws.{then}
use Rattle.spoken.proofs.put_late.Goals as goal

pub returns : goal.returns
returns c = then c.bytes.ensures (then c.put_minutes.ensures c.bytes-2.ensures)
