-- `put_vapour` meets its contract: three figures and their words, one behind the other. Assumes nothing.
use Rattle.text.proofs.PutLaws.{then}
use Rattle.spoken.proofs.put_vapour.Goals as goal

pub returns : goal.returns
returns c = then c.bytes.ensures (then c.put_hundredths.ensures (then c.bytes-2.ensures (then c.put_hundredths-2.ensures (then c.bytes-3.ensures c.put_hundredths-3.ensures))))
