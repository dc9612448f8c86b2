-- `put_tendency` meets its contract: figures and words, one behind the other. Assumes nothing.
use Rattle.text.proofs.PutLaws.{then}
use Rattle.spoken.proofs.put_tendency.Goals as goal

pub returns : goal.returns
returns c = then c.put_change.ensures (then c.bytes.ensures (then c.put_minutes.ensures c.bytes-2.ensures))
