-- `put_wrong` meets its contract: four texts, one behind the other. Assumes nothing.
use Rattle.text.proofs.PutLaws.{then}
use Rattle.notice.proofs.put_wrong.Goals as goal

pub returns : goal.returns
returns c = then c.bytes.ensures (then c.bytes-2.ensures (then c.field.ensures c.byte.ensures))
