-- `put_change` meets its contract: letter and minute, change, absent minutes and end, one behind the other. Assumes nothing.
use Rattle.text.proofs.PutLaws.{then}
use Rattle.answer.proofs.put_change.Goals as goal

pub returns : goal.returns
returns c = then c.put_head.ensures (then c.signed.ensures (then c.field.ensures c.byte.ensures))
