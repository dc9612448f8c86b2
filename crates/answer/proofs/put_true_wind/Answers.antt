-- `put_true_wind` meets its contract: letter and minute, speed, direction and end, one behind the other. Assumes nothing.
use Rattle.text.proofs.PutLaws.{then}
use Rattle.answer.proofs.put_true_wind.Goals as goal

pub returns : goal.returns
returns c = then c.put_head.ensures (then c.field.ensures (then c.field-2.ensures c.byte.ensures))
