-- `put_head` meets its contract: letter and minute, one behind the other. Assumes nothing.
use Rattle.text.proofs.PutLaws.{then}
use Rattle.answer.proofs.put_head.Goals as goal

pub returns : goal.returns
returns c = then c.byte.ensures c.field.ensures
