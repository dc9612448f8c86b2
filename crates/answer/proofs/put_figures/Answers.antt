-- `put_figures` meets its contract: letter and minute, and the figures, one behind the other. Assumes nothing.
use Rattle.text.proofs.PutLaws.{then}
use Rattle.answer.proofs.put_figures.Goals as goal

pub returns : goal.returns
returns c = then c.put_head.ensures c.put_moisture.ensures
