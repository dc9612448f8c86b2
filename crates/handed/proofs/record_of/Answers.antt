-- `record_of` meets its contract: the body by its kind. Assumes nothing.
use Rattle.handed.proofs.record_of.Goals as goal

pub returns : goal.returns
returns c = rw c.body_of-body.ensures
