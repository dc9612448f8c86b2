-- `is_half` meets its contract: the limits of two bytes. Assumes nothing.
use mathlib.Core.Path.{ap, ◌∙◌}
use Rattle.handed.specs.Handed.{half}
use Rattle.handed.proofs.is_half.Goals as goal

pub returns : goal.returns
returns c = c.within.ensures ∙ ap half c.number.ensures.value
