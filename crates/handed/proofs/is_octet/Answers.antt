-- `is_octet` meets its contract: the limits of one byte. Assumes nothing.
use mathlib.Core.Path.{ap, ◌∙◌}
use Rattle.handed.specs.Handed.{octet}
use Rattle.handed.proofs.is_octet.Goals as goal

pub returns : goal.returns
returns c = c.within.ensures ∙ ap octet c.number.ensures.value
