-- `in_hectopascals` meets its contract: by the unit. Assumes nothing.
use mathlib.Core.Path.{ap, ◌∙◌}
use lib.IntN.{ℤ}
use Rattle.quantity.specs.Convert.{in_hectopascals}
use Rattle.pressure.proofs.in_hectopascals.Goals as goal

pub returns-in-Millimetres : goal.returns-in-Millimetres
returns-in-Millimetres c = rw c.in-Millimetres.is (c.hectopascals.ensures ∙ ap (λ (z : ℤ). in_hectopascals z) c.keep.ensures)
