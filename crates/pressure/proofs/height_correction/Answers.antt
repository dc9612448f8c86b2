-- `height_correction` meets its contract: two kept numbers added, and 133 or 100 times that, fit. Assumes nothing.
use mathlib.Core.Path.{ap₂, ◌∙◌}
use lib.IntN.{◌+ℤ◌}
use Rattle.pressure.specs.Pressure.{height}
use borrow.Author.Rules.{rules}
use Rattle.pressure.proofs.height_correction.Goals as goal

pub returns-in-Hectopascals : goal.returns-in-Hectopascals
unfolding height
returns-in-Hectopascals c =
    let both = c.plus-whole.ensures.value ∙ ap₂ ◌+ℤ◌ c.number-above_sea.ensures.value c.number-above_ocean.ensures.value in
    record {
      value = rw (c.in-Hectopascals.is, c.times.ensures.value, both);
      size = search rules;
    }

pub returns-in-Millimetres : goal.returns-in-Millimetres
unfolding height
returns-in-Millimetres c =
    let both = c.plus-whole.ensures.value ∙ ap₂ ◌+ℤ◌ c.number-above_sea.ensures.value c.number-above_ocean.ensures.value in
    record {
      value = rw (c.in-Millimetres.is, c.times-in-Millimetres.ensures.value, both);
      size = search rules;
    }
