-- `corrected` meets its contract: each part of the sum is small, whatever settings a block holds. Assumes nothing.
use mathlib.Core.Path.{◌≡◌, ap, ◌∙◌}
use Prim.Native.Nat.{◌≤◌}
use native.Mathlib.Omega.{arith}
use native.Mathlib.Nat.{le_trans, le_of_eq}
use lib.IntN.{ℤ, nat_abs}
use lib.ListN.{get_or}
use Rattle.quantity.specs.declared.BarometerUnit.{BarometerUnit}
use Rattle.block.specs.Words.{unit_of, setting_of}
use Rattle.pressure.specs.Pressure.{temperature, height}
use Rattle.pressure.proofs.SizeLaws.{temperature_stored}
use Rattle.pressure.proofs.corrected.Goals as goal
use Rattle.pressure.proofs.corrected.Goals.{After-height_correction-high, After-temperature_correction-warm}

-- the two corrections as they were worked: of the block's settings, and the first so large at most
warm-is : (c : After-temperature_correction-warm) → c.temperature_correction-warm.result.v ≡ temperature (setting_of c.args.store.now 3) c.args.wheelhouse.0.v
warm-is c = c.temperature_correction-warm.ensures ∙ ap (λ (z : ℤ). temperature z c.args.wheelhouse.0.v) c.coefficient.ensures

warm-size : (c : After-temperature_correction-warm) → nat_abs c.temperature_correction-warm.result.v ≤ 19661
warm-size c = le_trans (le_of_eq (ap nat_abs (warm-is c))) (temperature_stored (get_or c.args.store.now 3 0) c.args.wheelhouse.0.v c.requires.2)

high_is : (c : After-height_correction-high) → let s = c.args.store.now in
    c.height_correction-high.result.v ≡ height (unit_of s) (setting_of s 1) (setting_of s 2)
high_is c =
    let s = c.args.store.now in
    c.height_correction-high.ensures.value
    ∙ ap (λ (w : BarometerUnit). height w c.height.result.0.v c.difference.result.0.v) c.unit.ensures
    ∙ ap (λ (z : ℤ). height (unit_of s) z c.difference.result.0.v) c.height.ensures
    ∙ ap (height (unit_of s) (setting_of s 1)) c.difference.ensures

pub plus-tenths-requires : goal.plus-tenths-requires
plus-tenths-requires c =
    let at = (goal.at.plus-tenths-requires c).After-temperature_correction-warm in
    omega (arith, warm-size at, c.plus.ensures.size, c.requires.0, c.requires.1)

pub times-requires : goal.times-requires
times-requires c =
    let at = (goal.at.times-requires c).After-temperature_correction-warm in
    omega (arith, warm-size at, c.plus-tenths.ensures.size, c.plus.ensures.size, c.requires.0, c.requires.1)

pub plus-requires-2 : goal.plus-requires-2
plus-requires-2 c =
    let at = (goal.at.plus-requires-2 c).After-temperature_correction-warm in
    omega (
      arith,
      warm-size at,
      c.height_correction-high.ensures.size,
      c.times.ensures.size,
      c.plus-tenths.ensures.size,
      c.plus.ensures.size,
      c.requires.0,
      c.requires.1,
    )

pub returns : goal.returns
returns c =
    let up = (goal.at.returns c).After-height_correction-high in
    let at = (goal.at.returns c).After-temperature_correction-warm in
    record {
      value = rw (c.plus-2.ensures.value, c.times.ensures.value, c.plus-tenths.ensures.value, c.plus.ensures.value, warm-is at, high_is up);
      size = omega (
        arith,
        warm-size at,
        c.height_correction-high.ensures.size,
        c.plus-2.ensures.size,
        c.times.ensures.size,
        c.plus-tenths.ensures.size,
        c.plus.ensures.size,
        c.requires.0,
        c.requires.1,
      );
    }
