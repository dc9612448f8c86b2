-- The scale correction of a certificate that keeps its rules: whichever neighbours stand round a reading give it, so at a point
-- it is that point's correction, and a reading is outside exactly when it lies below the first point's or above the last's. One that
-- is not is within the barometer's limits.
-- From the laws of rising points. Assumes nothing.
use mathlib.Core.Path.{◌≡◌, refl, sym, ap, ◌∙◌}
use mathlib.Core.Bool.{Bool, true, false, not, ◌&&◌}
use mathlib.Core.Logic.{◌↔◌, ◌⊎◌}
use Prim.Native.Nat.{ℕ, ◌+◌, ◌-◌, ◌≤◌, ◌<◌}
use native.Mathlib.Omega.{arith}
use native.Mathlib.Nat.{zero-add}
use lib.Dec.{leb}
use lib.IntN.{ℤ}
use lib.Signed.{le_z, lt_z}
use borrow.Author.Tests.{leb-true, not-false}
use Rattle.number.specs.Refusal.{given}
use Rattle.number.specs.Whole.{within}
use Rattle.number.proofs.Sizes.{and_true, both}
use Rattle.quantity.specs.Limits.{inside, pressure_limits}
use Rattle.settings.specs.Settings.{every, point_at, point_holds, rises, certificate_holds, checked}
use Rattle.settings.specs.declared.Settings.{Settings}
use Rattle.settings.specs.declared.Point.{Point}
use Rattle.settings.proofs.EveryLaws.{every_at}
use Rattle.certificate.specs.declared.Corner.{Corner}
use Rattle.certificate.proofs.OrderLaws.{at_most, is_at_most}
use Rattle.certificate.proofs.LineLaws.{at_low, at_high}
use Rattle.certificate.proofs.RisingLaws.{any_from, stands_at_own_readings, at_corner, outside_is}
use Rattle.certificate.proofs.RisingLaws as rising-laws
use Rattle.block.proofs.OpenedLaws.{certificate}
use Rattle.pressure.specs.Pressure.{barometer_in, corner, around, between, scale, outside}

module _ (g : Settings) (good : checked g ≡ given tt) where
  abbrev point : ℕ → Point
  point = point_at g.points

  abbrev at : ℕ → Corner
  at i = corner (point i)

  rising : (k : ℕ) → k < g.count - 1 → rises (point k) (point (k + 1)) ≡ true
  unfolding certificate_holds
  rising k h =
      ap (λ (j : ℕ). rises (point j) (point (j + 1))) (sym (zero-add k))
      ∙ every_at (λ (j : ℕ). rises (point j) (point (j + 1))) 0 (g.count - 1) k
      (and_true (leb 2 g.count && leb g.count 16 && every (λ (j : ℕ). point_holds g.unit (point j)) 0 g.count) _ (certificate g good)).1 h

  pub two : 2 ≤ g.count
  unfolding certificate_holds
  two =
      let c = (and_true (leb 2 g.count && leb g.count 16 && every (λ (j : ℕ). point_holds g.unit (point j)) 0 g.count) _ (certificate g good)).0 in
      leb-true 2 g.count (and_true (leb 2 g.count) _ (and_true (leb 2 g.count && leb g.count 16) _ c).0).0

  -- Whichever neighbours stand round the reading give the scale correction.
  pub any_pair : (i : ℕ) (r : ℤ) → i + 1 < g.count → around (point i) (point (i + 1)) r ≡ true
      → scale (barometer_in g) r ≡ between (point i) (point (i + 1)) r
  unfolding scale
  any_pair i r h a = any_from at (g.count - 1) rising r i 0 (g.count - 1) (omega arith) (omega arith) (omega arith) a

  -- The two lines that meet at a point agree there.
  pub lines_meet : (i : ℕ) → i + 1 + 1 < g.count → let r = (point (i + 1)).reading.v in
      between (point i) (point (i + 1)) r ≡ between (point (i + 1)) (point (i + 1 + 1)) r
  lines_meet i h =
      let r = (point (i + 1)).reading.v in
      at_high (at i) (at (i + 1)) r (stands_at_own_readings at (g.count - 1) rising i (omega arith)).1 refl
      ∙ sym (at_low (at (i + 1)) (at (i + 1 + 1)) r (stands_at_own_readings at (g.count - 1) rising (i + 1) (omega arith)).0 refl)

  -- "at a point, that point's correction": no reading of a point is outside, and it is corrected by what stands there.
  pub at_point : (i : ℕ) → i < g.count
      → (outside (barometer_in g) (point i).reading.v ≡ false) × (scale (barometer_in g) (point i).reading.v ≡ (point i).correction.0.v)
  unfolding outside scale
  at_point i h = at_corner at (g.count - 1) rising (omega (arith, two)) i (omega arith)

  -- A reading is outside exactly when it lies below the first point's or above the last's.
  pub outside_exactly : (r : ℤ) → let first = (point 0).reading.v in let last = (point (g.count - 1)).reading.v in
      (outside (barometer_in g) r ≡ true) ↔ ((lt_z r first ≡ true) ⊎ (lt_z last r ≡ true))
  unfolding outside
  outside_exactly r = rising-laws.outside_exactly at (g.count - 1) rising (omega (arith, two)) r

  -- A reading that has a scale correction is within its barometer's limits, since both ends of the certificate are: so no figure is
  -- given for one outside them.
  holds_at : (k : ℕ) → k < g.count → inside (pressure_limits g.unit) (point k).reading.v ≡ true
  unfolding certificate_holds
  holds_at k h =
      let c = (and_true (leb 2 g.count && leb g.count 16 && every (λ (j : ℕ). point_holds g.unit (point j)) 0 g.count) _ (certificate g good)).0 in
      let all = (and_true (leb 2 g.count && leb g.count 16) _ c).1 in
      (and_true (inside (pressure_limits g.unit) (point k).reading.v) _
      (ap (λ (j : ℕ). point_holds g.unit (point j)) (sym (zero-add k)) ∙ every_at (λ (j : ℕ). point_holds g.unit (point j)) 0 g.count k all h)).0

  pub within_limits_lem : (r : ℤ) → outside (barometer_in g) r ≡ false → inside (pressure_limits g.unit) r ≡ true
  unfolding outside
  within_limits_lem r e =
      both (in_turn low first r (and_true (le_z low first) (le_z first high) (holds_at 0 (omega (arith, two)))).0 ends.0)
      (in_turn r last high ends.1 (and_true (le_z low last) (le_z last high) (holds_at (g.count - 1) (omega (arith, two)))).1)
    where
      low : ℤ
      low = (pressure_limits g.unit).low

      high : ℤ
      high = (pressure_limits g.unit).high

      first : ℤ
      first = (point 0).reading.v

      last : ℤ
      last = (point (g.count - 1)).reading.v

      ends : (le_z first r ≡ true) × (le_z r last ≡ true)
      ends = and_true (le_z first r) (le_z r last) (not-false (within first last r) (sym (outside_is at (g.count - 1) rising r (omega (arith, two))) ∙ e))

      in_turn : (x y z : ℤ) → le_z x y ≡ true → le_z y z ≡ true → le_z x z ≡ true
      in_turn x y z h k = is_at_most x z (omega (arith, at_most x y h, at_most y z k))
