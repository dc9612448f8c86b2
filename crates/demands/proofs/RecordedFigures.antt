-- Every answer that the formulas give makes a body that the writer takes: its figures lie within the file's limits, or are those of the
-- file's rules. Assumes nothing.
use mathlib.Core.Path.{◌≡◌, refl}
use mathlib.Core.Bool.{Bool, true}
use Prim.Native.Nat.{ℕ, zero, suc, ◌≤◌}
use native.Mathlib.Omega.{arith}
use lib.IntN.{ℤ, pos, negsuc, nat_abs, ◌-ℤ◌}
use borrow.Author.Tests.{le-leb, eq-eqb, ne_eqb}
use Rattle.number.specs.Whole.{within}
use Rattle.number.specs.Refusal.{given}
use Rattle.number.proofs.Sizes.{both, impossible}
use Rattle.quantity.specs.Limits.{inside, pressure_limits, wheelhouse, recorded_pressure, pressure_change, minutes_between}
use Rattle.quantity.proofs.LimitLaws.{either_side}
use Rattle.quantity.specs.declared.MetresPerSecond.{MetresPerSecond}
use Rattle.quantity.specs.declared.Degrees.{Degrees}
use Rattle.settings.specs.Settings.{checked}
use Rattle.settings.specs.declared.Settings.{Settings}
use Rattle.window.specs.Window.{absents}
use Rattle.window.proofs.AbsentLaws.{absents_le}
use Rattle.pressure.specs.Pressure.{barometer_in, sea_level}
use Rattle.pressure.proofs.PressureTheorems.{sea_level_recorded, change_recorded}
use Rattle.wind.specs.Answer.{IsWind}
use Rattle.std.specs.Prelude.{Some}
use Rattle.wind.proofs.WindTheorems.{speed_inside, calm, calm_only, direction_inside}
use Rattle.vapour.specs.Vapour.{lowest_vapour, recorded_vapour, relative_humidity, vapour_deficit}
use Rattle.vapour.proofs.RangeLaws.{in_range}
use Rattle.vapour.proofs.DewLaws.{dew_one}
use Rattle.humidity.specs.declared.HumidityFigures.{HumidityFigures}
use Rattle.humidity.proofs.HumidityTheorems.{Writable}
use Rattle.watchfile.specs.Rules.{pressure_right, change_right, absent_right, speed_right, direction_right, e_right, saturation_right, deficit_right, relative_right, dew_right}
use Rattle.watchfile.specs.Format.{DewRule, kept, body_right}
use Rattle.watchfile.specs.declared.Body.TheVariants.{Pressure, Tendency, Wind, Humidity}

-- a pressure as a file holds it has no sign
unsigned : (z : ℤ) → inside recorded_pressure z ≡ true → inside recorded_pressure (pos (nat_abs z)) ≡ true
unsigned (pos n) h = h
unsigned (negsuc n) h = impossible (cc)

module _ (g : Settings) (good : checked g ≡ given tt) (rule : ℕ → ℤ) where
  -- Sea level pressure.
  pub pressure_taken : (r t : ℤ) → inside (pressure_limits g.unit) r ≡ true → inside wheelhouse t ≡ true
      → body_right rule (Pressure (nat_abs (sea_level (barometer_in g) r t))) ≡ true
  unfolding pressure_right
  pressure_taken r t i j = unsigned (sea_level (barometer_in g) r t) (sea_level_recorded g good r t i j)

  -- The change between any two of it, with the absent minutes among those between.
  pub tendency_taken : (r t q s : ℤ) (is_present : ℕ → Bool) (m : ℕ)
      → inside (pressure_limits g.unit) r ≡ true → inside wheelhouse t ≡ true → inside (pressure_limits g.unit) q ≡ true → inside wheelhouse s ≡ true
      → body_right rule (Tendency (kept (sea_level (barometer_in g) r t -ℤ sea_level (barometer_in g) q s)) (absents is_present m minutes_between)) ≡ true
  unfolding change_right absent_right
  tendency_taken r t q s is_present m i j k l =
      both
      (either_side (sea_level (barometer_in g) r t -ℤ sea_level (barometer_in g) q s) (nat_abs pressure_change.high) (change_recorded g good r t q s i j k l))
      (le-leb (absents is_present m minutes_between) minutes_between (absents_le is_present m minutes_between))

-- The true wind.
pub wind_taken : (rule : ℕ → ℤ) (course ship apparent bow : ℕ) (v : MetresPerSecond) (d : Degrees) → IsWind course ship apparent bow (Some (record { speed = v; direction = d }))
    → body_right rule (Wind v.0 d.0) ≡ true
unfolding speed_right direction_right
wind_taken rule course ship apparent bow v d a = both (speed_inside course ship apparent bow v d a) (by v.0 refl)
  where
    some : (n : ℕ) → v.0 ≡ suc n → (m : ℕ) → d.0 ≡ m → 1 ≤ d.0
    some n e zero z = absurd (omega (arith, calm_only course ship apparent bow v d a z))
    some n e (suc m) z = omega arith

    by : (n : ℕ) → v.0 ≡ n → direction_right v.0 d.0 ≡ true
    by zero e = rw (eq-eqb v.0 0 e) (eq-eqb d.0 0 (calm course ship apparent bow v d a e))
    by (suc n) e =
        rw (ne_eqb v.0 0 (λ z. omega arith))
        (both (le-leb 1 d.0 (some n e d.0 refl)) (direction_inside course ship apparent bow v d a))

-- a number is within itself
itself : (z : ℤ) → within z z z ≡ true
itself (pos n) = both (le-leb n n (omega arith)) (le-leb n n (omega arith))
itself (negsuc n) = both (le-leb n n (omega arith)) (le-leb n n (omega arith))

-- Humidity.
pub humidity_taken : (rule : ℕ → ℤ) → DewRule rule → (h : HumidityFigures) → Writable h
    → body_right rule (Humidity h.e.0 h.saturation.0 h.deficit.0 h.relative h.dew.0) ≡ true
unfolding e_right saturation_right deficit_right relative_right dew_right
humidity_taken rule ruled h w =
    let e = h.e.0 in
    let s = h.saturation.0 in
    let f = w.follow in
    let in_e : recorded_vapour e ≡ true = in_range e w.least_e (omega (arith, w.e_saturation, w.most_saturation)) in
    let dew : rule e ≡ h.dew.0.v = dew_one e (rule e) h.dew.0.v (ruled e in_e) f.dew in
    both
    (both
    (both
    (both (both (le-leb lowest_vapour e w.least_e) (le-leb e s w.e_saturation)) (in_range s w.least_saturation w.most_saturation))
    (eq-eqb h.deficit.0 (vapour_deficit e s) f.deficit))
    (eq-eqb h.relative (relative_humidity e s) f.relative))
    (both in_e (rw dew (itself h.dew.0.v)))
