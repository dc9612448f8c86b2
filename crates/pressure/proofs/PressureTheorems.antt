-- What the worked pressures are worth. For settings that a store opens with, and readings within their limits, each lies within
-- what a watch file records, and so does any change of one: a reading is moved by at most 20.0 of its unit (5.0, 3.0 and 12.0).
-- A block that was opened works as its settings say. And the two units of pressure are kept apart, with a factor that is the paper's.
-- Assumes nothing.
use mathlib.Core.Path.{◌≡◌, refl, ap, ◌∙◌}
use mathlib.Core.Bool.{true, false, ◌&&◌}
use Prim.Native.Nat.{ℕ, ◌-◌, ◌*◌, ◌≤◌, ◌<◌}
use native.Mathlib.Omega.{arith}
use lib.Dec.{lit≤}
use lib.IntN.{ℤ, pos, neg_ℤ, nat_abs, ◌+ℤ◌, ◌-ℤ◌}
use Rattle.number.specs.Round.{nearest, rounded}
use Rattle.number.specs.Refusal.{refused, given, answer}
use Rattle.number.proofs.Sizes.{within_size, and_true, natural}
use Rattle.quantity.specs.Limits.{inside, pressure_limits, recorded_pressure, wheelhouse}
use Rattle.quantity.specs.declared.BarometerUnit.{BarometerUnit}
use Rattle.quantity.specs.declared.BarometerUnit.TheVariants.{Hectopascals, Millimetres}
use Rattle.message.specs.Receive.{Figure, pressure}
use Rattle.settings.specs.Settings.{point_at, correction, others_hold, checked}
use Rattle.settings.specs.Settings as settings
use Rattle.settings.specs.declared.Settings.{Settings}
use Rattle.certificate.specs.Line.{value_from, none_round}
use Rattle.certificate.proofs.SameLaws.{same_value, same_none}
use Rattle.block.specs.Words.{opened}
use Rattle.block.proofs.SettingsLaws.{others, each, settings_back}
use Rattle.pressure.specs.Pressure.{Barometer, barometer_in, barometer_of, corner, scale, outside, in_unit, tenths_in, temperature, per_metre, height, factor, sea_level, station_pressure, sea_level_answer, station_answer}
use Rattle.pressure.proofs.ScaleLaws.{two}
use Rattle.pressure.proofs.SizeLaws.{scale_size, temperature_size, height_size}
use Rattle.pressure.proofs.NearLaws.{Among, apart, recorded, fewest, most, tenths_near, sea_level_near, station_near}

-- ---- settings that a store opens with

module _ (g : Settings) (good : checked g ≡ given tt) where
  -- sizes of the corrections
  by_scale : (r : ℤ) → nat_abs (scale (barometer_in g) r) ≤ 50
  by_scale r = scale_size (barometer_in g) r 50 (λ j h. each_correction j (omega (arith, two g good)))
    where
      each_correction : (j : ℕ) → j < g.count → nat_abs (point_at g.points j).correction.0.v ≤ 50
      each_correction j h =
          let p = point_at g.points j in
          let i = and_true (inside (pressure_limits g.unit) p.reading.v) (inside correction p.correction.0.v) (each g good j h) in
          within_size (neg_ℤ (pos 50)) (pos 50) p.correction.0.v 50 (lit≤ tt) (lit≤ tt) i.1

  pub record Others : Type 0 where
    pub above : pos (nat_abs g.height.0.v) ≡ g.height.0.v
    pub high : nat_abs g.height.0.v ≤ 600
    pub far : nat_abs g.difference.0.v ≤ 300
    pub warm : nat_abs g.coefficient.0.v ≤ 50

  pub sizes : Others
  unfolding others_hold
  sizes =
      let h = g.height.0.v in
      let d = g.difference.0.v in
      let k = g.coefficient.0.v in
      let i = and_true (inside settings.height h && inside settings.difference d && inside settings.coefficient k) _ (others g good) in
      let j = and_true (inside settings.height h && inside settings.difference d) (inside settings.coefficient k) i.0 in
      let l = and_true (inside settings.height h) (inside settings.difference d) j.0 in
      record {
        above = natural 0 (pos 600) h l.0;
        high = within_size (pos 0) (pos 600) h 600 (lit≤ tt) (lit≤ tt) l.0;
        far = within_size (neg_ℤ (pos 300)) (pos 300) d 300 (lit≤ tt) (lit≤ tt) l.1;
        warm = within_size (neg_ℤ (pos 50)) (pos 50) k 50 (lit≤ tt) (lit≤ tt) j.1;
      }

  pub by_height : nat_abs (height g.unit g.height.0.v g.difference.0.v) ≤ 900 * per_metre g.unit
  by_height = height_size g.unit g.height.0.v g.difference.0.v 900 (omega (arith, sizes.high, sizes.far))

  pub tenths_among : (r t : ℤ) → inside (pressure_limits g.unit) r ≡ true → inside wheelhouse t ≡ true
      → Among (fewest g.unit) (most g.unit) (r +ℤ scale (barometer_in g) r +ℤ temperature g.coefficient.0.v t)
  tenths_among r t i j =
      tenths_near g.unit r (scale (barometer_in g) r) (temperature g.coefficient.0.v t) i (by_scale r)
      (temperature_size g.coefficient.0.v t 50 600 30 sizes.warm (within_size (neg_ℤ (pos 400)) (pos 600) t 600 (lit≤ tt) (lit≤ tt) j) (lit≤ tt))

  sea_level_among : (r t : ℤ) → inside (pressure_limits g.unit) r ≡ true → inside wheelhouse t ≡ true → Among 8300 11226 (sea_level (barometer_in g) r t)
  unfolding sea_level
  sea_level_among r t i j =
      sea_level_near g.unit (r +ℤ scale (barometer_in g) r +ℤ temperature g.coefficient.0.v t) (height g.unit g.height.0.v g.difference.0.v)
      (tenths_among r t i j) by_height

  -- Sea level pressure can always be written to a watch file.
  pub sea_level_recorded : (r t : ℤ) → inside (pressure_limits g.unit) r ≡ true → inside wheelhouse t ≡ true
      → inside recorded_pressure (sea_level (barometer_in g) r t) ≡ true
  sea_level_recorded r t i j = recorded (sea_level_among r t i j) (lit≤ tt) (lit≤ tt)

  -- So can the change between any two of it.
  pub change_recorded : (r t q s : ℤ)
      → inside (pressure_limits g.unit) r ≡ true → inside wheelhouse t ≡ true → inside (pressure_limits g.unit) q ≡ true → inside wheelhouse s ≡ true
      → nat_abs (sea_level (barometer_in g) r t -ℤ sea_level (barometer_in g) q s) ≤ 3000
  change_recorded r t q s i j k l = apart 3000 (sea_level_among r t i j) (sea_level_among q s k l) (lit≤ tt)

  pub station_recorded : (r : ℤ) → inside (pressure_limits g.unit) r ≡ true → inside recorded_pressure (station_pressure (barometer_in g) r) ≡ true
  unfolding station_pressure
  station_recorded r i = recorded (station_near g.unit r (scale (barometer_in g) r) i (by_scale r)) (lit≤ tt) (lit≤ tt)

-- ---- the same settings, the same work

-- Two barometers that differ at most in what stands behind their points.
pub record Alike (b c : Barometer) : Type 0 where
  pub unit : b.unit ≡ c.unit
  pub height : b.height ≡ c.height
  pub difference : b.difference ≡ c.difference
  pub coefficient : b.coefficient ≡ c.coefficient
  pub points : b.points ≡ c.points
  pub point : (i : ℕ) → i < c.points → b.point i ≡ c.point i

module _ (b c : Barometer) (a : Alike b c) (r : ℤ) where
  -- their points are corners of the same line
  at : (i : ℕ) → i < c.points → corner (b.point i) ≡ corner (c.point i)
  at i h = ap corner (a.point i h)

  pub alike_scale : scale b r ≡ scale c r
  unfolding scale
  alike_scale =
      ap (λ (n : ℕ). value_from (λ i. corner (b.point i)) r 0 (n - 1)) a.points
      ∙ same_value (λ i. corner (b.point i)) (λ i. corner (c.point i)) r c.points at

  pub alike_outside : outside b r ≡ outside c r
  unfolding outside
  alike_outside =
      ap (λ (n : ℕ). none_round (λ i. corner (b.point i)) r (n - 1)) a.points
      ∙ same_none (λ i. corner (b.point i)) (λ i. corner (c.point i)) r c.points at

  pub alike_sea_level : (t : ℤ) → sea_level b r t ≡ sea_level c r t
  unfolding sea_level
  alike_sea_level t = rw (alike_scale, a.unit, a.coefficient, a.height, a.difference)

  pub alike_station : station_pressure b r ≡ station_pressure c r
  unfolding station_pressure
  alike_station = rw (alike_scale, a.unit)

-- A block that was opened holds the barometer of its settings.
pub opened_alike : (g : Settings) → checked g ≡ given tt → Alike (barometer_of (opened g)) (barometer_in g)
opened_alike g good =
    let s = settings_back g good in
    record { unit = s.unit; height = s.height; difference = s.difference; coefficient = s.coefficient; points = s.points; point = s.point }

-- ---- "millimetres of mercury and hectopascals, are kept apart until a formula joins them"

-- "times 1.3332 if in mm Hg", exactly: in ten-thousandths
pub factor_is : (factor Hectopascals ≡ pos 10000) × (factor Millimetres ≡ pos 13332)
unfolding nearest rounded
factor_is = (refl, refl)

-- A figure in the barometer's own unit says its tenths.
pub own_unit : (u : BarometerUnit) (z : ℤ) → (in_unit u (pressure u z) ≡ true) × (tenths_in u (pressure u z) ≡ z)
unfolding in_unit tenths_in
own_unit Hectopascals z = (refl, refl)
own_unit Millimetres z = (refl, refl)

-- Any other figure, whatever its number, is refused.
pub other_unit : (b : Barometer) (f : Figure) (t : ℤ) → in_unit b.unit f ≡ false → (sea_level_answer b f t ≡ refused 7) × (station_answer b f ≡ refused 7)
unfolding sea_level_answer station_answer answer
other_unit b f t h = (rw h, rw h)
