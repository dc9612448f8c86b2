-- The answers, by the tests that the code makes. Assumes nothing.
use mathlib.Core.Path.{◌≡◌, refl, sym, ap, ap₂, ◌∙◌}
use mathlib.Core.Bool.{Bool, true, false}
use lib.IntN.{ℤ, ◌+ℤ◌}
use Rattle.std.specs.Prelude.{Option, Some, None}
use Rattle.number.specs.Refusal.{refused, given, answer}
use Rattle.number.specs.declared.Number.{Number}
use Rattle.quantity.specs.Limits.{inside, wheelhouse}
use Rattle.quantity.specs.declared.BarometerUnit.{BarometerUnit}
use Rattle.pressure.specs.Pressure.{Barometer, reading_as, in_unit, tenths_in, scale, outside, corrected, to_hectopascals, rounded_once, sea_level, station_pressure, scaled, scaled_as, sea_level_answer, station_answer}
use Rattle.pressure.specs.declared.BarometerReading.{BarometerReading}

module _ (b : Barometer) (r : ℤ) where
  -- ---- what an answer of the scale correction says

  pub none_there : {x : Option Number} → x ≡ None → scaled_as x ≡ scaled b r → outside b r ≡ true
  unfolding scaled answer
  none_there n e = go (outside b r) refl
    where
      go : (t : Bool) → outside b r ≡ t → outside b r ≡ true
      go true h = h
      go false h = let e' = rw (n, h) at e in cc

  pub record Worked (z : ℤ) : Type 0 where
    pub there : outside b r ≡ false
    pub is : z ≡ scale b r

  pub worked : {x : Option Number} {z : Number} → x ≡ Some z → scaled_as x ≡ scaled b r → Worked z.v
  unfolding scaled answer
  worked {x} {z} n e = go (outside b r) refl
    where
      go : (t : Bool) → outside b r ≡ t → Worked z.v
      go true h = let e' = rw (n, h) at e in record { there = cc; is = cc }
      go false h = let e' = rw (n, h) at e in record { there = h; is = cc }

-- ---- the answers, of a reading x, in a barometer's unit u

module _ (b : Barometer) (x : BarometerReading) {u : BarometerUnit} (e : u ≡ b.unit) where
  in_unit_lem : {t : Bool} → in_unit u (reading_as x) ≡ t → in_unit b.unit (reading_as x) ≡ t
  in_unit_lem i = sym (ap (λ (v : BarometerUnit). in_unit v (reading_as x)) e) ∙ i

  pub station_unit : in_unit u (reading_as x) ≡ false → refused 7 ≡ station_answer b (reading_as x)
  unfolding station_answer answer
  station_unit i = rw (in_unit_lem i)

  module _ (t : ℤ) where
    pub sea_unit : in_unit u (reading_as x) ≡ false → refused 7 ≡ sea_level_answer b (reading_as x) t
    unfolding sea_level_answer answer
    sea_unit i = rw (in_unit_lem i)

    pub sea_limits : in_unit u (reading_as x) ≡ true → inside wheelhouse t ≡ false → refused 7 ≡ sea_level_answer b (reading_as x) t
    unfolding sea_level_answer answer
    sea_limits i j = rw (in_unit_lem i, j)

  -- it has r tenths
  module _ {r : ℤ} (h : r ≡ tenths_in u (reading_as x)) where
    tenths : r ≡ tenths_in b.unit (reading_as x)
    tenths = h ∙ ap (λ (v : BarometerUnit). tenths_in v (reading_as x)) e

    certified : {t : Bool} → outside b r ≡ t → outside b (tenths_in b.unit (reading_as x)) ≡ t
    certified o = sym (ap (outside b) tenths) ∙ o

    -- ---- station pressure

    pub station_outside : in_unit u (reading_as x) ≡ true → outside b r ≡ true → refused 12 ≡ station_answer b (reading_as x)
    unfolding station_answer answer
    station_outside i o = rw (in_unit_lem i, certified o)

    -- p is worked of y tenths, the reading plus its correction z
    pub station_given : {p y z : ℤ} → in_unit u (reading_as x) ≡ true → Worked b r z
        → y ≡ r +ℤ z → p ≡ to_hectopascals u y → given p ≡ station_answer b (reading_as x)
    unfolding station_answer station_pressure answer
    station_given i w f k =
        rw (in_unit_lem i, certified w.there)
        (ap given (k ∙ ap₂ to_hectopascals e (f ∙ ap (λ (s : ℤ). r +ℤ s) w.is) ∙ ap (station_pressure b) tenths))

    -- ---- sea level pressure, at t tenths of °C

    pub sea_outside : (t : ℤ) → in_unit u (reading_as x) ≡ true → inside wheelhouse t ≡ true → outside b r ≡ true → refused 12 ≡ sea_level_answer b (reading_as x) t
    unfolding sea_level_answer answer
    sea_outside t i j o = rw (in_unit_lem i, j, certified o)

    -- p is worked of y, the reading plus its three corrections, z by the scale
    pub sea_given : {p y z : ℤ} (t : ℤ) → in_unit u (reading_as x) ≡ true → inside wheelhouse t ≡ true → Worked b r z
        → y ≡ corrected b r z t → p ≡ rounded_once u y → given p ≡ sea_level_answer b (reading_as x) t
    unfolding sea_level_answer sea_level answer
    sea_given t i j w f k =
        rw (in_unit_lem i, j, certified w.there)
        (ap given (k ∙ ap₂ rounded_once e (f ∙ ap (λ (s : ℤ). corrected b r s t) w.is) ∙ ap (λ (q : ℤ). sea_level b q t) tenths))
