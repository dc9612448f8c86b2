-- Every figure that document 01 marks with *, in one table ("Figures on both sides"), as document 02 has changed them, and the one
-- that W3 asks for.
use Rattle.std.specs.Prelude.{◌≡◌, List, [], ◌∷◌, ℕ, ℤ, pos, neg_ℤ, length, Some, Ok}
use Rattle.number.specs.Refusal.{given}
use Rattle.quantity.specs.declared.BarometerUnit.{BarometerUnit}
use Rattle.quantity.specs.declared.BarometerUnit.TheVariants.{Millimetres}
use Rattle.quantity.specs.declared.BulbState.{BulbState}
use Rattle.quantity.specs.declared.BulbState.TheVariants.{Water, Ice}
use Rattle.message.specs.Receive.{Figure, mmHg}
use Rattle.settings.specs.Settings.{point_at}
use Rattle.settings.specs.declared.Point.{Point}
use Rattle.pressure.specs.Pressure.{sea_level_answer}
use Rattle.wind.specs.Answer.{IsWind}
use Rattle.humidity.specs.Humidity.{IsMoisture}
use Rattle.humidity.specs.Parts.{figures_by}

-- A row: what is given, and the figures that it comes to.
pub data Marked : Type 0 where
  -- unit; height, difference, coefficient; certificate; reading in its unit, wheelhouse temperature: sea level pressure
  pressure : BarometerUnit → ℤ → ℤ → ℤ → List Point → Figure → ℤ → ℤ → Marked
  -- course, ship's speed, apparent speed, apparent direction: speed, direction
  wind : ℕ → ℕ → ℕ → ℕ → ℕ → ℕ → Marked
  -- the wet bulb's state, dry bulb, wet bulb, station pressure, A: e, saturation, deficit, relative humidity, dew point
  humidity : BulbState → ℤ → ℤ → ℤ → ℤ → ℕ → ℕ → ℕ → ℕ → ℤ → Marked

-- What a row says: that the answer is given, and these figures.
abbrev pub Says : Marked → Type 0
Says (pressure unit h difference coefficient points reading t p) =
    sea_level_answer
    (record { unit = unit; height = h; difference = difference; coefficient = coefficient; points = length points; point = point_at points })
    reading t
    ≡ given p
Says (wind course ship apparent r v d) = IsWind course ship apparent r (Some (record { speed = record { 0 = v }; direction = record { 0 = d } }))
Says (humidity s dry wet p a e saturation deficit relative dew) = IsMoisture s dry wet p a (Ok (figures_by e saturation deficit relative dew))

abbrev pub AllSay : List Marked → Type 0
AllSay [] = Unit
AllSay (row ∷ rows) = Says row × AllSay rows

abbrev point : ℤ → ℤ → Point
point reading correction = record { reading = record { v = reading }; correction = record { 0 = record { v = correction } } }

-- "Certificate 730.0:-0.4, 750.0:-0.8 mm Hg"
abbrev certificate : List Point
certificate = point (pos 7300) (neg_ℤ (pos 4)) ∷ point (pos 7500) (neg_ℤ (pos 8)) ∷ []

unfoldable pub marked : List Marked
marked =
    -- "coefficient 24, H 10.1, reading 741.9, 12.4 °C: 990.0. Difference -26.8:", and of the two W2 says that they "become 990.0 and 986.5"
    pressure Millimetres (pos 101) (pos 0) (pos 24) certificate (mmHg (pos 7419)) (pos 124) (pos 9900)
    ∷ pressure Millimetres (pos 101) (neg_ℤ (pos 268)) (pos 24) certificate (mmHg (pos 7419)) (pos 124) (pos 9865)
    -- "Course 260, 12.5 kn, apparent 40° at 2.5 m/s: 4.8 m/s from 60°"
    ∷ wind 260 125 25 40 48 60
    -- "Course 30, 10.0 kn, apparent 0: 5.1 from 210. Course 90, 10.0 kn, 0° at 5.0: 0.1 from 270."
    ∷ wind 30 100 0 0 51 210
    ∷ wind 90 100 50 0 1 270
    -- "Course 350, 0 kn, 20° at 8.0: 8.0 from 10. Course 0, 0 kn, 0° at 10.0: from 360. All zero: 0 from 0."
    ∷ wind 350 0 80 20 80 10
    ∷ wind 0 0 100 0 100 360
    ∷ wind 0 0 0 0 0 0
    -- "Dry 20.0, wet 15.0, 1000.0 hPa, A 662: e 13.66, saturation 23.35, deficit 9.69, 59 %, dew 11.6."
    ∷ humidity Water (pos 200) (pos 150) (pos 10000) (pos 662) 1366 2335 969 59 (pos 116)
    -- "Dry and wet 0.0: e 6.11, 100 %, dew 0.0. Dry and wet -40.0: e 0.19, 100 %, dew -39.9." (at 1000.0 hPa, A 662)
    ∷ humidity Water (pos 0) (pos 0) (pos 10000) (pos 662) 611 611 0 100 (pos 0)
    ∷ humidity Water (neg_ℤ (pos 400)) (neg_ℤ (pos 400)) (pos 10000) (pos 662) 19 19 0 100 (neg_ℤ (pos 399))
    -- "it must give 2.60 hPa at -10.0": dry and wet -10.0 over ice, 91 % as appendix В has it
    ∷ humidity Ice (neg_ℤ (pos 100)) (neg_ℤ (pos 100)) (pos 10000) (pos 662) 260 287 27 91 (neg_ℤ (pos 112))
    ∷ []
