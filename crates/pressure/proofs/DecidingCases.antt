-- Cases in which the place of rounding decides: sea level pressure by its rule, and by rules that round elsewhere. By computing.
-- Assumes nothing.
use mathlib.Core.Path.{◌≡◌, refl}
use mathlib.Core.List.{[], ◌∷◌}
use lib.IntN.{ℤ, pos, neg_ℤ, ◌+ℤ◌, ◌*ℤ◌}
use Rattle.number.specs.Round.{nearest, rounded}
use Rattle.quantity.specs.Limits.{pressure_limits}
use Rattle.quantity.specs.declared.BarometerUnit.{BarometerUnit}
use Rattle.quantity.specs.declared.BarometerUnit.TheVariants.{Hectopascals, Millimetres}
use Rattle.settings.specs.Settings.{point_at}
use Rattle.settings.specs.declared.Point.{Point}
use Rattle.certificate.specs.Line.{value_from}
use Rattle.pressure.specs.Pressure.{Barometer, scale, temperature, height, corrected, to_hectopascals, rounded_once, sea_level}
use Rattle.pressure.specs.Before.{sea_level_before}

abbrev pub end : ℤ → Point
end reading = record { reading = record { v = reading }; correction = record { 0 = record { v = pos 0 } } }

-- Unit, height, difference and coefficient; a certificate without corrections.
abbrev pub barometer : BarometerUnit → ℤ → ℤ → ℤ → Barometer
barometer unit h difference coefficient =
    record {
      unit = unit;
      height = h;
      difference = difference;
      coefficient = coefficient;
      points = 2;
      point = point_at (end (pressure_limits unit).low ∷ end (pressure_limits unit).high ∷ []);
    }

-- 740.0 mm Hg, the sea 0.5 m lower: 739.95 times 1.3332 is 986.501. With -0.05 rounded to -0.1, as before W2, it was 986.4; with
-- 739.95 rounded to 740.0 it would be 986.6.
pub in_millimetres : let b = barometer Millimetres (pos 0) (neg_ℤ (pos 5)) (pos 0) in
    (sea_level b (pos 7400) (pos 0) ≡ pos 9865)
    × (sea_level_before b (pos 7400) (pos 0) ≡ pos 9864)
    × (to_hectopascals Millimetres (rounded (corrected b (pos 7400) (pos 0) (pos 0)) 1000) ≡ pos 9866)
unfolding sea_level sea_level_before value_from scale temperature height nearest rounded
in_millimetres = (refl, refl, refl)

-- 1000.0 hPa at 1.1 m: 1000.1463. With 0.1463 rounded to 0.15 it would be 1000.2.
pub in_hectopascals_lem :
    (sea_level (barometer Hectopascals (pos 11) (pos 0) (pos 0)) (pos 10000) (pos 0) ≡ pos 10001)
    × (rounded_once Hectopascals (pos 10000 *ℤ pos 1000 +ℤ rounded (height Hectopascals (pos 11) (pos 0)) 100 *ℤ pos 100) ≡ pos 10002)
unfolding sea_level value_from scale temperature height nearest rounded
in_hectopascals_lem = (refl, refl)

-- 1000.0 hPa at 0.1 m, coefficient 25, 1.8 °C: the temperature correction, 0.045, is rounded to 0.0, so 1000.0133. With both exact it
-- would be 1000.0583.
pub temperature_stays_rounded :
    (sea_level (barometer Hectopascals (pos 1) (pos 0) (pos 25)) (pos 10000) (pos 18) ≡ pos 10000)
    × (rounded_once Hectopascals (pos 10000 *ℤ pos 1000 +ℤ pos 25 *ℤ pos 18 +ℤ height Hectopascals (pos 1) (pos 0)) ≡ pos 10001)
unfolding sea_level value_from scale temperature height nearest rounded
temperature_stays_rounded = (refl, refl)
