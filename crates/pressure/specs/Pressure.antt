-- Sea level pressure and station pressure (document 01, "Pressure and tendency" and "Humidity"; document 02, W2; 004, section 6).
-- A reading comes with its unit, as a figure. Without it readings, corrections and temperatures are in tenths, but the height
-- correction, which is exact, in ten-thousandths.
use Rattle.std.specs.Prelude.{Bool, true, false, not, ◌||◌, List, [], ◌∷◌, ℕ, ◌-◌, ◌*◌, ℤ, pos, ◌+ℤ◌, ◌*ℤ◌, Option, Some, None, Result, Ok, Err}
use Rattle.number.specs.declared.Number.{Number}
use Rattle.number.specs.Round.{rounded}
use Rattle.number.specs.Refusal.{Test, Answer, refused, given, answer}
use Rattle.quantity.specs.Limits.{inside, wheelhouse}
use Rattle.quantity.specs.Convert.{in_hectopascals}
use Rattle.quantity.specs.declared.BarometerUnit.{BarometerUnit}
use Rattle.quantity.specs.declared.Hectopascals as hectopascals
use Rattle.quantity.specs.declared.BarometerUnit.TheVariants.{Hectopascals, Millimetres}
use Rattle.message.specs.Receive.{Figure, hPa, mmHg, by_unit, itself, nought}
use Rattle.settings.specs.Settings.{point_at}
use Rattle.settings.specs.declared.Settings.{Settings}
use Rattle.settings.specs.declared.Point.{Point}
use Rattle.certificate.specs.Line.{stands, value_from, none_round}
use Rattle.certificate.specs.Line as line
use Rattle.certificate.specs.declared.Corner.{Corner}
use Rattle.block.specs.Words.{unit_of, setting_of, points_of, point_of}
use Rattle.pressure.specs.declared.BarometerReading.{BarometerReading}
use Rattle.pressure.specs.declared.BarometerReading.TheVariants as reading
use Rattle.pressure.specs.declared.PressureRefusal.{PressureRefusal}
use Rattle.pressure.specs.declared.PressureRefusal.TheVariants.{OutsideLimits, OutsideCertificate}

-- What the corrections of a barometer rest on: five settings, and the certificate's points by their places from 0.
pub record Barometer : Type 0 where
  pub unit : BarometerUnit
  pub height : ℤ
  pub difference : ℤ
  pub coefficient : ℤ
  pub points : ℕ
  pub point : ℕ → Point

-- As settings give it, and as a block holds it.
abbrev pub barometer_in : Settings → Barometer
barometer_in s =
    record {
      unit = s.unit;
      height = s.height.0.v;
      difference = s.difference.0.v;
      coefficient = s.coefficient.0.v;
      points = s.count;
      point = point_at s.points;
    }

abbrev pub barometer_of : List ℕ → Barometer
barometer_of s =
    record {
      unit = unit_of s;
      height = setting_of s 1;
      difference = setting_of s 2;
      coefficient = setting_of s 3;
      points = points_of s;
      point = point_of s;
    }

-- ---- a reading in its unit

-- Document 01's figure of each case.
abbrev pub reading_as : BarometerReading → Figure
reading_as (reading.Hectopascals p) = hPa p.0.v
reading_as (reading.Millimetres p) = mmHg p.0.v

-- Whether a figure is a pressure in a barometer's unit.
abbrev no : ℤ → Bool
no z = false

unfoldable pub in_unit : BarometerUnit → Figure → Bool
in_unit Hectopascals f = by_unit (λ z. true) no no no no no false f
in_unit Millimetres f = by_unit no (λ z. true) no no no no false f

-- Its tenths. Of any other figure no pressure is worked: "millimetres of mercury and hectopascals, are kept apart until a
-- formula joins them".
unfoldable pub tenths_in : BarometerUnit → Figure → ℤ
tenths_in Hectopascals f = by_unit itself nought nought nought nought nought (pos 0) f
tenths_in Millimetres f = by_unit nought itself nought nought nought nought (pos 0) f

-- ---- the three corrections

-- A point of the certificate as a corner of its line: it reads a pressure, and gives that reading's correction.
abbrev pub corner : Point → Corner
corner p = record { reads = record { v = p.reading.v }; gives = record { v = p.correction.0.v } }

-- "the two certificate points round the reading"
abbrev pub around : Point → Point → ℤ → Bool
around p q reading = stands (corner p) (corner q) reading

-- "the straight line between the two .. points, rounded to 0.1"
abbrev pub between : Point → Point → ℤ → ℤ
between p q reading = line.between (corner p) (corner q) reading

-- "Scale correction: the straight line between the two certificate points round the reading, rounded to 0.1"
unfoldable pub scale : Barometer → ℤ → ℤ
scale b reading = value_from (λ i. corner (b.point i)) reading 0 (b.points - 1)

-- 12: "barometer reading outside the certificate": no neighbours stand round it
unfoldable pub outside : Barometer → ℤ → Bool
outside b reading = none_round (λ i. corner (b.point i)) reading (b.points - 1)

-- "Temperature correction: coefficient times wheelhouse temperature, rounded to 0.1": thousandths times tenths
unfoldable pub temperature : ℤ → ℤ → ℤ
temperature coefficient t = rounded (coefficient *ℤ t) 1000

-- "Height correction: (H + difference) times 0.133 hPa or 0.1 mm Hg" (004, formula 3), and since W2 "the height correction is
-- exact": tenths of a metre times thousandths of the unit a metre are ten-thousandths of the unit
abbrev pub per_metre : BarometerUnit → ℕ
per_metre Hectopascals = 133
per_metre Millimetres = 100

unfoldable pub height : BarometerUnit → ℤ → ℤ → ℤ
height unit h difference = (h +ℤ difference) *ℤ pos (per_metre unit)

-- ---- the two pressures, in tenths of hPa

-- "times 1.3332 if in mm Hg, rounded to 0.1 hPa"
abbrev pub to_hectopascals : BarometerUnit → ℤ → ℤ
to_hectopascals Hectopascals tenths = tenths
to_hectopascals Millimetres tenths = in_hectopascals tenths

-- "reading plus the three", in ten-thousandths of the unit, of which 1000 are a tenth; the scale correction is given
abbrev pub corrected : Barometer → ℤ → ℤ → ℤ → ℤ
corrected b reading byScale t =
    (reading +ℤ byScale +ℤ temperature b.coefficient t) *ℤ pos 1000 +ℤ height b.unit b.height b.difference

-- "times 1.3332 if in mm Hg": the factor in ten-thousandths, by the conversion itself: 1000.0 of the unit are 1000.0 or 1333.2 hPa
abbrev pub factor : BarometerUnit → ℤ
factor unit = to_hectopascals unit (pos 10000)

-- "only the final pressure is rounded": the product, of which 1000 * 10000 are a tenth of hPa
abbrev pub rounded_once : BarometerUnit → ℤ → ℤ
rounded_once unit parts = rounded (parts *ℤ factor unit) (1000 * 10000)

-- "Sea level pressure: reading plus the three, times 1.3332 if in mm Hg, rounded to 0.1 hPa."
unfoldable pub sea_level : Barometer → ℤ → ℤ → ℤ
sea_level b reading t = rounded_once b.unit (corrected b reading (scale b reading) t)

-- "Station pressure: reading plus scale correction, times 1.3332 and rounded to 0.1 if in mm Hg."
unfoldable pub station_pressure : Barometer → ℤ → ℤ
station_pressure b reading = to_hectopascals b.unit (reading +ℤ scale b reading)

-- ---- the answers

-- 7: a reading in another unit than the barometer's, or a temperature outside limits; 12: a reading outside the certificate. A reading
-- outside its own limits is none that is kept.
abbrev pub outside_test : Barometer → ℤ → Test ℕ
outside_test b reading = record { refusal = 12; holds = outside b reading }

unfoldable pub scaled : Barometer → ℤ → Answer ℕ ℤ
scaled b reading = answer (outside_test b reading ∷ []) (scale b reading)

unfoldable pub sea_level_answer : Barometer → Figure → ℤ → Answer ℕ ℤ
sea_level_answer b f t =
    answer
    (record { refusal = 7; holds = not (in_unit b.unit f) || not (inside wheelhouse t) } ∷ outside_test b (tenths_in b.unit f) ∷ [])
    (sea_level b (tenths_in b.unit f) t)

unfoldable pub station_answer : Barometer → Figure → Answer ℕ ℤ
station_answer b f =
    answer
    (record { refusal = 7; holds = not (in_unit b.unit f) } ∷ outside_test b (tenths_in b.unit f) ∷ [])
    (station_pressure b (tenths_in b.unit f))

-- Document 01's number and value of each case.
abbrev pub scaled_as : Option Number → Answer ℕ ℤ
scaled_as (Some n) = given n.v
scaled_as None = refused 12

abbrev pub pressure_as : Result hectopascals.Hectopascals PressureRefusal → Answer ℕ ℤ
pressure_as (Ok p) = given p.0.v
pressure_as (Err OutsideLimits) = refused 7
pressure_as (Err OutsideCertificate) = refused 12
