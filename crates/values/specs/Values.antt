-- From numbers to values: the settings of an `open` line, and the records of a `write` line. Each number is read as one of the width
-- that it is to have, so that any numbers have a value.
use Rattle.std.specs.Prelude.{cond, List, [], ◌∷◌, ℕ, zero, suc, ◌+◌, ◌-◌, ◌*◌, ◌%◌, min, ltb, eqb, get_or}
use Rattle.std.proofs.Math.IntN.{sub_ℕ}
use Rattle.number.specs.declared.Kept.{Kept}
use Rattle.quantity.specs.declared.BarometerUnit.{BarometerUnit}
use Rattle.quantity.specs.declared.BarometerUnit.TheVariants.{Hectopascals, Millimetres}
use Rattle.settings.specs.Settings.{nowhere, no_rate}
use Rattle.settings.specs.declared.Point.{Point}
use Rattle.settings.specs.declared.RatePoint.{RatePoint}
use Rattle.settings.specs.declared.Anemometer.{Anemometer}
use Rattle.settings.specs.declared.Settings.{Settings}
use Rattle.watchfile.specs.Format.{blank}
use Rattle.watchfile.specs.declared.Body.{Body}
use Rattle.watchfile.specs.declared.Body.TheVariants as body
use Rattle.watchfile.specs.declared.Record.{Record}

-- The number at a place, 0 where there is none.
abbrev pub at : List ℕ → ℕ → ℕ
at numbers i = get_or numbers i 0

-- A number with a sign, laid as itself plus 2147483648.
abbrev pub kept_of : ℕ → Kept
kept_of n = record { v = sub_ℕ (n % 4294967296) 2147483648 }

-- What a rule makes of the numbers from k on, one after the other.
unfoldable pub each : {A : Type 0} → (ℕ → A) → ℕ → ℕ → List A
each f k zero = []
each f k (suc n) = f k ∷ each f (suc k) n

-- ---- UNIT H DIFFERENCE COEFFICIENT A READING:CORRECTION ... anemometer RATE:SPEED ...

abbrev pub unit_of : ℕ → BarometerUnit
unit_of n = cond (eqb n 0) Hectopascals Millimetres

-- The word `anemometer`, laid as what no number with a sign is laid as, and 0 behind it: two numbers, as for a point.
abbrev pub anemometer_word : ℕ
anemometer_word = 4294967296

-- How many of n words stand before the first `anemometer`, all where it is left out. The numbers of the first stand from place k on.
unfoldable pub before_word : List ℕ → ℕ → ℕ → ℕ
before_word numbers k zero = 0
before_word numbers k (suc n) = cond (eqb (at numbers k) anemometer_word) 0 (suc (before_word numbers (k + 2) n))

-- How many of the words behind A are points of the barometer: those before `anemometer`.
abbrev pub barometer_points : List ℕ → ℕ → ℕ
barometer_points numbers words = before_word numbers 5 (words - 5)

-- Point i of a certificate of b points.
abbrev pub point_of : List ℕ → ℕ → ℕ → Point
point_of numbers b i =
    cond (ltb i b) (record { reading = kept_of (at numbers (5 + 2 * i)); correction = record { 0 = kept_of (at numbers (6 + 2 * i)) } }) nowhere

-- Point i of an anemometer's certificate of n points, behind b points of the barometer and `anemometer`. A second `anemometer` is read as
-- a point too, of the rate -2147483648: so such a certificate breaks its rules.
abbrev pub rate_point_of : List ℕ → ℕ → ℕ → ℕ → RatePoint
rate_point_of numbers b n i =
    cond (ltb i n) (record { rate = record { 0 = kept_of (at numbers (7 + 2 * (b + i))) }; speed = kept_of (at numbers (8 + 2 * (b + i))) }) no_rate

-- Every point is counted, those behind the 16th (the anemometer's 20th) are counted only. The count is a number of 32 bits: a longer
-- certificate has the largest.
abbrev pub count_of : ℕ → ℕ
count_of n = min n 4294967295

-- The anemometer of a line with so many words behind the name, b of them points of the barometer: with nothing behind the word, and
-- without the word, it has no points.
abbrev pub anemometer_of : List ℕ → ℕ → ℕ → Anemometer
anemometer_of numbers words b =
    record { count = count_of (words - 6 - b); points = each (rate_point_of numbers b (words - 6 - b)) 0 20 }

unfoldable pub settings_of : List ℕ → ℕ → Settings
settings_of numbers words =
    record {
      unit = unit_of (at numbers 0);
      height = record { 0 = kept_of (at numbers 1) };
      difference = record { 0 = kept_of (at numbers 2) };
      coefficient = record { 0 = kept_of (at numbers 3) };
      psychrometer = record { 0 = kept_of (at numbers 4) };
      count = count_of (barometer_points numbers words);
      points = each (point_of numbers (barometer_points numbers words)) 0 16;
      anemometer = anemometer_of numbers words (barometer_points numbers words);
    }

-- ---- ROOM RECORD ...

-- The body whose kind's letter, minute and fields stand from a place on.
abbrev pub body_of : List ℕ → ℕ → Body
body_of numbers k =
    cond (eqb (at numbers k) 0x54 {- T -}) (body.Tendency (kept_of (at numbers (k + 2))) (at numbers (k + 3) % 256))
    (cond (eqb (at numbers k) 0x57 {- W -}) (body.Wind (at numbers (k + 2) % 65536) (at numbers (k + 3) % 65536))
    (cond (eqb (at numbers k) 0x48 {- H -}) (body.Humidity (at numbers (k + 2) % 65536) (at numbers (k + 3) % 65536) (at numbers (k + 4) % 65536) (at numbers (k + 5) % 256) (kept_of (at numbers (k + 6))))
    (body.Pressure (at numbers (k + 2) % 65536))))

-- Record i of a line with so many words behind the name.
abbrev pub record_of : List ℕ → ℕ → ℕ → Record
record_of numbers words i =
    cond (ltb (1 + i) words) (record { minute = at numbers (2 + 7 * i) % 4294967296; body = body_of numbers (1 + 7 * i) }) blank

unfoldable pub records_of : List ℕ → ℕ → List Record
records_of numbers words = each (record_of numbers words) 0 48
