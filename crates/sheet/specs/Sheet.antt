-- The settings of a store as words of 32 bits, as C hands them over and gets them back: unit, height, difference, temperature
-- coefficient, psychrometer coefficient, number of points; 16 points, each a reading and a correction; the number of the anemometer's
-- points; 20 points, each a rate and a speed. Numbers with a sign in two's complement.
use Rattle.std.specs.Prelude.{cond, List, ℕ, ◌+◌, ◌-◌, ◌*◌, ◌/◌, ◌%◌, eqb, ltb, ℤ, get_or}
use Rattle.octets.specs.Bytes.{signed32, word_of}
use Rattle.quantity.specs.declared.BarometerUnit.{BarometerUnit}
use Rattle.quantity.specs.declared.BarometerUnit.TheVariants.{Hectopascals, Millimetres}
use Rattle.settings.specs.declared.Settings.{Settings}
use Rattle.settings.specs.declared.Point.{Point}
use Rattle.settings.specs.declared.RatePoint.{RatePoint}
use Rattle.block.specs.Words.{unit_of, setting_of, points_of, point_of, rates_of, rate_of, listed}

-- Where the points stand, the number of the anemometer's points, and those; and all words.
abbrev pub POINTS : ℕ
POINTS = 6

abbrev pub RATES : ℕ
RATES = POINTS + 2 * 16

abbrev pub WORDS : ℕ
WORDS = RATES + 1 + 2 * 20

-- ---- settings that were handed over

-- 0 is hPa, 1 is mm Hg.
abbrev pub unit_in : ℕ → BarometerUnit
unit_in n = cond (eqb n 0) Hectopascals Millimetres

abbrev pub number_at : List ℕ → ℕ → ℤ
number_at w i = signed32 (get_or w i 0)

-- The point with index k, and the anemometer's.
abbrev pub point_in : List ℕ → ℕ → Point
point_in w k =
    record {
      reading = record { v = number_at w (POINTS + 2 * k) };
      correction = record { 0 = record { v = number_at w (POINTS + 2 * k + 1) } };
    }

abbrev pub rate_in : List ℕ → ℕ → RatePoint
rate_in w k =
    record {
      rate = record { 0 = record { v = number_at w (RATES + 1 + 2 * k) } };
      speed = record { v = number_at w (RATES + 1 + 2 * k + 1) };
    }

-- All of them, those behind the last too.
abbrev pub points_in : List ℕ → List Point
points_in w = listed (point_in w) 0 16

abbrev pub rates_in : List ℕ → List RatePoint
rates_in w = listed (rate_in w) 0 20

abbrev pub settings_in : List ℕ → Settings
settings_in w =
    record {
      unit = unit_in (get_or w 0 0);
      height = record { 0 = record { v = number_at w 1 } };
      difference = record { 0 = record { v = number_at w 2 } };
      coefficient = record { 0 = record { v = number_at w 3 } };
      psychrometer = record { 0 = record { v = number_at w 4 } };
      count = get_or w 5 0;
      points = points_in w;
      anemometer = record { count = get_or w RATES 0; points = rates_in w };
    }

-- ---- the settings of a block, read back

abbrev pub unit_number : BarometerUnit → ℕ
unit_number Hectopascals = 0
unit_number Millimetres = 1

-- The two words of a point, by the place i that they stand behind the first: the first figure at an even place, the second at an odd
-- one. Behind the last of `count` points all words are 0.
abbrev pub paired : ℕ → ℕ → ℤ → ℤ → ℕ
paired count i first second = cond (ltb (i / 2) count) (word_of (cond (eqb (i % 2) 0) first second)) 0

-- The word at a place among the points, from the first on, and among the anemometer's.
abbrev pub points_word : List ℕ → ℕ → ℕ
points_word s i = paired (points_of s) i (point_of s (i / 2)).reading.v (point_of s (i / 2)).correction.0.v

abbrev pub rates_word : List ℕ → ℕ → ℕ
rates_word s i = paired (rates_of s) i (rate_of s (i / 2)).rate.0.v (rate_of s (i / 2)).speed.v

-- The word at a place.
unfoldable pub sheet_word : List ℕ → ℕ → ℕ
sheet_word s i =
    cond (eqb i 0) (unit_number (unit_of s))
    (cond (ltb i 5) (word_of (setting_of s i))
    (cond (eqb i 5) (points_of s)
    (cond (ltb i RATES) (points_word s (i - POINTS))
    (cond (eqb i RATES) (rates_of s)
    (rates_word s (i - (RATES + 1)))))))

abbrev pub sheet_of : List ℕ → List ℕ
sheet_of s = listed (sheet_word s) 0 WORDS
