-- The words of the block, for any block whatever: the settings as they are laid and read back, and a channel's part.
use Rattle.std.specs.Prelude.{Bool, ◌||◌, cond, List, [], ◌∷◌, ◌++◌, ℕ, zero, suc, ◌+◌, ◌-◌, ◌*◌, ◌/◌, min, eqb, ltb, ℤ, get_or, take, drop}
use Rattle.quantity.specs.declared.BarometerUnit.{BarometerUnit}
use Rattle.quantity.specs.declared.BarometerUnit.TheVariants.{Hectopascals, Millimetres}
use Rattle.settings.specs.Settings.{nowhere, point_at, no_rate, rate_point_at}
use Rattle.settings.specs.declared.Settings.{Settings}
use Rattle.settings.specs.declared.Point.{Point}
use Rattle.settings.specs.declared.RatePoint.{RatePoint}
use Rattle.window.specs.Layout.{WINDOW}
use Rattle.cell.specs.Cells.{biased, unbiased}
use Rattle.block.specs.Layout.{MARK, POINTS, RATES, SETTINGS, WORDS, base}

-- ---- the settings as they are laid

-- The first word: the mark of a store and the unit at once.
abbrev pub unit_word : BarometerUnit → ℕ
unit_word Hectopascals = MARK
unit_word Millimetres = MARK + 1

abbrev pub point_word : Point → ℕ
point_word p = biased p.reading.v + 65536 * biased p.correction.0.v

abbrev pub rate_word : RatePoint → ℕ
rate_word p = biased p.rate.0.v + 65536 * biased p.speed.v

-- A certificate's word at place k: behind its last point 0.
abbrev pub up_to : ℕ → ℕ → ℕ → ℕ
up_to count k word = cond (ltb k count) word 0

-- The settings' word at a place.
unfoldable pub setting_word : Settings → ℕ → ℕ
setting_word s i =
    cond (eqb i 0) (unit_word s.unit)
    (cond (eqb i 1) (biased s.height.0.v)
    (cond (eqb i 2) (biased s.difference.0.v)
    (cond (eqb i 3) (biased s.coefficient.0.v)
    (cond (eqb i 4) (biased s.psychrometer.0.v)
    (cond (eqb i 5) s.count
    (cond (ltb i RATES) (up_to s.count (i - POINTS) (point_word (point_at s.points (i - POINTS))))
    (cond (eqb i RATES) s.anemometer.count
    (up_to s.anemometer.count (i - (RATES + 1)) (rate_word (rate_point_at s.anemometer.points (i - (RATES + 1))))))))))))

-- A list of what stands at n places from i on.
unfoldable pub listed : {A : Type 0} → (ℕ → A) → ℕ → ℕ → List A
listed f i zero = []
listed f i (suc n) = f i ∷ listed f (suc i) n

-- A block that was just opened, with any settings whatever: their words, and nothing heard.
abbrev pub opened_word : Settings → ℕ → ℕ
opened_word s i = cond (ltb i SETTINGS) (setting_word s i) 0

abbrev pub opened : Settings → List ℕ
opened s = listed (opened_word s) 0 WORDS

-- ---- the settings as they are read back

-- Whether a block is a store: its first word is that of a unit. ("a refused opening gives no store")
abbrev pub is_store : List ℕ → Bool
is_store s = eqb (get_or s 0 0) (unit_word Hectopascals) || eqb (get_or s 0 0) (unit_word Millimetres)

-- The unit that a block is set to.
abbrev pub unit_of : List ℕ → BarometerUnit
unit_of s = cond (eqb (get_or s 0 0) (unit_word Hectopascals)) Hectopascals Millimetres

-- The settings that a block holds, by their words' places.
abbrev pub setting_of : List ℕ → ℕ → ℤ
setting_of s i = unbiased (get_or s i 0)

abbrev pub points_of : List ℕ → ℕ
points_of s = min (get_or s 5 0) 16

abbrev pub point_in : ℕ → Point
point_in w = record { reading = record { v = unbiased w }; correction = record { 0 = record { v = unbiased (w / 65536) } } }

abbrev pub point_of : List ℕ → ℕ → Point
point_of s i = cond (ltb i 16) (point_in (get_or s (POINTS + i) 0)) nowhere

-- The certificate, a word for each of its points.
abbrev pub certificate_of : List ℕ → List ℕ
certificate_of s = take (points_of s) (drop POINTS s)

abbrev pub rates_of : List ℕ → ℕ
rates_of s = min (get_or s RATES 0) 20

abbrev pub rate_in : ℕ → RatePoint
rate_in w = record { rate = record { 0 = record { v = unbiased w } }; speed = record { v = unbiased (w / 65536) } }

abbrev pub rate_of : List ℕ → ℕ → RatePoint
rate_of s i = cond (ltb i 20) (rate_in (get_or s (RATES + 1 + i) 0)) no_rate

-- The words of the anemometer's certificate.
abbrev pub rate_words_of : List ℕ → List ℕ
rate_words_of s = take (rates_of s) (drop (RATES + 1) s)

-- ---- the windows

-- A channel's part of the block, and the block with that part replaced.
abbrev pub window_of : ℕ → List ℕ → List ℕ
window_of c s = take WINDOW (drop (base c) s)

abbrev pub replaced : List ℕ → ℕ → List ℕ → List ℕ
replaced s c w = take (base c) s ++ (w ++ drop WINDOW (drop (base c) s))
