-- What a store keeps, asked by channel: its newest minute, the reading of a minute, and which minutes of a stretch are there.
use Rattle.std.specs.Prelude.{◌≡◌, not, ◌&&◌, cond, List, [], ◌∷◌, ℕ, ◌-◌, eqb, leb, ltb, ℤ, pos, nat_abs, length}
use Rattle.number.specs.Refusal.{Numbered, Test, test, Answer, refused, given, answer, numbered_in}
use Rattle.quantity.specs.Limits.{last_minute}
use Rattle.quantity.specs.States.{state_number}
use Rattle.message.specs.Receive.{Figure, hPa, mmHg, °C, m/s, kn, deg, wick, none}
use Rattle.cell.specs.Cells.{CHANNELS, Recall, absent, recalled, is_present}
use Rattle.block.specs.Words.{listed}
use Rattle.store.specs.Block.{no_store, next_in, recall_of}
use Rattle.told.specs.Told.{refusal_in}
use Rattle.told.specs.Told as told
use Rattle.told.specs.declared.Refusal.{Refusal}
use Rattle.kept.specs.declared.NewestTold.{NewestTold}
use Rattle.kept.specs.declared.ReadingTold.{ReadingTold}

-- 2: "channel above 5"
abbrev pub no_channel : ℕ → Test Numbered
no_channel c = test 2 [] (not (ltb c CHANNELS))

-- ---- the newest minute

-- 11: nothing is heard of the channel yet
abbrev pub newest_tests : List ℕ → ℕ → List (Test Numbered)
newest_tests s c = no_store s ∷ no_channel c ∷ test 11 [] (eqb (next_in s c) 0) ∷ []

unfoldable pub newest_of : List ℕ → ℕ → Answer Numbered ℕ
newest_of s c = answer (newest_tests s c) (next_in s c - 1)

-- The minute is 0 beside a refusal.
abbrev pub newest_in : Answer Numbered ℕ → NewestTold
newest_in (refused r) = record { number = r.number; minute = 0 }
newest_in (given m) = record { number = 0; minute = m }

-- ---- the reading of a minute

-- 5, "minute above 16,777,215"; 11, "reading absent or no longer kept", with channel and minute
abbrev pub reading_tests : List ℕ → ℕ → ℕ → List (Test Numbered)
reading_tests s c m =
    no_store s
    ∷ no_channel c
    ∷ test 5 [] (ltb last_minute m)
    ∷ test 11 (c ∷ m ∷ []) (not (is_present (recall_of s c m)))
    ∷ []

unfoldable pub reading_of : List ℕ → ℕ → ℕ → Answer Numbered Recall
reading_of s c m = answer (reading_tests s c m) (recall_of s c m)

-- A unit by its number, and the number of a figure: tenths, but for directions, which are whole degrees, and the state of the wick.
abbrev pub unit_of : Figure → ℕ
unit_of (hPa z) = 0
unit_of (mmHg z) = 1
unit_of (°C z) = 2
unit_of (m/s z) = 3
unit_of (kn z) = 4
unit_of (deg z) = 5
unit_of (wick s) = 6
unit_of none = 7

abbrev pub value_of : Figure → ℤ
value_of (hPa z) = z
value_of (mmHg z) = z
value_of (°C z) = z
value_of (m/s z) = z
value_of (kn z) = z
value_of (deg z) = z
value_of (wick s) = pos (state_number s)
value_of none = pos 0

-- All is 0 beside a refusal.
abbrev pub refused_with : Refusal → ReadingTold
refused_with r = record { refusal = r; channel = 0; unit = 0; first = record { v = pos 0 }; second = 0 }

-- What is absent has no figures, and no answer gives it.
abbrev pub figures_in : Recall → ReadingTold
figures_in absent = refused_with told.none
figures_in (recalled e) =
    record {
      refusal = told.none;
      channel = e.channel;
      unit = unit_of e.first;
      first = record { v = value_of e.first };
      second = nat_abs (value_of e.second);
    }

abbrev pub reading_in : Answer Numbered Recall → ReadingTold
reading_in (refused r) = refused_with (refusal_in r)
reading_in (given x) = figures_in x

-- ---- which minutes of a stretch are there

abbrev pub stretch_tests : List ℕ → ℕ → List (Test Numbered)
stretch_tests s c = no_store s ∷ no_channel c ∷ []

-- 1 for a minute that has a reading, 0 for one that has none; no minute above the last has one.
abbrev pub marked : List ℕ → ℕ → ℕ → ℕ
marked s c m = cond (leb m last_minute && is_present (recall_of s c m)) 1 0

-- n minutes from m on.
abbrev pub marks : List ℕ → ℕ → ℕ → ℕ → List ℕ
marks s c m n = listed (marked s c) m n

unfoldable pub stretch_of : List ℕ → ℕ → ℕ → ℕ → Answer Numbered (List ℕ)
stretch_of s c m n = answer (stretch_tests s c) (marks s c m n)

-- The buffer then: as it was beside a refusal, else a byte for each minute.
abbrev pub marked_by : List ℕ → Answer Numbered (List ℕ) → List ℕ
marked_by before (refused r) = before
marked_by before (given bytes) = bytes

-- A stretch from m on, as long as the buffer `before`, was asked for; the buffer is `after` then, and r is the number.
pub record Marks (s : List ℕ) (c m : ℕ) (before after : List ℕ) (r : ℕ) : Type 0 where
  pub answer : r ≡ numbered_in (stretch_of s c m (length before))
  pub bytes : after ≡ marked_by before (stretch_of s c m (length before))
