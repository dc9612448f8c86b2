-- The logbook's own places: records laid as words, and the records of a file in places of an array.
use Rattle.std.specs.Prelude.{◌≡◌, List, ℕ, ◌*◌, ◌≤◌, ◌<◌, length, get_or, drop}
use Rattle.watchfile.specs.Format.{blank}
use Rattle.watchfile.specs.declared.Record.{Record}
use Rattle.reader.specs.Read.{record_at}
use Rattle.handed.specs.Handed.{record_of}
use Rattle.handed.specs.Words.{figures_in}

-- The first n records are laid as words, and behind them stand zeros.
pub record Laid (records : List Record) (n : ℕ) (w : List ℕ) : Type 0 where
  pub long : length w ≡ 343
  pub each : (i : ℕ) → i < n → record_of (figures_in (drop (7 * i) w)) ≡ get_or records i blank
  pub none : (k : ℕ) → 7 * n ≤ k → get_or w k 0 ≡ 0

-- The first n records of a file, in 48 places.
pub record ReadIn (s : List ℕ) (n : ℕ) (r : List Record) : Type 0 where
  pub long : length r ≡ 48
  pub each : (i : ℕ) → i < n → get_or r i blank ≡ record_of (record_at s i)
