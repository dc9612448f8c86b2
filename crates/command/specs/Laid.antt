-- What a word or a line leaves in the lent numbers.
use Rattle.std.specs.Prelude.{◌≡◌, List, ℕ, Option, Result, Ok, Err}
use Rattle.text.specs.Text.{put, behind}
use Rattle.command.specs.Forms.{Told}
use Rattle.command.specs.declared.Deed.{Deed}
use Rattle.command.specs.declared.Fault.{Fault}
use Rattle.command.specs.declared.Flaw.{Flaw}

-- The place behind the numbers of a word without a flaw.
abbrev pub placed : ℕ → Result (Unit {0}) Flaw → Result ℕ Flaw
placed place (Ok u) = Ok place
placed place (Err flaw) = Err flaw

-- A word: its numbers from a place on, as far as there is room, and the place behind them, or its flaw.
pub record Lays (before after : List ℕ) (at : ℕ) (t : Told (Result (Unit {0}) Flaw)) (r : Result ℕ Flaw) : Type 0 where
  pub numbers : after ≡ put before at t.numbers
  pub outcome : r ≡ placed (behind before at t.numbers) t.outcome

-- A line: its numbers at the start, those beyond the end are cut off; behind them stays what stood there.
pub record Parses (before after : List ℕ) (t : Told (Result (Option Deed) Fault)) (r : Result (Option Deed) Fault) : Type 0 where
  pub numbers : after ≡ put before 0 t.numbers
  pub command : r ≡ t.outcome
