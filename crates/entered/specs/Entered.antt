-- The record that an answer of the station makes, laid into lent words, or why there is none.
use Rattle.std.specs.Prelude.{◌≡◌, true, false, cond, List, ℕ, eqb, Option, Some, None}
use Rattle.number.specs.Refusal.{Numbered, Answer, refused, given}
use Rattle.station.specs.Questions.{Asked, Reply, question, TellsOf}
use Rattle.station.specs.Questions as asked
use Rattle.watchfile.specs.Rules.{kind_right}
use Rattle.watchfile.specs.Format.{figures_of}
use Rattle.watchfile.specs.declared.Record.{Record}
use Rattle.handed.specs.Words.{words_of}
use Rattle.desk.specs.Entries.{pressure_entry, tendency_entry, wind_entry, humidity_entry}
use Rattle.told.specs.Told.{refusal_in, none}
use Rattle.told.specs.declared.Refusal.{Refusal}

-- "Kind: 1 pressure, 2 tendency, 3 wind, 4 humidity": the question of a kind
abbrev pub asked_by : ℕ → Asked
asked_by kind = cond (eqb kind 1) asked.pressure (cond (eqb kind 2) asked.tendency (cond (eqb kind 3) asked.wind asked.humidity))

-- What the desk makes of its answer at a minute.
abbrev pub entry_of : (q : Asked) → ℕ → Reply q → Option Record
entry_of asked.pressure = pressure_entry
entry_of asked.tendency = tendency_entry
entry_of asked.wind = wind_entry
entry_of asked.humidity = humidity_entry

-- Why there is no record: the question's refusal; or 16, where a figure does not fit its field (of a store that was opened all fit:
-- proofs/FitTheorems of `desk`), or the kind is none.
abbrev pub unfit : Refusal
unfit = record { number = 16; channel = 0; minute = 0 }

abbrev pub why_not : {A : Type 0} → Answer Numbered A → Refusal
why_not (refused r) = refusal_in r
why_not (given a) = unfit

abbrev pub refusal_for : {A : Type 0} → Option Record → Answer Numbered A → Refusal
refusal_for (Some r) a = none
refusal_for None a = why_not a

-- The lent words then: those of the record, or as they were.
abbrev pub words_for : Option Record → List ℕ → List ℕ
words_for (Some r) before = words_of (figures_of r)
words_for None before = before

-- The answer to a question q, asked of the block s at minute m, was to be recorded in the words `before`, which are `after` then.
pub record RecordedAs (q : Asked) (s : List ℕ) (m : ℕ) (before after : List ℕ) (r : Refusal) : Type 0 where
  pub answer : Reply q
  pub right : TellsOf q s m answer
  pub told : r ≡ refusal_for (entry_of q m answer) ((question q).told answer)
  pub words : after ≡ words_for (entry_of q m answer) before

-- The same by the kind of the record.
pub record RecordedBy (kind : ℕ) (s : List ℕ) (m : ℕ) (before after : List ℕ) (r : Refusal) : Type 0 where
  pub of_kind : kind_right kind ≡ true → RecordedAs (asked_by kind) s m before after r
  pub no_kind : kind_right kind ≡ false → (r ≡ unfit) × (after ≡ before)

-- By the refusal as it is told: its number is 0 where there is none.
abbrev pub refusal_beside : Option Record → Refusal → Refusal
refusal_beside (Some r) told = none
refusal_beside None told = cond (eqb told.number 0) unfit told
