-- What a write answers and what it leaves in the lent buffer (document 01, "Numbered refusals", 16 and 17).
use Rattle.std.specs.Prelude.{◌≡◌, List, [], ◌∷◌, ◌++◌, ℕ, ◌≤◌, ℤ, length, take, Result, Ok, Err}
use Rattle.number.specs.Refusal.{Test, Answer, refused, given, answer, Numbered, numbered}
use Rattle.octets.specs.Lent.{sized, left_by}
use Rattle.watchfile.specs.Format.{DewRule, file_of, record_tests, past, writing}
use Rattle.watchfile.specs.declared.Record.{Record}
use Rattle.handed.specs.Words.{records_in}
use Rattle.writer.specs.declared.WriteRefusal.{WriteRefusal}
use Rattle.writer.specs.declared.WriteRefusal.TheVariants.{BreaksRules, TooShort}

-- Document 01's number of each case, and what it also returns.
abbrev pub write_refusal : WriteRefusal → Numbered
write_refusal (BreaksRules i) = numbered 16 (i ∷ [])
write_refusal (TooShort n) = numbered 17 (n ∷ [])

abbrev pub written_as : Result ℕ WriteRefusal → Answer Numbered ℕ
written_as (Ok n) = given n
written_as (Err r) = refused (write_refusal r)

-- A write of the first `count` records into the buffer `before`, which is `after` then, was answered by w.
pub record Wrote (rule : ℕ → ℤ) (all : List Record) (count : ℕ) (before after : List ℕ) (w : Result ℕ WriteRefusal) : Type 0 where
  pub answer : written_as w ≡ sized (writing rule all count (length before))
  pub bytes : after ≡ left_by before (writing rule all count (length before))

-- What is looked at of the records that words hold: 48 at the most, since the 49th is refused whatever it is.
abbrev pub offered : List ℕ → List Record
offered words = take 48 (records_in words)

-- A write of all records that words hold.
abbrev pub WroteWords : (ℕ → ℤ) → List ℕ → List ℕ → List ℕ → Result ℕ WriteRefusal → Type 0
WroteWords rule words before after w = Wrote rule (offered words) (length (records_in words)) before after w

-- ---- before a byte is written: the tests of 16 alone

abbrev pub rules_tests : (ℕ → ℤ) → List Record → ℕ → List (Test Numbered)
rules_tests rule all count =
    record_tests rule 0 0 (take count all) ++ (past count ∷ [])

-- Records that may be written are 48 at most, and need the bytes of their file.
abbrev pub Room : List Record → ℕ → Result ℕ WriteRefusal → Type 0
Room all count (Ok n) = (count ≤ 48) × (n ≡ length (file_of (take count all)))
Room all count (Err r) = Unit

pub record Checks (all : List Record) (count : ℕ) (q : Result ℕ WriteRefusal) : Type 0 where
  pub room : Room all count q
  pub answer : (rule : ℕ → ℤ) → DewRule rule → written_as q ≡ answer (rules_tests rule all count) (length (file_of (take count all)))
