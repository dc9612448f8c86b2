-- What each call from C promises: the answer as it is told, and what is left in lent memory.
use Rattle.std.specs.Prelude.{◌≡◌, Bool, cond, List, ℕ, ltb, ℤ, length, get_or}
use Rattle.number.specs.Refusal.{Answer, Numbered, number_in}
use Rattle.settings.specs.Settings.{checked}
use Rattle.sheet.specs.Sheet.{settings_in}
use Rattle.store.specs.Block.{opened_by, hearing, heard_by, outcome}
use Rattle.anemometer.specs.declared.Note.{Note}
use Rattle.store.specs.Noting.{noting, noted_by}
use Rattle.station.specs.Questions.{Asked, Reply, question, TellsOf}
use Rattle.watchfile.specs.Format.{writing}
use Rattle.handed.specs.Words.{records_in}
use Rattle.writer.specs.Write.{offered}
use Rattle.octets.specs.Lent.{sized, left_by}
use Rattle.listing.specs.Listing.{listing}
use Rattle.told.specs.Told.{heard_in, noted_in, Told, told_in}
use Rattle.told.specs.declared.HearTold.{HearTold}
use Rattle.told.specs.declared.NoteTold.{NoteTold}
use Rattle.filed.specs.Files.{write_in, list_in}
use Rattle.filed.specs.declared.WriteTold.{WriteTold}
use Rattle.filed.specs.declared.ListTold.{ListTold}

-- ---- opening and hearing

-- A unit other than 0 and 1 is none: 9, "a setting other than the certificate outside limits".
abbrev pub no_unit : List ℕ → Bool
no_unit w = ltb 1 (get_or w 0 0)

-- The block s was opened with the settings of a sheet w, is s' then, and r is the answer.
pub record OpenedAs (s s' w : List ℕ) (r : ℕ) : Type 0 where
  pub answer : r ≡ cond (no_unit w) 9 (number_in (checked (settings_in w)))
  pub block : s' ≡ cond (no_unit w) s (opened_by s (settings_in w))

-- A message was heard, and answered by r.
pub record HeardAs (s s' m : List ℕ) (r : HearTold) : Type 0 where
  pub answer : r ≡ heard_in (outcome (hearing s m))
  pub block : s' ≡ heard_by s m

-- An entry of the hand anemometer was heard, and answered by r.
pub record NotedAs (s s' : List ℕ) (n : Note) (r : NoteTold) : Type 0 where
  pub answer : r ≡ noted_in (outcome (noting s n))
  pub block : s' ≡ noted_by s n

-- ---- questions

-- A question was asked of the block s, which is s' then, and r tells an answer that is right: what is right is the station's promise,
-- word for word. "Asking changes nothing."
pub record AnsweredAs (q : Asked) (s s' : List ℕ) (m : ℕ) (r : Told q) : Type 0 where
  pub answer : Reply q
  pub right : TellsOf q s m answer
  pub told : r ≡ told_in q ((question q).told answer)
  pub block : s' ≡ s

-- ---- watch files

-- The records that words hold were to be written into the buffer `before`, which is `after` then, and r is the answer.
abbrev pub written : (ℕ → ℤ) → List ℕ → List ℕ → Answer Numbered (List ℕ)
written rule words before = writing rule (offered words) (length (records_in words)) (length before)

pub record WroteAs (rule : ℕ → ℤ) (words before after : List ℕ) (r : WriteTold) : Type 0 where
  pub answer : r ≡ write_in (sized (written rule words before))
  pub bytes : after ≡ left_by before (written rule words before)

-- The listing was to be put into the buffer `before`, which is `after` then, and r is the answer.
pub record ListedAs (text before after : List ℕ) (r : ListTold) : Type 0 where
  pub answer : r ≡ list_in (sized (listing text (length before)))
  pub bytes : after ≡ left_by before (listing text (length before))
