-- A record put in its place in a watch file that stands in a lent buffer, and one taken out.
use Rattle.std.specs.Prelude.{◌≡◌, Bool, false, ◌&&◌, cond, List, [], ◌∷◌, ℕ, zero, suc, ltb, leb, eqb, ℤ, length, take, Result, Ok, Err}
use Rattle.number.specs.Refusal.{Answer, refused, given, Numbered, numbered}
use Rattle.octets.specs.Lent.{sized, left_by}
use Rattle.watchfile.specs.Rules.{kind_right, rank}
use Rattle.watchfile.specs.Format.{reading, broken_at, writing, rank_of}
use Rattle.watchfile.specs.declared.Record.{Record}
use Rattle.writer.specs.Write.{write_refusal}
use Rattle.watchlog.specs.declared.PlaceRefusal.{PlaceRefusal}
use Rattle.watchlog.specs.declared.PlaceRefusal.TheVariants.{Write, Broken, NoRecord}

-- "Records rise strictly by minute, then kind": the records with one more in its place. One of the same minute and kind is replaced.
unfoldable pub inserted : Record → List Record → List Record
inserted r [] = r ∷ []
inserted r (q ∷ qs) = cond (ltb (rank_of q) (rank_of r)) (q ∷ inserted r qs) (cond (eqb (rank_of q) (rank_of r)) (r ∷ qs) (r ∷ q ∷ qs))

-- What taking out a record that is not there answers, none of the documents' numbers.
abbrev pub NO_RECORD : ℕ
NO_RECORD = 254

-- Document 01's number of each case, and what it also returns.
abbrev pub place_refusal : PlaceRefusal → Numbered
place_refusal (Write r) = write_refusal r
place_refusal (Broken b) = broken_at b.0
place_refusal NoRecord = numbered NO_RECORD []

abbrev pub placed_as : Result ℕ PlaceRefusal → Answer Numbered ℕ
placed_as (Ok n) = given n
placed_as (Err r) = refused (place_refusal r)

-- Writing all of these records into room for so many bytes.
abbrev pub writing_all : (ℕ → ℤ) → ℕ → List Record → Answer Numbered (List ℕ)
writing_all rule room rs = writing rule rs (length rs) room

-- The new file, of a file that was read: 18 with its place, or what writing comes to.
abbrev pub placed_in : (ℕ → ℤ) → Record → ℕ → Answer ℕ (List Record) → Answer Numbered (List ℕ)
placed_in rule r room (refused place) = refused (broken_at place)
placed_in rule r room (given rs) = writing_all rule room (inserted r rs)

-- The first n bytes of a buffer are the old file; the buffer is the room for the new.
abbrev pub placing : (ℕ → ℤ) → Record → ℕ → List ℕ → Answer Numbered (List ℕ)
placing rule r n before = placed_in rule r (length before) (reading rule (take n before))

-- A file that was to be written into the buffer `before`, which is `after` then, was answered by p.
pub record Leaves (file : Answer Numbered (List ℕ)) (before after : List ℕ) (p : Result ℕ PlaceRefusal) : Type 0 where
  pub answer : placed_as p ≡ sized file
  pub bytes : after ≡ left_by before file

-- ---- a record taken out

-- "Records rise strictly by minute, then kind": whether there is one of this rank, and the records without it.
unfoldable pub stands : ℕ → List Record → Bool
stands rank [] = false
stands rank (q ∷ qs) = cond (ltb (rank_of q) rank) (stands rank qs) (eqb (rank_of q) rank)

unfoldable pub without : ℕ → List Record → List Record
without rank [] = []
without rank (q ∷ qs) = cond (ltb (rank_of q) rank) (q ∷ without rank qs) (cond (eqb (rank_of q) rank) qs (q ∷ qs))

-- The new file, of a file that was read: 18 with its place, that there is no record of this minute and kind, or what writing the others
-- comes to.
abbrev pub taken_in : (ℕ → ℤ) → ℕ → ℕ → ℕ → Answer ℕ (List Record) → Answer Numbered (List ℕ)
taken_in rule minute kind room (refused place) = refused (broken_at place)
taken_in rule minute kind room (given rs) =
    cond (kind_right kind && stands (rank minute kind) rs) (writing_all rule room (without (rank minute kind) rs)) (refused (numbered NO_RECORD []))

-- The first n bytes of a buffer are the old file, as where one is placed.
abbrev pub taking : (ℕ → ℤ) → ℕ → ℕ → ℕ → List ℕ → Answer Numbered (List ℕ)
taking rule minute kind n before = taken_in rule minute kind (length before) (reading rule (take n before))

-- ---- the same by places of an array

-- How many records at the front stand before one of this rank.
unfoldable pub place_of : ℕ → List Record → ℕ
place_of rank [] = 0
place_of rank (q ∷ qs) = cond (leb rank (rank_of q)) 0 (suc (place_of rank qs))

-- The records with one more at a place; those from there on stand one place later.
unfoldable pub pushed : ℕ → Record → List Record → List Record
pushed zero r qs = r ∷ qs
pushed (suc i) r [] = r ∷ []
pushed (suc i) r (q ∷ qs) = q ∷ pushed i r qs

-- The records without the one at a place; those behind it stand one place earlier.
unfoldable pub pulled : ℕ → List Record → List Record
pulled i [] = []
pulled zero (q ∷ qs) = qs
pulled (suc i) (q ∷ qs) = q ∷ pulled i qs
