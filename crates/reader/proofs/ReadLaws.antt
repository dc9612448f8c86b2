-- The whole of a file: what its contents come to. Assumes nothing.
use mathlib.Core.Path.{◌≡◌, refl, sym, ap, ◌∙◌}
use mathlib.Core.List.{List, ◌++◌}
use Prim.Native.Nat.{ℕ, ◌≤◌}
use lib.IntN.{ℤ}
use lib.ListN.{length}
use Rattle.number.specs.Refusal.{Answer, refused, given, answer}
use Rattle.number.proofs.RefusalLaws.{given_is}
use Rattle.watchfile.specs.Fields.{Field, field_tests}
use Rattle.watchfile.specs.Format.{rows_fields, bodies_fields, start_of, records}
use Rattle.watchfile.proofs.FieldLaws.{given_passed, joined_refused, joined_given}
use Rattle.reader.specs.Work.{found, contents_of}
use Rattle.reader.proofs.ContentsLaws.{rows_within}
use Rattle.reader.proofs.TestedLaws.{tested}

-- the fields of the contents of so many records
abbrev pub rows : List ℕ → ℕ → List Field
rows s count = rows_fields s count 4 (start_of count) 0

pub contents_good : (s : List ℕ) (count k : ℕ) → given k ≡ contents_of s count → contents_of s count ≡ given count
contents_good s count k e =
    sym e ∙ ap given (sym (given_is (field_tests (length s) (rows s count)) count k (sym e)))

-- contents that are right are whole
pub contents_whole : (s : List ℕ) (count : ℕ) → 4 ≤ length s → contents_of s count ≡ given count → start_of count ≤ length s
contents_whole s count h good =
    rows_within (length s) s count 4 (start_of count) 0 (given_passed (length s) (rows s count) count count good) h

-- ---- the contents and the bodies behind them

-- what comes first, and if it is right, what comes then
abbrev pub both : {A B : Type 0} → Answer ℕ A → Answer ℕ B → Answer ℕ B
both (refused k) b = refused k
both (given x) b = b

both_is : {A B : Type 0} (n : ℕ) (fs gs : List Field) (a : A) (b : B) (r : Answer ℕ A) → answer (field_tests n fs) a ≡ r
    → answer (field_tests n (fs ++ gs)) b ≡ both r (answer (field_tests n gs) b)
both_is n fs gs a b (refused k) e = joined_refused n fs gs a b k e
both_is n fs gs a b (given x) e = joined_given n fs gs a b x e

pub rows_then : (s : List ℕ) (rule : ℕ → ℤ) (n : ℕ)
    → found s (rows s n ++ bodies_fields rule s n 4 (start_of n)) (records s) ≡ both (contents_of s n) (found s (bodies_fields rule s n 4 (start_of n)) (records s))
rows_then s rule n = both_is (length s) (rows s n) (bodies_fields rule s n 4 (start_of n)) n (records s) (contents_of s n) refl

pub ruleset parts = (tested, rows_then)
