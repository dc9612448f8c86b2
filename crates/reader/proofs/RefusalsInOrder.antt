-- 18 with a place is given exactly when a field's test with that place holds and no test before it does: the fields' list is a list
-- of tests as any other. Assumes nothing.
use mathlib.Core.Path.{◌≡◌, refl, sym, ◌∙◌}
use mathlib.Core.Bool.{Bool, true, false, cond}
use mathlib.Core.List.{List, [], ◌∷◌, map}
use mathlib.Core.Logic.{◌↔◌}
use Prim.Native.Nat.{ℕ}
use lib.IntN.{ℤ}
use lib.ListN.{length}
use Rattle.number.specs.Refusal.{Test, Answer, refused, given, answer, Holds, First, Numbered}
use Rattle.number.proofs.RefusalLaws.{refused_exactly, given_exactly}
use Rattle.watchfile.specs.Fields.{field_tests}
use Rattle.watchfile.specs.Format.{fields, records, reading, broken_at, file_test, file_tests}
use Rattle.watchfile.specs.declared.Record.{Record}
use Rattle.reader.specs.Read.{verdict_as, counted}
use Rattle.std.specs.Prelude.{Result}
use Rattle.reader.specs.declared.Broken.{Broken}

-- the tests of a file in their order, each with its place
abbrev pub tests : (ℕ → ℤ) → List ℕ → List (Test ℕ)
tests rule s = field_tests (length s) (fields rule s)

pub reading_refused : (rule : ℕ → ℤ) (s : List ℕ) (place : ℕ) → (reading rule s ≡ refused place) ↔ First (tests rule s) place
unfolding reading
reading_refused rule s place = refused_exactly (records s) (tests rule s) place

pub reading_given : (rule : ℕ → ℤ) (s : List ℕ) → (reading rule s ≡ given (records s)) ↔ ((place : ℕ) → Holds (tests rule s) place → ⊥)
unfolding reading
reading_given rule s = given_exactly (records s) (tests rule s)

-- ---- the reader's own verdict, by its number and place

one_counted : (b : Bool) (place : ℕ) (a : Answer ℕ (List Record)) (z : Answer Numbered ℕ) → counted a ≡ z
    → counted (cond b (refused place) a) ≡ cond b (refused (broken_at place)) z
one_counted true place a z e = refl
one_counted false place a z e = e

tests_counted : (ts : List (Test ℕ)) (rs : List Record) → counted (answer ts rs) ≡ answer (map file_test ts) (length rs)
unfolding answer
tests_counted [] rs = refl
tests_counted (t ∷ ts) rs = one_counted t.holds t.refusal (answer ts rs) _ (tests_counted ts rs)

pub read_refused : (rule : ℕ → ℤ) (s : List ℕ) (r : Result ℕ Broken) → verdict_as r ≡ counted (reading rule s) → (n : Numbered) →
    (verdict_as r ≡ refused n) ↔ First (file_tests rule s) n
unfolding reading
read_refused rule s r h n =
    let law = refused_exactly (length (records s)) (file_tests rule s) n in
    let is = h ∙ tests_counted (tests rule s) (records s) in
    (λ e. law.0 (sym is ∙ e), λ f. is ∙ law.1 f)
