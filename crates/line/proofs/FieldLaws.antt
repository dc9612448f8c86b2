-- Laws of the fields of a word from a place on: the field that starts there, and those behind its colon. Assumes nothing.
use mathlib.Core.Path.{◌≡◌, refl, ap, ◌∙◌}
use mathlib.Core.Bool.{Bool, true, false, cond}
use mathlib.Core.List.{List, [], ◌∷◌}
use Prim.Native.Nat.{ℕ, ◌+◌, ◌≤◌, ◌<◌}
use native.Mathlib.Omega.{arith}
use native.Mathlib.Numerals.{add-one}
use lib.Dec.{leb}
use lib.ListN.{length, drop, drop_of_length-le}
use lib.Seq.{drop-cons, drop-drop}
use borrow.Author.Tests.{le-leb, lt-leb, leb-true, leb-false}
use Rattle.line.specs.Words.{before, colon, field, more, fields, part, end_from, fields_at, field_end}
use Rattle.line.proofs.EndLaws.{before_short, end_inside, before_end}

-- what stands behind a field: nothing, or a colon and the next
behind : List ℕ → List (List ℕ)
behind [] = []
behind (b ∷ s) = fields s

more_behind : (s : List ℕ) → more s ≡ behind (drop (length (field s)) s)
unfolding before more behind
more_behind [] = refl
more_behind (b ∷ s) = go (more_behind s) (colon b)
  where
    go : more s ≡ behind (drop (length (field s)) s) → (t : Bool) → cond t (field s ∷ more s) (more s) ≡ behind (drop (length (cond t [] (b ∷ field s))) (b ∷ s))
    go ih true = refl
    go ih false = ih

behind_at : (s : List ℕ) (i : ℕ) → i ≤ length s → behind (drop i s) ≡ fields_at s (i + 1)
unfolding behind fields_at
behind_at s i h = go (leb (i + 1) (length s)) refl
  where
    go : (t : Bool) → leb (i + 1) (length s) ≡ t → behind (drop i s) ≡ cond t (fields (drop (i + 1) s)) []
    go true e = let l : i < length s = omega (arith, leb-true (i + 1) (length s) e) in rw (add-one i, drop-cons s i 0 l)
    go false e = let l : length s ≤ i = omega (arith, leb-false (i + 1) (length s) e) in rw (drop_of_length-le s l)

at_inside : (s : List ℕ) (i : ℕ) → i ≤ length s → fields_at s i ≡ fields (drop i s)
unfolding fields_at
at_inside s i h = rw (le-leb i (length s) h)

others_of : (s : List ℕ) (i : ℕ) → more (drop i s) ≡ behind (drop (field_end s i) s)
unfolding end_from
others_of s i = more_behind (drop i s) ∙ ap behind (drop-drop (length (field (drop i s))) i s)

pub fields_here : (s : List ℕ) (i : ℕ) → i ≤ length s → fields_at s i ≡ part s i (field_end s i) ∷ fields_at s (field_end s i + 1)
fields_here s i h =
    let inside = end_inside colon s i h in
    at_inside s i h
    ∙ ap (λ (x : List ℕ). x ∷ more (drop i s)) (before_end colon s i)
    ∙ ap (λ (xs : List (List ℕ)). part s i (field_end s i) ∷ xs) (others_of s i ∙ behind_at s (field_end s i) inside.1)

pub fields_past : (s : List ℕ) (i : ℕ) → length s < i → fields_at s i ≡ []
unfolding fields_at
fields_past s i h = rw (lt-leb i (length s) h)

pub fields_all : (s : List ℕ) → fields_at s 0 ≡ fields s
fields_all s = at_inside s 0 (omega arith)

-- the first field, and those behind it
pub end_first : (s : List ℕ) → field_end s 0 ≡ length (field s)
unfolding end_from
end_first s = omega arith

pub more_first : (s : List ℕ) → more s ≡ fields_at s (length (field s) + 1)
more_first s = more_behind s ∙ behind_at s (length (field s)) (before_short colon s)
