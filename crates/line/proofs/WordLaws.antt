-- Laws of words from a place on: where one starts and ends is found byte by byte, each byte by what stands there.
-- Assumes nothing.
use mathlib.Core.Path.{◌≡◌, refl, sym, ap, ◌∙◌}
use mathlib.Core.Bool.{Bool, true, false, ◌&&◌, cond}
use mathlib.Core.List.{List, [], ◌∷◌}
use Prim.Native.Nat.{ℕ, suc, ◌+◌, ◌-◌, ◌≤◌, ◌<◌}
use native.Mathlib.Omega.{arith}
use native.Mathlib.Numerals.{add-one}
use native.Mathlib.Nat.{le_refl, add-zero}
use lib.Dec.{eqb}
use lib.ListN.{length, get_or, take, drop, length-take, length-drop, drop_of_length-le}
use lib.Seq.{drop-cons, drop-drop, take_all}
use Rattle.std.specs.Prelude.{Option, Some, None, nat_eq}
use Rattle.std.specs.Cmp.Lexicographic.{pointwise}
use Rattle.line.specs.Words.{Word, blank, before, words_from, word_number, same, part, end_from, word_at, words_at}
use Rattle.line.specs.Next.{Start, WordEnd, NextWord}
use Rattle.line.specs.declared.Place.{Place}
use Rattle.line.proofs.EndLaws.{end_on, end_inside, before_end}

-- ---- parts

pub part_cons : (s : List ℕ) (i r : ℕ) → i < r → i < length s → part s i r ≡ get_or s i 0 ∷ part s (i + 1) r
part_cons s i r h l =
    let e : r - i ≡ suc (r - (i + 1)) = omega arith in
    rw (e, drop-cons s i 0 l, add-one i)

pub part_length : (s : List ℕ) (from to : ℕ) → from ≤ to → to ≤ length s → length (part s from to) ≡ to - from
part_length s from to h l = simp (length-take, length-drop) (omega arith)

-- what stands from a place to the end
pub rest : (s : List ℕ) (k : ℕ) → part s k (length s) ≡ drop k s
rest s k = take_all (length s - k) (drop k s) (omega (arith, length-drop k s))

-- ---- where a word starts

pub words_past : (line : List ℕ) (i : ℕ) → length line ≤ i → words_at line i ≡ []
unfolding words_from
words_past line i h = rw (drop_of_length-le line h)

pub start_here : (line : List ℕ) (i : ℕ) → i < length line → blank (get_or line i 0) ≡ false → Start line i (Some i)
start_here line i h e = record { behind = le_refl i; inside = h; words = refl; byte = e }

skip : (line : List ℕ) (i : ℕ) → i < length line → blank (get_or line i 0) ≡ true → words_at line i ≡ words_at line (i + 1)
unfolding words_from
skip line i h e = rw (add-one i, drop-cons line i 0 h, e)

pub start_on : (line : List ℕ) (i : ℕ) → i < length line → blank (get_or line i 0) ≡ true → (r : Option ℕ) → Start line (i + 1) r → Start line i r
start_on line i h e (Some r) s = record { behind = omega (arith, s.behind); inside = s.inside; words = skip line i h e ∙ s.words; byte = s.byte }
start_on line i h e None s = skip line i h e ∙ s

-- ---- where a word ends

-- the words behind a word that reaches up to a place
words_behind : (k : ℕ) (s : List ℕ) → words_from k true s ≡ words_from (k + length (before blank s)) false (drop (length (before blank s)) s)
unfolding words_from before
words_behind k [] = refl
words_behind k (b ∷ s) = go (words_behind (suc k) s) (blank b) refl
  where
    go : words_from (suc k) true s ≡ words_from (suc k + length (before blank s)) false (drop (length (before blank s)) s) → (t : Bool) → blank b ≡ t
        → cond t (words_from (suc k) false s) (words_from (suc k) true s)
        ≡ words_from (k + length (cond t [] (b ∷ before blank s))) false (drop (length (cond t [] (b ∷ before blank s))) (b ∷ s))
    go ih true e = rw (add-zero k, e)
    go ih false e = ih ∙ ap (λ (n : ℕ). words_from n false (drop (length (before blank s)) s)) (omega arith)

words_end : (line : List ℕ) (i : ℕ) → words_from i true (drop i line) ≡ words_at line (end_from blank line i)
unfolding end_from
words_end line i =
    words_behind i (drop i line)
    ∙ ap (words_from (i + length (before blank (drop i line))) false) (drop-drop (length (before blank (drop i line))) i line)

-- ---- the next word

begins : (line : List ℕ) (i : ℕ) → i < length line → blank (get_or line i 0) ≡ false
    → words_at line i ≡ record { from = i; bytes = before blank (drop i line) } ∷ words_from (i + 1) true (drop (i + 1) line)
unfolding words_from
begins line i h e = rw (add-one i, drop-cons line i 0 h, e)

pub word_found : (line : List ℕ) (at from to : ℕ) → Start line at (Some from) → WordEnd line (from + 1) to → NextWord line at (Some (record { from = from; to = to }))
word_found line at from to s w =
    let h : from < length line = s.inside in
    let ends : end_from blank line from ≡ to = end_on blank line from h s.byte ∙ sym w in
    let inside = end_inside blank line (from + 1) (omega arith) in
    record {
      words =
          s.words
          ∙ begins line from h s.byte
          ∙ rw (before_end blank line from, ends, words_end line (from + 1), ← w);
      within = (s.behind, omega arith, omega arith);
    }

pub word_none : (line : List ℕ) (at : ℕ) → Start line at None → NextWord line at None
word_none line at s = record { words = s; within = tt }

-- what the next word says of the line
pub record WordIs (line : List ℕ) (at : ℕ) (p : Place) : Type 0 where
  pub words : words_at line at ≡ word_at line p.from p.to ∷ words_at line p.to
  pub behind : at ≤ p.from
  pub some : p.from < p.to
  pub inside : p.to ≤ length line

pub word_is : {line : List ℕ} {at : ℕ} {p : Place} {r : Option Place} → NextWord line at r → r ≡ Some p → WordIs line at p
word_is {line} {at} {p} {r} n e =
    let m : NextWord line at (Some p) = rw e at n in
    record { words = m.words; behind = m.within.0; some = m.within.1; inside = m.within.2 }

pub word_end_is : {line : List ℕ} {at : ℕ} {r : Option Place} → NextWord line at r → r ≡ None → words_at line at ≡ []
word_end_is {line} {at} {r} n e =
    let m : NextWord line at None = rw e at n in
    m.words

-- ---- the word with a number

pub number_none : (n : ℕ) {ws : List Word} → ws ≡ [] → word_number n ws ≡ []
unfolding word_number
number_none n h = rw h

pub number_here : {line : List ℕ} {at : ℕ} {p : Place} → WordIs line at p → word_number 0 (words_at line at) ≡ part line p.from p.to
unfolding word_number
number_here w = rw w.words

pub number_on : {line : List ℕ} {at : ℕ} {p : Place} (n : ℕ) → 0 < n → WordIs line at p → word_number (n - 1) (words_at line p.to) ≡ word_number n (words_at line at)
unfolding word_number
number_on {line} {at} {p} n h w =
    let e : n ≡ suc (n - 1) = omega arith in
    rw w.words (ap (λ (m : ℕ). word_number m (word_at line p.from p.to ∷ words_at line p.to)) (sym e))

-- ---- the same text

-- what `==` tells of two texts
pub same_is : (a b : List ℕ) → same a b ≡ pointwise nat_eq a b
unfolding same
same_is [] [] = refl
same_is [] (y ∷ b) = refl
same_is (x ∷ a) [] = refl
same_is (x ∷ a) (y ∷ b) = ap (λ (t : Bool). eqb x y && t) (same_is a b)

-- and what it tells of the front of one that is as long as the other; of two that are not, they differ
pub same_taken : (a b : List ℕ) (n : ℕ) {r : Bool} → length a ≡ length b → n ≡ length b → r ≡ pointwise nat_eq (take n a) b → r ≡ same a b
same_taken a b n e m h = h ∙ ap (λ (x : List ℕ). pointwise nat_eq x b) (take_all n a (omega arith)) ∙ sym (same_is a b)

pub same_apart : (a b : List ℕ) → (length a ≡ length b → ⊥) → false ≡ same a b
unfolding same
same_apart [] [] h = absurd (h refl)
same_apart [] (y ∷ b) h = refl
same_apart (x ∷ a) [] h = refl
same_apart (x ∷ a) (y ∷ b) h = go (same_apart a b (λ e. h (ap suc e))) (eqb x y)
  where
    go : false ≡ same a b → (t : Bool) → false ≡ (t && same a b)
    go ih true = ih
    go ih false = refl
