-- What is left of the first `count` records from i on, and what one turn of a loop takes off it. Assumes nothing.
use mathlib.Core.Path.{◌≡◌, ap, ◌∙◌}
use mathlib.Core.Bool.{true, false}
use mathlib.Core.List.{List, [], ◌∷◌, ◌++◌}
use Prim.Native.Nat.{ℕ, suc, ◌+◌, ◌-◌, ◌≤◌, ◌<◌}
use native.Mathlib.Omega.{arith}
use lib.IntN.{ℤ}
use lib.ListN.{length, take, drop, get_or, drop_of_length-le, length-append, length-take}
use lib.Seq.{take-nil, drop-cons}
use Rattle.number.specs.Refusal.{Test, refused, answer, Numbered, numbered}
use Rattle.watchfile.specs.Rules.{size_of}
use Rattle.watchfile.specs.Format.{blank, kind_of, body_bytes, row_bytes, rows_bytes, bodies_bytes, record_right, rank_of, record_tests}
use Rattle.watchfile.specs.declared.Record.{Record}
use Rattle.writer.proofs.SizeLaws.{length_body}

abbrev pub rest : List Record → ℕ → ℕ → List Record
rest all count i = take (count - i) (drop i all)

-- the record at a place
abbrev pub at : List Record → ℕ → Record
at all i = get_or all i blank

pub rest_whole : (all : List Record) (count : ℕ) → rest all count 0 ≡ take count all
rest_whole all count = let e : count - 0 ≡ count = omega arith in rw e

pub rest_done : (all : List Record) (count i : ℕ) → count ≤ i → rest all count i ≡ []
rest_done all count i h = let e : count - i ≡ 0 = omega arith in rw e

pub rest_past : (all : List Record) (count i : ℕ) → length all ≤ i → rest all count i ≡ []
rest_past all count i h = rw (drop_of_length-le all h) (take-nil (count - i))

pub rest_most : (all : List Record) (count i : ℕ) → length (rest all count i) ≤ count - i
rest_most all count i = omega (arith, length-take (count - i) (drop i all))

module _ (all : List Record) (count i : ℕ) (more : i < count) (inside : i < length all) where
  pub rest_next : rest all count i ≡ at all i ∷ rest all count (i + 1)
  rest_next =
      let e : count - i ≡ suc (count - (i + 1)) = omega arith in
      let f : suc i ≡ i + 1 = omega arith in
      rw (e, drop-cons all i blank inside, f)

  pub rows_next : (next : ℕ) → rows_bytes (rest all count i) next ≡ row_bytes (at all i) next ++ rows_bytes (rest all count (i + 1)) (next + size_of (kind_of (at all i).body))
  unfolding rows_bytes
  rows_next next = rw rest_next

  pub bodies_next : bodies_bytes (rest all count i) ≡ body_bytes (at all i).body ++ bodies_bytes (rest all count (i + 1))
  unfolding bodies_bytes
  bodies_next = rw rest_next

  pub rest_shorter : length (rest all count i) ≡ suc (length (rest all count (i + 1)))
  rest_shorter = ap length rest_next

  pub bodies_shorter : length (bodies_bytes (rest all count i)) ≡ size_of (kind_of (at all i).body) + length (bodies_bytes (rest all count (i + 1)))
  bodies_shorter =
      ap length bodies_next
      ∙ length-append (body_bytes (at all i).body) (bodies_bytes (rest all count (i + 1)))
      ∙ ap (λ (n : ℕ). n + length (bodies_bytes (rest all count (i + 1)))) (length_body (at all i).body)

  -- the test of the record at i: it passes, or refuses with i
  module _ {A : Type 0} (rule : ℕ → ℤ) (before : ℕ) (later : List (Test Numbered)) (a : A) where
    pub tests_on : record_right rule before (at all i) ≡ true → answer (record_tests rule i before (rest all count i) ++ later) a ≡ answer (record_tests rule (i + 1) (rank_of (at all i)) (rest all count (i + 1)) ++ later) a
    unfolding record_tests answer
    tests_on r = rw (rest_next, r)

    pub tests_stop : record_right rule before (at all i) ≡ false → answer (record_tests rule i before (rest all count i) ++ later) a ≡ refused (numbered 16 (i ∷ []))
    unfolding record_tests answer
    tests_stop r = rw (rest_next, r)

-- no record is left
module _ (all : List Record) (count i : ℕ) (none : rest all count i ≡ []) where
  pub rows_none : (next : ℕ) → rows_bytes (rest all count i) next ≡ []
  unfolding rows_bytes
  rows_none next = rw none

  pub bodies_none : bodies_bytes (rest all count i) ≡ []
  unfolding bodies_bytes
  bodies_none = rw none

  pub tests_none : {A : Type 0} (rule : ℕ → ℤ) (before : ℕ) (later : List (Test Numbered)) (a : A) → answer (record_tests rule i before (rest all count i) ++ later) a ≡ answer later a
  unfolding record_tests
  tests_none rule before later a = rw none
