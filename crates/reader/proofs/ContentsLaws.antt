-- A turn of the loop over the contents: what is left to test from the next row on answers for what was left before. Assumes nothing.
use mathlib.Core.Path.{◌≡◌, sym, ap, ◌∙◌, subst}
use mathlib.Core.List.{List, ◌++◌}
use Prim.Native.Nat.{ℕ, zero, suc, ◌+◌, ◌*◌, ◌-◌, ◌≤◌}
use native.Mathlib.Omega.{arith}
use lib.ListN.{length, take, drop, get_or, length-drop}
use lib.Seq.{take_all}
use Rattle.number.specs.Refusal.{refused, given, answer}
use Rattle.number.proofs.RefusalLaws.{given_is}
use Rattle.octets.specs.Bytes.{le32}
use Rattle.watchfile.specs.Rules.{size_of, rank}
use Rattle.watchfile.specs.Fields.{Field, field_tests, placed}
use Rattle.watchfile.specs.Format.{row_fields, rows_fields}
use Rattle.watchfile.proofs.FieldLaws.{none, Passed, given_passed, placed_refused, placed_given, Ordered, place_within}
use Rattle.std.specs.Prelude.{Result, Ok, Err}
use Rattle.reader.specs.Work.{found, found_as, row_of, RowFound}
use Rattle.reader.specs.declared.Row.{Row}
use Rattle.reader.specs.declared.Broken.{Broken}

-- ---- the part of a file from a place on, as the code takes it

abbrev pub part : List ℕ → ℕ → List ℕ
part s at = take (length s - at) (drop at s)

pub part_all : (s : List ℕ) (at : ℕ) → part s at ≡ drop at s
part_all s at = take_all (length s - at) (drop at s) (omega (arith, length-drop at s))

pub length_part : (s : List ℕ) (at : ℕ) → length (part s at) ≡ length s - at
length_part s at = ap length (part_all s at) ∙ length-drop at s

-- what a part's fields come to, by the length that is left
pub found_part : {A : Type 0} (s : List ℕ) (at : ℕ) (fs : List Field) (a : A) → found (drop at s) fs a ≡ answer (field_tests (length s - at) fs) a
found_part s at fs a = ap (λ (n : ℕ). answer (field_tests n fs) a) (length-drop at s)

-- ---- a row

row_ordered : (p : List ℕ) (next before : ℕ) → Ordered (row_fields p next before)
row_ordered p next before = (omega arith, (omega arith, (omega arith, (omega arith, tt))))

module _ (s : List ℕ) (count n m at next before : ℕ) (some : n ≡ suc m) (inside : at ≤ length s) (q : Result Row Broken) where
  row : List ℕ
  row = drop at s

  -- the rows behind this one
  behind : List Field
  behind = rows_fields s m (at + 8) (next + size_of (get_or (drop at s) 0 0)) (rank (le32 (drop at s) 4) (get_or (drop at s) 0 0))

  first : rows_fields s n at next before ≡ placed at (row_fields row next before) ++ behind
  unfolding row behind rows_fields
  first = rw some

  at_row : RowFound next before (part s at) q → found_as q ≡ answer (field_tests (length s - at) (row_fields row next before)) (row_of row)
  unfolding row
  at_row h =
      subst (λ (p : List ℕ). RowFound next before p q) (part_all s at) h
      ∙ found_part s at (row_fields (drop at s) next before) (row_of (drop at s))

  pub row_stop : (b : Broken) → RowFound next before (part s at) q → q ≡ Err b
      → (found s (rows_fields s n at next before) count ≡ refused (at + b.0)) × (at + b.0 ≤ length s)
  unfolding row
  row_stop b h is =
      let k = b.0 in
      let fs = row_fields row next before in
      let wrong = sym (at_row h) ∙ ap found_as is in
      let within = place_within (length s - at) fs (row_of row) k (row_ordered row next before) wrong in
      (rw first (placed_refused (length s) at fs behind (row_of row) count inside k wrong), omega arith)

  pub row_on : (r : Row) → RowFound next before (part s at) q → q ≡ Ok r
      → (found s (rows_fields s n at next before) count ≡ found s (rows_fields s m (at + 8) (next + size_of r.kind) (rank r.minute r.kind)) count)
      × (at + 8 ≤ length s)
  unfolding row behind
  row_on r h is =
      let fs = row_fields row next before in
      let good = sym (at_row h) ∙ ap found_as is in
      let whole = (given_passed (length s - at) fs (row_of row) r good).2.2.2.0 in
      let same : row_of row ≡ r = given_is (field_tests (length s - at) fs) (row_of row) r good in (
        rw first (placed_given (length s) at fs behind (row_of row) count inside r good)
            ∙ ap (λ (x : Row). found s (rows_fields s m (at + 8) (next + size_of x.kind) (rank x.minute x.kind)) count) same,
        omega arith,
      )

-- no row is left
pub rows_done : (s : List ℕ) (count n at next before : ℕ) → n ≡ 0 → found s (rows_fields s n at next before) count ≡ given count
unfolding rows_fields
rows_done s count n at next before e = rw e (none (length s) count)

-- ---- contents that are right

-- each row is whole
pub rows_within : (l : ℕ) (s : List ℕ) (n at next before : ℕ) → Passed l (rows_fields s n at next before) → at ≤ l → at + 8 * n ≤ l
unfolding rows_fields
rows_within l s zero at next before p h = omega arith
rows_within l s (suc n) at next before p h =
    let rest = rows_within l s n (at + 8) (next + size_of (get_or (drop at s) 0 0)) (rank (le32 (drop at s) 4) (get_or (drop at s) 0 0)) p.2.2.2.2 p.2.2.2.0 in
    omega arith
