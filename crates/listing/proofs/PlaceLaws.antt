-- The place where a broken file is wrong lies within the file, or at its end: each field ends behind its first byte, and is tested
-- once it is whole. Assumes nothing.
use mathlib.Core.Path.{◌≡◌}
use mathlib.Core.List.{List, [], ◌∷◌, ◌++◌}
use Prim.Native.Nat.{ℕ, zero, suc, ◌+◌, ◌≤◌}
use native.Mathlib.Omega.{arith}
use lib.IntN.{ℤ}
use lib.ListN.{length, get_or, drop}
use Rattle.number.specs.Refusal.{refused}
use Rattle.octets.specs.Bytes.{le32}
use Rattle.watchfile.specs.Rules.{size_of, rank}
use Rattle.watchfile.specs.Fields.{Field, placed}
use Rattle.watchfile.specs.Format.{body_fields, row_fields, rows_fields, bodies_fields, head_fields, fields, count_of, start_of, records, reading}
use Rattle.watchfile.proofs.FieldLaws.{Ordered, place_within}
use Rattle.reader.proofs.SizeLaws.{body_ordered}

ordered_join : (fs gs : List Field) → Ordered fs → Ordered gs → Ordered (fs ++ gs)
ordered_join [] gs p q = q
ordered_join (f ∷ fs) gs p q = (p.0, ordered_join fs gs p.1 q)

ordered_placed : (k : ℕ) (fs : List Field) → Ordered fs → Ordered (placed k fs)
ordered_placed k [] p = tt
ordered_placed k (f ∷ fs) p = (omega (arith, p.0), ordered_placed k fs p.1)

ordered_rows : (s : List ℕ) (n at next before : ℕ) → Ordered (rows_fields s n at next before)
unfolding rows_fields
ordered_rows s zero at next before = tt
ordered_rows s (suc n) at next before =
    ordered_join (placed at (row_fields (drop at s) next before))
    (rows_fields s n (at + 8) (next + size_of (get_or (drop at s) 0 0)) (rank (le32 (drop at s) 4) (get_or (drop at s) 0 0)))
    (ordered_placed at (row_fields (drop at s) next before) (omega arith, (omega arith, (omega arith, (omega arith, tt)))))
    (ordered_rows s n (at + 8) (next + size_of (get_or (drop at s) 0 0)) (rank (le32 (drop at s) 4) (get_or (drop at s) 0 0)))

ordered_bodies : (dew : ℕ → ℤ) (s : List ℕ) (n row at : ℕ) → Ordered (bodies_fields dew s n row at)
unfolding bodies_fields
ordered_bodies dew s zero row at = (omega arith, tt)
ordered_bodies dew s (suc n) row at =
    ordered_join (placed at (body_fields dew (get_or (drop row s) 0 0) (drop at s)))
    (bodies_fields dew s n (row + 8) (at + size_of (get_or (drop row s) 0 0)))
    (ordered_placed at (body_fields dew (get_or (drop row s) 0 0) (drop at s)) (body_ordered dew (drop at s) (get_or (drop row s) 0 0)))
    (ordered_bodies dew s n (row + 8) (at + size_of (get_or (drop row s) 0 0)))

ordered_fields : (dew : ℕ → ℤ) (s : List ℕ) → Ordered (fields dew s)
ordered_fields dew s =
    let n = count_of s in
    let rows = rows_fields s n 4 (start_of n) 0 in
    let bodies = bodies_fields dew s n 4 (start_of n) in
    ordered_join (head_fields s) (rows ++ bodies) (omega arith, (omega arith, (omega arith, tt)))
    (ordered_join rows bodies (ordered_rows s n 4 (start_of n) 0) (ordered_bodies dew s n 4 (start_of n)))

-- "The place of refusal 18": within the file, or at its end
pub place_inside : (dew : ℕ → ℤ) (s : List ℕ) (k : ℕ) → reading dew s ≡ refused k → k ≤ length s
unfolding reading
place_inside dew s k e = place_within (length s) (fields dew s) (records s) k (ordered_fields dew s) e
