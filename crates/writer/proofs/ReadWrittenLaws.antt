-- A file that is read without refusal is the file of its records, and these may be written: where every field is whole and right,
-- the bytes of what it says are the bytes it has. By induction on the records left. Assumes nothing.
use mathlib.Core.Path.{◌≡◌, refl, sym, ap, ◌∙◌, subst}
use mathlib.Core.Bool.{true}
use mathlib.Core.List.{List, [], ◌∷◌, ◌++◌, append_assoc}
use Prim.Native.Nat.{ℕ, zero, suc, ◌+◌, ◌*◌, ◌≤◌}
use native.Mathlib.Omega.{arith}
use native.Mathlib.Nat.{add-zero}
use lib.Dec.{eqb}
use lib.IntN.{ℤ}
use lib.ListN.{length, drop, get_or, length-drop}
use lib.Seq.{drop-cons, drop-drop, drop-length}
use borrow.Author.Tests.{leb-true, eqb-true}
use Rattle.number.specs.Refusal.{given}
use Rattle.number.proofs.RefusalLaws.{given_is}
use Rattle.number.proofs.Sizes.{and_true, both}
use Rattle.octets.specs.Bytes.{AreBytes, le16, le32, bytes16, bytes32, signed16, unsigned16}
use Rattle.watchfile.specs.Rules.{kind_right, size_of, rank, minute_right}
use Rattle.watchfile.specs.Fields.{Field, field_tests, placed}
use Rattle.watchfile.specs.Format.{body_fields, body_of, row_fields, head_fields, rows_fields, bodies_fields, fields, records_from, records, count_of, start_of, reading, kind_of, body_bytes, row_bytes, rows_bytes, bodies_bytes, file_of, body_right}
use Rattle.watchfile.specs.declared.Body.{Body}
use Rattle.watchfile.specs.declared.Record.{Record}
use Rattle.watchfile.proofs.FieldLaws.{Passed, given_passed}
use Rattle.octets.proofs.ByteLaws.{bytes16_back, bytes32_back, unsigned_is, bytes_drop}
use Rattle.writer.proofs.RightLaws.{AllRight, by_kind}
use Rattle.watchfile.proofs.PassedLaws.{split, unplace}

-- k bytes from j on, and what stands behind them
abbrev these : List ℕ → ℕ → ℕ → List ℕ
these s j zero = []
these s j (suc k) = get_or s j 0 ∷ these s (suc j) k

these_then : (k : ℕ) (s : List ℕ) (j : ℕ) → j + k ≤ length s → these s j k ++ drop (j + k) s ≡ drop j s
these_then zero s j h = ap (λ (n : ℕ). drop n s) (add-zero j)
these_then (suc k) s j h =
    let e : j + suc k ≡ suc j + k = omega arith in
    ap (λ (n : ℕ). get_or s j 0 ∷ (these s (suc j) k ++ drop n s)) e
    ∙ ap (λ (t : List ℕ). get_or s j 0 ∷ t) (these_then k s (suc j) (omega arith))
    ∙ sym (drop-cons s j 0 (omega arith))

pair : (s : List ℕ) (j : ℕ) → AreBytes s → bytes16 (get_or s j 0 + 256 * get_or s (suc j) 0) ≡ get_or s j 0 ∷ get_or s (suc j) 0 ∷ []
pair s j h = bytes16_back (get_or s j 0) (get_or s (suc j) 0) (h j)

signed_pair : (s : List ℕ) (j : ℕ) → AreBytes s → bytes16 (unsigned16 (signed16 (get_or s j 0 + 256 * get_or s (suc j) 0))) ≡ get_or s j 0 ∷ get_or s (suc j) 0 ∷ []
signed_pair s j h =
    ap bytes16 (unsigned_is (get_or s j 0 + 256 * get_or s (suc j) 0) (omega (arith, h j, h (suc j)))) ∙ pair s j h

-- the head, and behind it the rows and bodies of the records
file_back : (s : List ℕ) (rs : List Record) (n : ℕ) → 4 ≤ length s → get_or s 0 0 ≡ 0x57 → get_or s 1 0 ≡ 0x54 → get_or s 2 0 ≡ 1 → get_or s 3 0 ≡ n → length rs ≡ n
    → rows_bytes rs (start_of n) ++ drop (start_of n) s ≡ drop 4 s → bodies_bytes rs ≡ drop (start_of n) s → file_of rs ≡ s
file_back s rs n h l0 l1 l2 l3 count rows bodies =
    ap (λ (k : ℕ). 0x57 ∷ 0x54 ∷ 1 ∷ k ∷ (rows_bytes rs (start_of k) ++ bodies_bytes rs)) count
    ∙ ap (λ (y : List ℕ). 0x57 ∷ 0x54 ∷ 1 ∷ n ∷ (rows_bytes rs (start_of n) ++ y)) bodies
    ∙ ap (λ (y : List ℕ). 0x57 ∷ 0x54 ∷ 1 ∷ n ∷ y) rows
    ∙ sym (ap (λ (k : ℕ). k ∷ get_or s 1 0 ∷ get_or s 2 0 ∷ get_or s 3 0 ∷ drop 4 s) l0
    ∙ ap (λ (k : ℕ). 0x57 ∷ k ∷ get_or s 2 0 ∷ get_or s 3 0 ∷ drop 4 s) l1
    ∙ ap (λ (k : ℕ). 0x57 ∷ 0x54 ∷ k ∷ get_or s 3 0 ∷ drop 4 s) l2
    ∙ ap (λ (k : ℕ). 0x57 ∷ 0x54 ∷ 1 ∷ k ∷ drop 4 s) l3)
    ∙ these_then 4 s 0 h

module _ (rule : ℕ → ℤ) where
  -- ---- a body

  -- a body whose fields are right is the bytes that stand there, whole, and may be written
  pub record Back (k : ℕ) (s : List ℕ) : Type 0 where
    pub kind : kind_of (body_of k s) ≡ k
    pub bytes : body_bytes (body_of k s) ++ drop (size_of k) s ≡ s
    pub right : body_right rule (body_of k s) ≡ true
    pub whole : size_of k ≤ length s

  abbrev BackOf : ℕ → Type 0
  BackOf k = (s : List ℕ) → AreBytes s → Passed (length s) (body_fields rule k s) → Back k s

  pressure_back : BackOf 1
  pressure_back s h f =
      record { kind = refl; bytes = ap (λ (y : List ℕ). y ++ drop 2 s) (pair s 0 h) ∙ these_then 2 s 0 f.0; right = f.1; whole = f.0 }

  tendency_back : BackOf 2
  tendency_back s h f =
      record {
        kind = refl;
        bytes = ap (λ (y : List ℕ). (y ++ (get_or s 2 0 ∷ [])) ++ drop 3 s) (signed_pair s 0 h) ∙ these_then 3 s 0 f.2.0;
        right = both f.1 f.2.1;
        whole = f.2.0;
      }

  wind_back : BackOf 3
  wind_back s h f =
      record {
        kind = refl;
        bytes =
            ap (λ (y : List ℕ). (y ++ bytes16 (le16 s 2)) ++ drop 4 s) (pair s 0 h)
            ∙ ap (λ (y : List ℕ). (get_or s 0 0 ∷ get_or s 1 0 ∷ y) ++ drop 4 s) (pair s 2 h)
            ∙ these_then 4 s 0 f.2.0;
        right = both f.1 f.2.1;
        whole = f.2.0;
      }

  humidity_back : BackOf 4
  humidity_back s h f =
      record {
        kind = refl;
        bytes =
            ap (λ (y : List ℕ). (bytes16 (le16 s 0) ++ (bytes16 (le16 s 2) ++ (bytes16 (le16 s 4) ++ (get_or s 6 0 ∷ y)))) ++ drop 9 s) (signed_pair s 7 h)
            ∙ ap (λ (y : List ℕ). (y ++ (bytes16 (le16 s 2) ++ (bytes16 (le16 s 4) ++ these s 6 3))) ++ drop 9 s) (pair s 0 h)
            ∙ ap (λ (y : List ℕ). (these s 0 2 ++ (y ++ (bytes16 (le16 s 4) ++ these s 6 3))) ++ drop 9 s) (pair s 2 h)
            ∙ ap (λ (y : List ℕ). (these s 0 4 ++ (y ++ these s 6 3)) ++ drop 9 s) (pair s 4 h)
            ∙ these_then 9 s 0 f.2.2.2.2.0;
        right = both (both (both (both f.1 f.2.1) f.2.2.1) f.2.2.2.1) f.2.2.2.2.1;
        whole = f.2.2.2.2.0;
      }

  body_back : (k : ℕ) → kind_right k ≡ true → BackOf k
  body_back k r = by_kind BackOf k r pressure_back tendency_back wind_back humidity_back

  -- ---- a row

  row_back : (s : List ℕ) (next before : ℕ) (b : Body) → AreBytes s → Passed (length s) (row_fields s next before) → kind_of b ≡ get_or s 0 0
      → row_bytes (record { minute = le32 s 4; body = b }) next ++ drop 8 s ≡ s
  row_back s next before b h f e =
      let z : get_or s 1 0 ≡ 0 = eqb-true (get_or s 1 0) 0 f.2.1 in
      let o : le16 s 2 ≡ next = eqb-true (le16 s 2) next f.2.2.1 in
      ap (λ (k : ℕ). (k ∷ 0 ∷ (bytes16 next ++ bytes32 (le32 s 4))) ++ drop 8 s) e
      ∙ ap (λ (k : ℕ). (get_or s 0 0 ∷ k ∷ (bytes16 next ++ bytes32 (le32 s 4))) ++ drop 8 s) (sym z)
      ∙ ap (λ (k : ℕ). (these s 0 2 ++ (bytes16 k ++ bytes32 (le32 s 4))) ++ drop 8 s) (sym o)
      ∙ ap (λ (y : List ℕ). (these s 0 2 ++ (y ++ bytes32 (le32 s 4))) ++ drop 8 s) (pair s 2 h)
      ∙ ap (λ (y : List ℕ). (these s 0 4 ++ y) ++ drop 8 s) (bytes32_back (get_or s 4 0) (get_or s 5 0) (get_or s 6 0) (get_or s 7 0) (h 4) (h 5) (h 6))
      ∙ these_then 8 s 0 f.2.2.2.0

  rows_cons : (r : Record) (rs : List Record) (next : ℕ) (tail : List ℕ) → rows_bytes (r ∷ rs) next ++ tail ≡ row_bytes r next ++ (rows_bytes rs (next + size_of (kind_of r.body)) ++ tail)
  unfolding rows_bytes
  rows_cons r rs next tail = append_assoc (row_bytes r next) (rows_bytes rs (next + size_of (kind_of r.body))) tail

  -- ---- contents and bodies

  abbrev kind_at : List ℕ → ℕ → ℕ
  kind_at s row = get_or (drop row s) 0 0

  abbrev rows_after : List ℕ → ℕ → ℕ → ℕ → List Field
  rows_after s n row next = rows_fields s n (row + 8) (next + size_of (kind_at s row)) (rank (le32 (drop row s) 4) (kind_at s row))

  -- the row at its place, and the rows behind it
  row_split : (s : List ℕ) (n row next before : ℕ) → row ≤ length s → Passed (length s) (rows_fields s (suc n) row next before)
      → Passed (length (drop row s)) (row_fields (drop row s) next before) × Passed (length s) (rows_after s n row next)
  unfolding rows_fields
  row_split s n row next before inside p =
      let q = split (length s) (placed row (row_fields (drop row s) next before)) (rows_after s n row next) p in
      (unplace s row inside (row_fields (drop row s) next before) q.0, q.1)

  body_split : (s : List ℕ) (n row at : ℕ) → at ≤ length s → Passed (length s) (bodies_fields rule s (suc n) row at)
      → Passed (length (drop at s)) (body_fields rule (kind_at s row) (drop at s)) × Passed (length s) (bodies_fields rule s n (row + 8) (at + size_of (kind_at s row)))
  unfolding bodies_fields
  body_split s n row at inside p =
      let q = split (length s) (placed at (body_fields rule (kind_at s row) (drop at s))) (bodies_fields rule s n (row + 8) (at + size_of (kind_at s row))) p in
      (unplace s at inside (body_fields rule (kind_at s row) (drop at s)) q.0, q.1)

  ends : (s : List ℕ) (row at : ℕ) → Passed (length s) (bodies_fields rule s 0 row at) → length s ≡ at
  unfolding bodies_fields
  ends s row at p = eqb-true (length s) at p.1

  pub record Written (s : List ℕ) (n row at next before : ℕ) : Type 0 where
    pub rows : rows_bytes (records_from s n row at) next ++ drop (row + 8 * n) s ≡ drop row s
    pub bodies : bodies_bytes (records_from s n row at) ≡ drop at s
    pub right : AllRight rule before (records_from s n row at)
    pub count : length (records_from s n row at) ≡ n

  module _ (s : List ℕ) (are : AreBytes s) where
    back : (n row at next before : ℕ) → row ≤ length s → at ≤ length s → Passed (length s) (rows_fields s n row next before) → Passed (length s) (bodies_fields rule s n row at)
        → Written s n row at next before
    unfolding records_from rows_bytes bodies_bytes
    back zero row at next before inside room p q =
        let e : row + 8 * 0 ≡ row = omega arith in
        let l : length s ≡ at = ends s row at q in
        record { rows = ap (λ (k : ℕ). drop k s) e; bodies = sym (ap (λ (k : ℕ). drop k s) (sym l) ∙ drop-length s); right = tt; count = refl }
    back (suc n) row at next before inside room p q =
        let k : ℕ = kind_at s row in
        let r = row_split s n row next before inside p in
        let b = body_split s n row at room q in
        let found = body_back k r.0.1 (drop at s) (bytes_drop s at are) b.0 in
        let x : Record = record { minute = le32 (drop row s) 4; body = body_of k (drop at s) } in
        let xs : List Record = records_from s n (row + 8) (at + size_of k) in
        let inside' : row + 8 ≤ length s = omega (arith, r.0.2.2.2.0, length-drop row s) in
        let room' : at + size_of k ≤ length s = omega (arith, found.whole, length-drop at s) in
        let ih = back n (row + 8) (at + size_of k) (next + size_of k) (rank (le32 (drop row s) 4) k) inside' room' r.1 b.1 in
        let e8 : row + 8 * suc n ≡ row + 8 + 8 * n = omega arith in
        record {
          rows =
              rows_cons x xs next (drop (row + 8 * suc n) s)
              ∙ ap (λ (j : ℕ). row_bytes x next ++ (rows_bytes xs (next + size_of j) ++ drop (row + 8 * suc n) s)) found.kind
              ∙ ap (λ (j : ℕ). row_bytes x next ++ (rows_bytes xs (next + size_of k) ++ drop j s)) e8
              ∙ ap (λ (y : List ℕ). row_bytes x next ++ y) (ih.rows ∙ sym (drop-drop 8 row s))
              ∙ row_back (drop row s) next before x.body (bytes_drop s row are) r.0 found.kind;
          bodies = ap (λ (y : List ℕ). body_bytes x.body ++ y) (ih.bodies ∙ sym (drop-drop (size_of k) at s)) ∙ found.bytes;
          right = (
            both {a = minute_right before (kind_of x.body) x.minute} {b = body_right rule x.body} (ap (λ (j : ℕ). minute_right before j (le32 (drop row s) 4)) found.kind ∙ r.0.2.2.2.1) found.right,
            subst (λ (j : ℕ). AllRight rule (rank (le32 (drop row s) 4) j) xs) (sym found.kind) ih.right,
          );
          count = ap suc ih.count;
        }

  -- contents that are right are whole
  rows_whole : (s : List ℕ) (n row next before : ℕ) → row ≤ length s → Passed (length s) (rows_fields s n row next before) → row + 8 * n ≤ length s
  rows_whole s zero row next before inside p = omega arith
  rows_whole s (suc n) row next before inside p =
      let r = row_split s n row next before inside p in
      let l : row + 8 ≤ length s = omega (arith, r.0.2.2.2.0, length-drop row s) in
      omega (arith, rows_whole s n (row + 8) (next + size_of (kind_at s row)) (rank (le32 (drop row s) 4) (kind_at s row)) l r.1)

  -- ---- the file

  pub record SameFile (s : List ℕ) (rs : List Record) : Type 0 where
    pub same : file_of rs ≡ s
    pub few : length rs ≤ 48
    pub right : AllRight rule 0 rs

  pub read_right : (s : List ℕ) (rs : List Record) → AreBytes s → reading rule s ≡ given rs → SameFile s rs
  unfolding reading
  read_right s rs are e = subst (SameFile s) (given_is (field_tests (length s) (fields rule s)) (records s) rs e) found
    where
      found : SameFile s (records s)
      found =
          let n : ℕ = count_of s in
          let rows_of : List Field = rows_fields s n 4 (start_of n) 0 in
          let bodies_of : List Field = bodies_fields rule s n 4 (start_of n) in
          let a = split (length s) (head_fields s) (rows_of ++ bodies_of) (given_passed (length s) (fields rule s) (records s) rs e) in
          let b = split (length s) rows_of bodies_of a.1 in
          let head = a.0 in
          let label = and_true (eqb (get_or s 0 0) 0x57) (eqb (get_or s 1 0) 0x54) head.1 in
          let start : start_of n ≤ length s = rows_whole s n 4 (start_of n) 0 head.2.2.0 b.0 in
          let w = back s are n 4 (start_of n) (start_of n) 0 head.2.2.0 start b.0 b.1 in
          record {
            same =
                file_back s (records s) n head.2.2.0 (eqb-true (get_or s 0 0) 0x57 label.0) (eqb-true (get_or s 1 0) 0x54 label.1)
                (eqb-true (get_or s 2 0) 1 head.2.1) refl w.count w.rows w.bodies;
            few = omega (arith, w.count, leb-true n 48 head.2.2.1);
            right = w.right;
          }
