-- Single records: where one stands in any bytes, and that those of a good file are its own. Assumes nothing.
use mathlib.Core.Path.{◌≡◌, refl, sym, ap, ◌∙◌, subst}
use mathlib.Core.Bool.{Bool, true, false, ◌&&◌, cond}
use mathlib.Core.List.{List}
use Prim.Native.Nat.{ℕ, zero, suc, ◌+◌, ◌*◌, ◌-◌, ◌≤◌, ◌<◌}
use native.Mathlib.Omega.{arith}
use native.Mathlib.Nat.{not-suc-le-zero}
use lib.Dec.{ltb, leb}
use lib.IntN.{ℤ}
use lib.ListN.{length, get_or, drop, get_or-eq_default}
use borrow.Author.Tests.{le-leb, lt-leb, lt-ltb, le-ltb, leb-true, eqb-true}
use Rattle.number.specs.Refusal.{given}
use Rattle.number.proofs.RefusalLaws.{given_is}
use Rattle.number.proofs.Sizes.{impossible}
use Rattle.octets.specs.Bytes.{le16, le32}
use Rattle.watchfile.specs.Rules.{kind_right, size_of, rank}
use Rattle.watchfile.specs.Fields.{field_tests, placed}
use Rattle.watchfile.specs.Format.{blank, count_of, start_of, body_of, body_fields, figures_of, nothing, fields, rows_fields, bodies_fields, records, records_from, reading}
use Rattle.watchfile.specs.declared.Record.{Record}
use Rattle.watchfile.specs.declared.Figures.{Figures}
use Rattle.watchfile.proofs.FieldLaws.{Passed, given_passed}
use Rattle.watchfile.proofs.PassedLaws.{split, unplaced}
use Rattle.reader.specs.Read.{row_at, kind_at, offset_at, is_there, record_in, record_at}
use Rattle.reader.specs.Work.{row_of, place_of}
use Rattle.reader.specs.declared.Row.{Row}
use Rattle.reader.specs.declared.Place.{Place}
use Rattle.std.specs.Prelude.{Option, Some, None}
use Rattle.reader.proofs.ContentsLaws.{part, part_all}
use Rattle.reader.proofs.SizeLaws.{body_whole, size_least}
use Rattle.reader.proofs.BodiesLaws.{length_records}

-- ---- where a record stands, test by test

-- a place, found
abbrev pub At : Row → ℕ → Option Place
At row at = Some (record { row = row; at = at })

module _ (s : List ℕ) (i : ℕ) where
  -- a file too short for a count counts nothing
  pub few : length s < 4 → None ≡ place_of s i
  few h =
      let none : count_of s ≡ 0 = get_or-eq_default s 0 (omega arith) in
      rw (none, le-ltb i 0 (omega arith))

  pub not_counted : count_of s ≤ i → None ≡ place_of s i
  not_counted h = rw (le-ltb i (count_of s) h)

  pub row_cut : i < count_of s → length s < start_of i + 8 → None ≡ place_of s i
  row_cut c h = rw (lt-ltb i (count_of s) c, lt-leb (start_of i + 8) (length s) h)

  -- the row, as the code takes it
  abbrev row : List ℕ
  row = part s (start_of i)

  row_is : row ≡ row_at s i
  row_is = part_all s (start_of i)

  pub no_kind : i < count_of s → start_of i + 8 ≤ length s → kind_right (get_or row 0 0) ≡ false → None ≡ place_of s i
  no_kind c w h =
      let k = ap (λ (p : List ℕ). kind_right (get_or p 0 0)) (sym row_is) ∙ h in
      rw (lt-ltb i (count_of s) c, le-leb (start_of i + 8) (length s) w, k)

  pub body_cut : i < count_of s → start_of i + 8 ≤ length s → kind_right (get_or row 0 0) ≡ true
      → length s < le16 row 2 + size_of (get_or row 0 0) → None ≡ place_of s i
  body_cut c w k h =
      let k' = ap (λ (p : List ℕ). kind_right (get_or p 0 0)) (sym row_is) ∙ k in
      let end = ap (λ (p : List ℕ). leb (le16 p 2 + size_of (get_or p 0 0)) (length s)) (sym row_is) ∙ lt-leb (le16 row 2 + size_of (get_or row 0 0)) (length s) h in
      rw (lt-ltb i (count_of s) c, le-leb (start_of i + 8) (length s) w, k', end)

  pub there : i < count_of s → start_of i + 8 ≤ length s → kind_right (get_or row 0 0) ≡ true
      → le16 row 2 + size_of (get_or row 0 0) ≤ length s → At (row_of row) (le16 row 2) ≡ place_of s i
  there c w k h =
      let k' = ap (λ (p : List ℕ). kind_right (get_or p 0 0)) (sym row_is) ∙ k in
      let end = ap (λ (p : List ℕ). leb (le16 p 2 + size_of (get_or p 0 0)) (length s)) (sym row_is) ∙ le-leb (le16 row 2 + size_of (get_or row 0 0)) (length s) h in
      ap (λ (p : List ℕ). At (row_of p) (le16 p 2)) row_is ∙ rw (lt-ltb i (count_of s) c, le-leb (start_of i + 8) (length s) w, k', end)

  -- ---- and what is read there

  all_true : (a b c d : Bool) → (a && b && c && d) ≡ true → (c ≡ true) × (d ≡ true)
  all_true true true true d h = (refl, h)
  all_true true true false d h = impossible cc
  all_true true false c d h = impossible cc
  all_true false b c d h = impossible cc

  nowhere_by : (b : Bool) (row : Row) (at : ℕ) (r : Figures) → cond b (At row at) None ≡ None → nothing ≡ cond b r nothing
  nowhere_by true row at r h = cc
  nowhere_by false row at r h = refl

  pub nowhere_is : (p : Option Place) → p ≡ place_of s i → p ≡ None → nothing ≡ record_at s i
  nowhere_is p e n = nowhere_by (is_there s i) (row_of (row_at s i)) (offset_at s i) (figures_of (record_in s i)) (sym e ∙ n)

  at_by : (b : Bool) (row : Row) (at : ℕ) (p : Place) → cond b (At row at) None ≡ Some p → (b ≡ true) × (row ≡ p.row) × (at ≡ p.at)
  at_by true row at p h =
      let e : ◌≡◌ {A = Place} (record { row = row; at = at }) p = cc in
      (refl, ap (λ (x : Place). x.row) e, ap (λ (x : Place). x.at) e)
  at_by false row at p h = impossible (cc)

  pub at_is : (r : Option Place) (p : Place) → r ≡ place_of s i → r ≡ Some p
      → (p.at ≡ offset_at s i) × (p.row ≡ row_of (row_at s i)) × (p.at + size_of p.row.kind ≤ length s) × (record_at s i ≡ figures_of (record_in s i))
      × (kind_right p.row.kind ≡ true)
  at_is r p e is =
      let f = at_by (is_there s i) (row_of (row_at s i)) (offset_at s i) p (sym e ∙ is) in
      let t = all_true (ltb i (count_of s)) (leb (start_of i + 8) (length s)) (kind_right (kind_at s i)) (leb (offset_at s i + size_of (kind_at s i)) (length s)) f.0 in
      let w = leb-true (offset_at s i + size_of (kind_at s i)) (length s) t.1 in
      let k : p.row.kind ≡ kind_at s i = ap (λ (x : Row). x.kind) (sym f.1) in
      (sym f.2, sym f.1, omega (arith, w, f.2, ap size_of k), rw f.0, ap kind_right k ∙ t.0)

-- ---- the records of a good file

-- what stands at a row, with the body at the offset that it names
abbrev standing : List ℕ → ℕ → Record
standing s row = record { minute = le32 (drop row s) 4; body = body_of (get_or (drop row s) 0 0) (drop (le16 (drop row s) 2) s) }

pub record Stands (s : List ℕ) (row : ℕ) (r : Record) : Type 0 where
  pub whole : row + 8 ≤ length s
  pub kind : kind_right (get_or (drop row s) 0 0) ≡ true
  pub body : le16 (drop row s) 2 + size_of (get_or (drop row s) 0 0) ≤ length s
  pub is : standing s row ≡ r

module _ (rule : ℕ → ℤ) (s : List ℕ) where
  -- row by row: each names the offset where the body before it ended
  stands : (n row at before i : ℕ) → Passed (length s) (rows_fields s n row at before) → Passed (length s) (bodies_fields rule s n row at) → i < n
      → Stands s (row + 8 * i) (get_or (records_from s n row at) i blank)
  unfolding rows_fields bodies_fields records_from
  stands zero row at before i p b h = absurd (not-suc-le-zero h)
  stands (suc n) row at before zero p b h =
      let kind = get_or (drop row s) 0 0 in
      let o = eqb-true (le16 (drop row s) 2) at p.2.2.1 in
      let both = split (length s) (placed at (body_fields rule kind (drop at s))) (bodies_fields rule s n (row + 8) (at + size_of kind)) b in
      let w = body_whole rule (drop at s) (length s - at) kind (unplaced (length s) at (body_fields rule kind (drop at s)) both.0) in
      let e : row + 8 * 0 ≡ row = omega arith in
      rw e
      (record {
        whole = omega (arith, p.2.2.2.0);
        kind = p.1;
        body = omega (arith, w, o, size_least kind);
        is = ap (λ (k : ℕ). record { minute = le32 (drop row s) 4; body = body_of kind (drop k s) }) o;
      })
  stands (suc n) row at before (suc i) p b h =
      let kind = get_or (drop row s) 0 0 in
      let both = split (length s) (placed at (body_fields rule kind (drop at s))) (bodies_fields rule s n (row + 8) (at + size_of kind)) b in
      let e : row + 8 * suc i ≡ row + 8 + 8 * i = omega arith in
      rw e (stands n (row + 8) (at + size_of kind) (rank (le32 (drop row s) 4) kind) i p.2.2.2.2 both.1 (omega arith))

  module _ (rs : List Record) (good : reading rule s ≡ given rs) where
    records_are : records s ≡ rs
    unfolding reading
    records_are = given_is (field_tests (length s) (fields rule s)) (records s) rs good

    pub counts : length rs ≡ count_of s
    counts = ap length (sym records_are) ∙ length_records s (count_of s) 4 (start_of (count_of s))

    -- the i-th record stands at the i-th row
    pub at_row : (i : ℕ) → i < length rs → Stands s (start_of i) (get_or rs i blank)
    unfolding reading
    at_row i h =
        let p = (given_passed (length s) (fields rule s) (records s) rs good).2.2.2 in
        let both = split (length s) (rows_fields s (count_of s) 4 (start_of (count_of s)) 0) (bodies_fields rule s (count_of s) 4 (start_of (count_of s))) p in
        subst (λ (all : List Record). Stands s (start_of i) (get_or all i blank)) records_are
        (stands (count_of s) 4 (start_of (count_of s)) 0 i both.0 both.1 (omega (arith, h, counts)))

    pub good_record : (i : ℕ) → i < length rs → record_at s i ≡ figures_of (get_or rs i blank)
    good_record i h =
        let t = at_row i h in
        rw (lt-ltb i (count_of s) (omega (arith, h, counts)), le-leb (start_of i + 8) (length s) t.whole, t.kind, le-leb (offset_at s i + size_of (kind_at s i)) (length s) t.body)
        (ap figures_of t.is)

    pub no_more : (i : ℕ) → length rs ≤ i → record_at s i ≡ nothing
    no_more i h = rw (le-ltb i (count_of s) (omega (arith, h, counts)))
