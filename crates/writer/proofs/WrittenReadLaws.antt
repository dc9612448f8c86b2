-- Records that may be written, written and read again, are the same: each field of the bytes is whole and right, and says what the
-- record held. By induction on the records. Assumes nothing.
use mathlib.Core.Path.{◌≡◌, refl, sym, ap, ◌∙◌, subst}
use mathlib.Core.Bool.{Bool, true, ◌&&◌}
use mathlib.Core.List.{List, [], ◌∷◌, ◌++◌, append_assoc}
use Prim.Native.Nat.{ℕ, ◌+◌, ◌≤◌}
use native.Mathlib.Omega.{arith}
use lib.IntN.{ℤ}
use lib.ListN.{length, drop, get_or, length-drop, length-append}
use lib.Seq.{drop_at, drop-drop}
use borrow.Author.Tests.{eq-eqb, le-leb}
use Rattle.number.specs.declared.Kept.{Kept}
use Rattle.number.specs.Refusal.{given}
use Rattle.number.proofs.Sizes.{and_true}
use Rattle.octets.specs.Bytes.{le32, signed16, unsigned16}
use Rattle.watchfile.specs.Rules.{size_of, rank, minute_right, pressure_right, change_right, absent_right, speed_right, direction_right, e_right, saturation_right, deficit_right, relative_right, dew_right}
use Rattle.watchfile.specs.Fields.{Field, placed}
use Rattle.watchfile.specs.Format.{DewRule, kept, body_fields, body_of, row_fields, head_fields, rows_fields, bodies_fields, fields, records_from, records, start_of, reading, kind_of, body_bytes, row_bytes, rows_bytes, bodies_bytes, file_of, body_right, rank_of}
use Rattle.watchfile.specs.declared.Body.{Body}
use Rattle.watchfile.specs.declared.Body.TheVariants.{Pressure, Tendency, Wind, Humidity}
use Rattle.watchfile.specs.declared.Record.{Record}
use Rattle.watchfile.proofs.FieldLaws.{Passed, passed_given}
use Rattle.writer.proofs.SizeLaws.{length_body, length_rows}
use Rattle.octets.proofs.ByteLaws.{read16, read16_is, read32_is, signed_is}
use Rattle.writer.proofs.RightLaws.{AllRight, kind_right_lem, change_fits, dew_fits}
use Rattle.watchfile.proofs.PassedLaws.{join, place}

two : (f : ℕ → ℕ → Bool) (a b : ℕ) → f (read16 a) (read16 b) ≡ f a b
two f a b = rw (read16_is a, read16_is b)

three : (f : ℕ → ℕ → ℕ → Bool) (a b c : ℕ) → f (read16 a) (read16 b) (read16 c) ≡ f a b c
three f a b c = rw (read16_is a, read16_is b, read16_is c)

signed_read : (z : Kept) → signed16 (unsigned16 z.v) ≡ z.v → signed16 (read16 (unsigned16 z.v)) ≡ z.v
signed_read z h = ap signed16 (read16_is (unsigned16 z.v)) ∙ h

module _ (rule : ℕ → ℤ) (ruled : DewRule rule) where
  -- ---- a body

  pub record HumidityRight (e saturation deficit relative : ℕ) (dew : ℤ) : Type 0 where
    pub e_right_lem : e_right saturation e ≡ true
    pub saturation_right_lem : saturation_right saturation ≡ true
    pub deficit_right_lem : deficit_right e saturation deficit ≡ true
    pub relative_right_lem : relative_right e saturation relative ≡ true
    pub dew_right_lem : dew_right rule e dew ≡ true

  humidity_right : (e s d r : ℕ) (w : Kept) → body_right rule (Humidity e s d r w) ≡ true → HumidityRight e s d r w.v
  humidity_right e s d r w h =
      let a = and_true (e_right s e && saturation_right s && deficit_right e s d && relative_right e s r) (dew_right rule e w.v) h in
      let b = and_true (e_right s e && saturation_right s && deficit_right e s d) (relative_right e s r) a.0 in
      let c = and_true (e_right s e && saturation_right s) (deficit_right e s d) b.0 in
      let f = and_true (e_right s e) (saturation_right s) c.0 in
      record { e_right_lem = f.0; saturation_right_lem = f.1; deficit_right_lem = c.1; relative_right_lem = b.1; dew_right_lem = a.1 }

  body_passes : (b : Body) (more : List ℕ) → body_right rule b ≡ true → Passed (length (body_bytes b ++ more)) (body_fields rule (kind_of b) (body_bytes b ++ more))
  body_passes (Pressure p) more h = (omega arith, ap pressure_right (read16_is p) ∙ h, tt)
  body_passes (Tendency z n) more h =
      let p = and_true (change_right z.v) (absent_right n) h in
      (omega arith, ap change_right (signed_read z (signed_is z.v (change_fits z.v p.0))) ∙ p.0, (omega arith, p.1, tt))
  body_passes (Wind v d) more h =
      let p = and_true (speed_right v) (direction_right v d) h in
      (omega arith, ap speed_right (read16_is v) ∙ p.0, (omega arith, two direction_right v d ∙ p.1, tt))
  body_passes (Humidity e s d r w) more h =
      let p = humidity_right e s d r w h in
      let same = signed_read w (signed_is w.v (dew_fits rule ruled e w.v p.dew_right_lem)) in (
        omega arith,
        two e_right s e ∙ p.e_right_lem,
        (
          omega arith,
          ap saturation_right (read16_is s) ∙ p.saturation_right_lem,
          (
            omega arith,
            three deficit_right e s d ∙ p.deficit_right_lem,
            (
              omega arith,
              two (λ (x y : ℕ). relative_right x y r) e s ∙ p.relative_right_lem,
              (omega arith, ap (dew_right rule (read16 e)) same ∙ ap (λ (x : ℕ). dew_right rule x w.v) (read16_is e) ∙ p.dew_right_lem, tt),
            ),
          ),
        ),
      )

  body_same : (b : Body) (more : List ℕ) → body_right rule b ≡ true → body_of (kind_of b) (body_bytes b ++ more) ≡ b
  body_same (Pressure p) more h = ap Pressure (read16_is p)
  body_same (Tendency z n) more h =
      let p = and_true (change_right z.v) (absent_right n) h in
      ap (λ (x : ℤ). Tendency (kept x) n) (signed_read z (signed_is z.v (change_fits z.v p.0)))
  body_same (Wind v d) more h = rw (read16_is v, read16_is d)
  body_same (Humidity e s d r w) more h =
      let p = humidity_right e s d r w h in
      rw (read16_is e, read16_is s, read16_is d)
      (ap (λ (x : ℤ). Humidity e s d r (kept x)) (signed_read w (signed_is w.v (dew_fits rule ruled e w.v p.dew_right_lem))))

  -- ---- a row

  row_passes : (r : Record) (next before : ℕ) (more : List ℕ) → minute_right before (kind_of r.body) r.minute ≡ true
      → Passed (length (row_bytes r next ++ more)) (row_fields (row_bytes r next ++ more) next before)
  row_passes r next before more h = (
    omega arith,
    kind_right_lem r.body,
    (
      omega arith,
      refl,
      (
        omega arith,
        eq-eqb (read16 next) next (read16_is next),
        (omega arith, ap (minute_right before (kind_of r.body)) (read32_is r.minute) ∙ h, tt),
      ),
    ),
  )

  minute_right_lem : (before : ℕ) (r : Record) (rs : List Record) → AllRight rule before (r ∷ rs) → minute_right before (kind_of r.body) r.minute ≡ true
  minute_right_lem before r rs h = (and_true (minute_right before (kind_of r.body) r.minute) (body_right rule r.body) h.0).0

  body_right_lem : (before : ℕ) (r : Record) (rs : List Record) → AllRight rule before (r ∷ rs) → body_right rule r.body ≡ true
  body_right_lem before r rs h = (and_true (minute_right before (kind_of r.body) r.minute) (body_right rule r.body) h.0).1

  -- what stands in the file from a row on, and behind it
  module _ (r : Record) (rs : List Record) (s tail : List ℕ) (at next : ℕ) (e : drop at s ≡ rows_bytes (r ∷ rs) next ++ tail) where
    pub row_here : drop at s ≡ row_bytes r next ++ (rows_bytes rs (next + size_of (kind_of r.body)) ++ tail)
    unfolding rows_bytes
    row_here = e ∙ append_assoc (row_bytes r next) (rows_bytes rs (next + size_of (kind_of r.body))) tail

    pub row_behind : drop (at + 8) s ≡ rows_bytes rs (next + size_of (kind_of r.body)) ++ tail
    row_behind = sym (drop-drop 8 at s) ∙ ap (drop 8) row_here

    pub row_room : at ≤ length s → at + 8 ≤ length s
    row_room h = omega (arith, ap length row_here, length-drop at s)

  rows_pass : (rs : List Record) (s tail : List ℕ) (at next before : ℕ) → at ≤ length s → drop at s ≡ rows_bytes rs next ++ tail → AllRight rule before rs
      → Passed (length s) (rows_fields s (length rs) at next before)
  unfolding rows_fields
  rows_pass [] s tail at next before inside e h = tt
  rows_pass (r ∷ rs) s tail at next before inside e h =
      let k : ℕ = kind_of r.body in
      let d = row_here r rs s tail at next e in
      let more : List ℕ = rows_bytes rs (next + size_of k) ++ tail in
      let rest = rows_pass rs s tail (at + 8) (next + size_of k) (rank_of r) (row_room r rs s tail at next e inside) (row_behind r rs s tail at next e) h.1 in
      let later : List Field = rows_fields s (length rs) (at + 8) (next + size_of (get_or (drop at s) 0 0)) (rank (le32 (drop at s) 4) (get_or (drop at s) 0 0)) in
      join (length s) (placed at (row_fields (drop at s) next before)) later
      (place s at inside (row_fields (drop at s) next before) (rw d (row_passes r next before more (minute_right_lem before r rs h))))
      (subst
      (λ (q : List ℕ). Passed (length s) (rows_fields s (length rs) (at + 8) (next + size_of (get_or q 0 0)) (rank (le32 q 4) (get_or q 0 0))))
      (sym d)
      (subst (λ (m : ℕ). Passed (length s) (rows_fields s (length rs) (at + 8) (next + size_of k) (rank m k))) (sym (read32_is r.minute)) rest))

  -- ---- the bodies

  abbrev kind_at : List ℕ → ℕ → ℕ
  kind_at s row = get_or (drop row s) 0 0

  bodies_end : (s : List ℕ) (row at : ℕ) → at ≤ length s → drop at s ≡ bodies_bytes [] → Passed (length s) (bodies_fields rule s 0 row at)
  unfolding bodies_fields bodies_bytes
  bodies_end s row at inside e = let l : length s ≡ at = omega (arith, ap length e, length-drop at s) in (inside, eq-eqb (length s) at l, tt)

  bodies_pass : (rs : List Record) (s tail : List ℕ) (row next at before : ℕ) → row ≤ length s → at ≤ length s → drop row s ≡ rows_bytes rs next ++ tail → drop at s ≡ bodies_bytes rs
      → AllRight rule before rs → Passed (length s) (bodies_fields rule s (length rs) row at) × (records_from s (length rs) row at ≡ rs)
  unfolding bodies_fields records_from bodies_bytes
  bodies_pass [] s tail row next at before inside room e f h = (bodies_end s row at room f, refl)
  bodies_pass (r ∷ rs) s tail row next at before inside room e f h =
      let b : Body = r.body in
      let k : ℕ = kind_of b in
      let d = row_here r rs s tail row next e in
      let kind : kind_at s row ≡ k = ap (λ (q : List ℕ). get_or q 0 0) d in
      let minute : le32 (drop row s) 4 ≡ r.minute = ap (λ (q : List ℕ). le32 q 4) d ∙ read32_is r.minute in
      let right = body_right_lem before r rs h in
      let behind : drop (at + size_of k) s ≡ bodies_bytes rs = sym (drop-drop (size_of k) at s) ∙ ap (drop (size_of k)) f ∙ drop_at (body_bytes b) (bodies_bytes rs) (size_of k) (length_body b) in
      let whole : at + size_of k ≤ length s = omega (arith, ap length f, length-append (body_bytes b) (bodies_bytes rs), length_body b, length-drop at s) in
      let ih = bodies_pass rs s tail (row + 8) (next + size_of k) (at + size_of k) (rank_of r) (row_room r rs s tail row next e inside) whole (row_behind r rs s tail row next e) behind h.1 in (
        rw kind (join (length s) (placed at (body_fields rule k (drop at s))) (bodies_fields rule s (length rs) (row + 8) (at + size_of k)) (place s at room (body_fields rule k (drop at s)) (rw f (body_passes b (bodies_bytes rs) right))) ih.0),
        rw (kind, minute, f, body_same b (bodies_bytes rs) right, ih.1),
      )

  -- ---- the file

  pub right_read : (rs : List Record) → length rs ≤ 48 → AllRight rule 0 rs → reading rule (file_of rs) ≡ given rs
  unfolding reading
  right_read rs few h =
      let s : List ℕ = file_of rs in
      let n : ℕ = length rs in
      let e : drop (start_of n) s ≡ bodies_bytes rs = drop_at (0x57 ∷ 0x54 ∷ 1 ∷ n ∷ rows_bytes rs (start_of n)) (bodies_bytes rs) (start_of n) (omega (arith, length_rows rs (start_of n))) in
      let room : start_of n ≤ length s = omega (arith, length-append (rows_bytes rs (start_of n)) (bodies_bytes rs), length_rows rs (start_of n)) in
      let rows = rows_pass rs s (bodies_bytes rs) 4 (start_of n) 0 (omega arith) refl h in
      let bodies = bodies_pass rs s (bodies_bytes rs) 4 (start_of n) (start_of n) 0 (omega arith) room refl e h in
      let rows_of : List Field = rows_fields s n 4 (start_of n) 0 in
      let bodies_of : List Field = bodies_fields rule s n 4 (start_of n) in
      passed_given (length s) (fields rule s) (records s)
      (join (length s) (head_fields s) (rows_of ++ bodies_of) (omega arith, refl, (omega arith, refl, (omega arith, le-leb n 48 few, tt))) (join (length s) rows_of bodies_of rows bodies.0))
      ∙ ap given bodies.1
