-- A turn of the loop over the bodies: what is left to test from the next body on answers for what was left before. Assumes nothing.
use mathlib.Core.Path.{◌≡◌, refl, sym, ap, ◌∙◌, subst}
use mathlib.Core.List.{List, ◌++◌}
use Prim.Native.Nat.{ℕ, zero, suc, ◌+◌, ◌-◌, ◌≤◌, ◌<◌}
use native.Mathlib.Omega.{arith}
use lib.IntN.{ℤ}
use lib.ListN.{length, drop, get_or}
use borrow.Author.Tests.{eq-eqb, ne_eqb, eqb-true}
use Rattle.number.specs.Refusal.{refused, given, answer}
use Rattle.octets.specs.Bytes.{le16, le32}
use Rattle.watchfile.specs.Rules.{size_of, rank}
use Rattle.watchfile.specs.Fields.{Field, field_tests, placed}
use Rattle.watchfile.specs.Format.{rows_fields, body_fields, bodies_fields, records_from}
use Rattle.watchfile.specs.declared.Record.{Record}
use Rattle.watchfile.proofs.FieldLaws.{wrong, right, none, Passed, given_passed, placed_refused, placed_given, place_within}
use Rattle.std.specs.Prelude.{Result, Ok, Err}
use Rattle.reader.specs.Work.{found, found_as, BodyHas}
use Rattle.reader.specs.declared.Broken.{Broken}
use Rattle.reader.proofs.ContentsLaws.{part, part_all, found_part}
use Rattle.reader.proofs.SizeLaws.{body_whole, body_ordered}

abbrev pub kind_at : List ℕ → ℕ → ℕ
kind_at s row = get_or (drop row s) 0 0

pub kind_is : (s : List ℕ) (row : ℕ) → get_or (part s row) 0 0 ≡ kind_at s row
kind_is s row = ap (λ (p : List ℕ). get_or p 0 0) (part_all s row)

-- the row of a record whose contents are right: its offset is where the body before it ended, and the rows behind it are right
pub row_right : (l : ℕ) (s : List ℕ) (n m row end before : ℕ) → n ≡ suc m → Passed l (rows_fields s n row end before)
    → (le16 (part s row) 2 ≡ end) × Passed l (rows_fields s m (row + 8) (end + size_of (kind_at s row)) (rank (le32 (drop row s) 4) (kind_at s row)))
unfolding rows_fields
row_right l s n m row end before e p =
    let p' = rw e at p in
    (ap (λ (x : List ℕ). le16 x 2) (part_all s row) ∙ eqb-true (le16 (drop row s) 2) end p'.2.2.1, p'.2.2.2.2)

-- ---- a body

-- what is found of a body of a kind
abbrev pub BodyAt : (ℕ → ℤ) → List ℕ → ℕ → Result (Unit {0}) Broken → Type 0
BodyAt rule s kind q = BodyHas (body_fields rule kind s) s q

module _ (rule : ℕ → ℤ) (s : List ℕ) (all : List Record) (n m row at : ℕ) (some : n ≡ suc m) (inside : at ≤ length s) (q : Result (Unit {0}) Broken) where
  body : List ℕ
  body = drop at s

  behind : List Field
  behind = bodies_fields rule s m (row + 8) (at + size_of (kind_at s row))

  first : bodies_fields rule s n row at ≡ placed at (body_fields rule (kind_at s row) body) ++ behind
  unfolding body behind bodies_fields
  first = rw some

  at_body : BodyAt rule (part s at) (kind_at s row) q
      → found_as q ≡ answer (field_tests (length s - at) (body_fields rule (kind_at s row) body)) tt
  unfolding body
  at_body h =
      subst (λ (p : List ℕ). BodyAt rule p (kind_at s row) q) (part_all s at) h
      ∙ found_part s at (body_fields rule (kind_at s row) (drop at s)) tt

  pub body_stop : (b : Broken) → BodyAt rule (part s at) (kind_at s row) q → q ≡ Err b
      → (found s (bodies_fields rule s n row at) all ≡ refused (at + b.0)) × (at + b.0 ≤ length s)
  unfolding body
  body_stop b h is =
      let k = b.0 in
      let fs = body_fields rule (kind_at s row) body in
      let wrong = sym (at_body h) ∙ ap found_as is in
      let within = place_within (length s - at) fs tt k (body_ordered rule body (kind_at s row)) wrong in
      (rw first (placed_refused (length s) at fs behind tt all inside k wrong), omega arith)

  pub body_on : BodyAt rule (part s at) (kind_at s row) q → q ≡ Ok tt
      → (found s (bodies_fields rule s n row at) all ≡ found s (bodies_fields rule s m (row + 8) (at + size_of (kind_at s row))) all)
      × (at + size_of (kind_at s row) ≤ length s)
  unfolding body behind
  body_on h is =
      let fs = body_fields rule (kind_at s row) body in
      let good = sym (at_body h) ∙ ap found_as is in
      let whole = body_whole rule body (length s - at) (kind_at s row) (given_passed (length s - at) fs tt tt good) in
      (rw first (placed_given (length s) at fs behind tt all inside tt good), omega arith)

-- ---- the end: a byte that is left, or none

module _ (rule : ℕ → ℤ) (s : List ℕ) (all : List Record) (n row at : ℕ) (e : n ≡ 0) where
  pub end_extra : at < length s → found s (bodies_fields rule s n row at) all ≡ refused at
  unfolding bodies_fields
  end_extra h = rw e (wrong _ _ _ _ (omega arith) (ne_eqb (length s) at (λ z. omega arith)))

  pub end_none : at ≡ length s → found s (bodies_fields rule s n row at) all ≡ given all
  unfolding bodies_fields
  end_none h = rw e (right _ _ _ _ (omega arith) (eq-eqb (length s) at (sym h)) ∙ none (length s) all)

-- ---- the records

pub length_records : (s : List ℕ) (n row at : ℕ) → length (records_from s n row at) ≡ n
unfolding records_from
length_records s zero row at = refl
length_records s (suc n) row at = ap suc (length_records s n (row + 8) (at + size_of (kind_at s row)))
