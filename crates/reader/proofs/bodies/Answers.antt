-- `bodies` meets its contract: what is left to test answers for all of it; a body's own offset is where the one before it
-- ended, since the contents are right. Assumes nothing.
use mathlib.Core.Path.{◌≡◌, sym, ap, ◌∙◌, subst}
use mathlib.Core.List.{List}
use Prim.Native.Nat.{ℕ, suc, ◌+◌, ◌*◌, ◌-◌, ◌≤◌}
use native.Mathlib.Omega.{arith}
use lib.IntN.{ℤ}
use lib.ListN.{length, drop, get_or}
use Rattle.number.specs.Refusal.{refused, given}
use Rattle.octets.specs.Bytes.{le32}
use Rattle.watchfile.specs.Rules.{size_of, rank}
use Rattle.watchfile.specs.Format.{DewRule, rows_fields, records_from, start_of}
use Rattle.watchfile.proofs.DewRules.{the_rule}
use Rattle.watchfile.proofs.FieldLaws.{given_passed, size_most}
use Rattle.reader.specs.Read.{counted}
use Rattle.std.specs.Prelude.{Result}
use Rattle.reader.specs.declared.Broken.{Broken}
use Rattle.reader.proofs.ContentsLaws.{part}
use Rattle.reader.proofs.BodiesLaws.{kind_at, kind_is, row_right, BodyAt, body_stop, body_on, end_extra, end_none, length_records}
use Rattle.reader.proofs.bodies.Invariants.{left}
use Rattle.reader.proofs.bodies.Goals as goal
use Rattle.reader.proofs.bodies.Goals.{After-get16-at, After-size_of, In-Err}

at-end : (rule : ℕ → ℤ) (s : List ℕ) (row at end : ℕ) (q : Result (Unit {0}) Broken) → at ≡ end → BodyAt rule (part s at) (get_or (part s row) 0 0) q → BodyAt rule (part s end) (kind_at s row) q
at-end rule s row at end q e h =
    subst (λ (x : ℕ). BodyAt rule (part s x) (kind_at s row) q) e (subst (λ (k : ℕ). BodyAt rule (part s at) k q) (kind_is s row) h)

-- the offset that the file has of the body is where the body before it ended
offset : (c : After-get16-at) → c.get16-at.result ≡ c.loop-i.end
offset c =
    let l = c.loop-i in
    let q = c.args in
    c.get16-at.ensures
    ∙ (row_right (length q.file.now) q.file.now (q.count - l.i) (q.count - (l.i + 1)) (4 + 8 * l.i) l.end l.invariant.1.0 (omega arith) l.invariant.1.1).0

-- where a body is broken, so is the file
stop : (c : In-Err) → c.get16-at.result ≡ c.loop-i.end → (rule : ℕ → ℤ) → DewRule rule →
    let l = c.loop-i in
    let q = c.args in
    let place = c.get16-at.result + c.in-Err.field-0.0 in
    (left q.file.now q.count rule (q.count - l.i) (4 + 8 * l.i) l.end ≡ refused place) × (place ≤ length q.file.now)
stop c o rule ruled =
    let l = c.loop-i in
    let q = c.args in
    let s = q.file.now in
    let at = c.get16-at.result in
    rw o (body_stop rule s (records_from s q.count 4 (start_of q.count)) (q.count - l.i) (q.count - (l.i + 1)) (4 + 8 * l.i) l.end (omega arith) l.invariant.0 c.test_body.result
    c.in-Err.field-0 (at-end rule s (4 + 8 * l.i) at l.end c.test_body.result o (c.test_body.ensures rule ruled)) c.in-Err.is)

-- where it is right, the bodies behind it answer for it
on : (c : After-size_of) → c.get16-at.result ≡ c.loop-i.end → (rule : ℕ → ℤ) → DewRule rule →
    let l = c.loop-i in
    let q = c.args in
    let s = q.file.now in
    let end = l.end + size_of (kind_at s (4 + 8 * l.i)) in
    (left s q.count rule (q.count - l.i) (4 + 8 * l.i) l.end ≡ left s q.count rule (q.count - (l.i + 1)) ((4 + 8 * l.i) + 8) end)
    × (end ≤ length s)
on c o rule ruled =
    let l = c.loop-i in
    let q = c.args in
    let s = q.file.now in
    body_on rule s (records_from s q.count 4 (start_of q.count)) (q.count - l.i) (q.count - (l.i + 1)) (4 + 8 * l.i) l.end (omega arith) l.invariant.0 c.test_body.result
    (at-end rule s (4 + 8 * l.i) c.get16-at.result l.end c.test_body.result o (c.test_body.ensures rule ruled)) c.in-Ok.is

pub loop-i-init : goal.loop-i-init
loop-i-init c =
    let q = c.args in
    let s = q.file.now in
    let all : q.count - 0 ≡ q.count = omega arith in
    let right = given_passed (length s) (rows_fields s q.count 4 (start_of q.count) 0) q.count q.count c.requires.1 in
    (omega arith, (0, rw all right), λ rule ruled. rw all)

pub slice_bounds-test_body-count : goal.slice_bounds-test_body-count
slice_bounds-test_body-count c = let o = offset (goal.at.slice_bounds-test_body-count c).After-get16-at in omega arith

pub slice_bounds-test_body-start : goal.slice_bounds-test_body-start
slice_bounds-test_body-start c = let o = offset (goal.at.slice_bounds-test_body-start c).After-get16-at in omega arith

pub slice_bounds-test_body-end : goal.slice_bounds-test_body-end
slice_bounds-test_body-end c = let o = offset (goal.at.slice_bounds-test_body-end c).After-get16-at in omega arith

pub overflow_add-result : goal.overflow_add-result
overflow_add-result c = let t = stop (goal.at.overflow_add-result c).In-Err (offset (goal.at.overflow_add-result c).After-get16-at) the_rule.0 the_rule.1 in omega arith

pub returns-in-Err : goal.returns-in-Err
returns-in-Err c =
    λ rule ruled.
    let l = c.loop-i in
    ap counted (sym (l.invariant.2 rule ruled ∙ (stop (goal.at.returns-in-Err c).In-Err (offset (goal.at.returns-in-Err c).After-get16-at) rule ruled).0))

pub overflow_add-end-in-Ok : goal.overflow_add-end-in-Ok
overflow_add-end-in-Ok c =
    let o = offset (goal.at.overflow_add-end-in-Ok c).After-get16-at in
    let l = c.loop-i in
    let s = c.args.file.now in
    omega (arith, size_most (get_or (part s (4 + 8 * l.i)) 0 0))

pub loop-i-preserved : goal.loop-i-preserved
loop-i-preserved c =
    let l = c.loop-i in
    let q = c.args in
    let s = q.file.now in
    let n = q.count - l.i in
    let m = q.count - (l.i + 1) in
    let some : n ≡ suc m = omega arith in
    let head = (goal.at.loop-i-preserved c).After-get16-at in
    let at = c.get16-at.result in
    let o : at ≡ l.end = offset head in
    let z : c.size_of.result ≡ size_of (kind_at s (4 + 8 * l.i)) = c.size_of.ensures ∙ ap size_of (kind_is s (4 + 8 * l.i)) in
    let up : 4 + 8 * (l.i + 1) ≡ 4 + 8 * l.i + 8 = omega arith in
    let t = on (goal.at.loop-i-preserved c).After-size_of o the_rule.0 the_rule.1 in
    let behind = (row_right (length s) s n m (4 + 8 * l.i) l.end l.invariant.1.0 some l.invariant.1.1).1 in (
      omega (arith, t.1),
      (rank (le32 (drop (4 + 8 * l.i) s) 4) (kind_at s (4 + 8 * l.i)), rw (up, z, o) behind),
      λ rule ruled. l.invariant.2 rule ruled ∙ (on (goal.at.loop-i-preserved c).After-size_of o rule ruled).0 ∙ rw (up, z, o),
    )

pub returns-then-end-file : goal.returns-then-end-file
returns-then-end-file c =
    λ rule ruled.
    let l = c.loop-i in
    let q = c.args in
    let s = q.file.now in
    ap counted (sym (l.invariant.2 rule ruled ∙ end_extra rule s (records_from s q.count 4 (start_of q.count)) (q.count - l.i) (4 + 8 * l.i) l.end (omega arith) c.if-end-file.true))

pub returns : goal.returns
returns c =
    λ rule ruled.
    let l = c.loop-i in
    let q = c.args in
    let s = q.file.now in
    let all = records_from s q.count 4 (start_of q.count) in
    ap given (sym (length_records s q.count 4 (start_of q.count)))
    ∙ ap counted (sym (l.invariant.2 rule ruled ∙ end_none rule s all (q.count - l.i) (4 + 8 * l.i) l.end (omega arith) (omega arith)))
