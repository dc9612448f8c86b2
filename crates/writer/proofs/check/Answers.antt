-- `check` meets its contract: the tests still to be tried, and the bytes still to be counted, are those of the start. Assumes
-- nothing.
use mathlib.Core.Path.{◌≡◌, refl, sym, ap, ◌∙◌}
use mathlib.Core.List.{[], ◌∷◌, ◌++◌}
use Prim.Native.Nat.{ℕ, ◌+◌, ◌<◌}
use native.Mathlib.Omega.{arith}
use lib.ListN.{length, take}
use borrow.Author.Tests.{not-true, not-false}
use Rattle.number.specs.Refusal.{answer}
use Rattle.watchfile.specs.Rules.{size_of, rank}
use Rattle.watchfile.specs.Format.{kind_of, file_of, record_right, record_tests, past}
use Rattle.watchfile.specs.declared.Record.{Record}
use Rattle.writer.specs.Write.{offered}
use Rattle.watchfile.proofs.FieldLaws.{size_most}
use Rattle.writer.proofs.SizeLaws.{length_file}
use Rattle.writer.proofs.RestLaws.{rest, at, rest_whole, rest_done, rest_past, rest_shorter, bodies_shorter, bodies_none, tests_on, tests_stop, tests_none}
use Rattle.writer.proofs.WriteLaws.{past_stops, past_goes_on, length_offered, offered_at}
use Rattle.writer.proofs.check.Goals as goal
use Rattle.writer.proofs.check.Goals.{After-record_at-r}

-- the record that is looked at is that of the list
looked_at : (c : After-record_at-r) →
    c.record_at-r.result ≡ at (offered c.args.records.now) c.loop-i.i
looked_at c =
    let w = c.args.records.now in
    let i = c.loop-i.i in
    c.record_at-r.ensures ∙ offered_at w i (omega (arith, c.requires, c.loop-i-test.true)) c.if-i-ge-RECORDS.false

pub loop-i-init : goal.loop-i-init
loop-i-init c =
    let start = c.args in
    let all = offered start.records.now in
    let e = rest_whole all start.count in
    (omega arith, omega arith, rw e (omega (arith, length_file (take start.count all))), λ rule dew. rw e refl)

pub returns-then-i-ge-RECORDS : goal.returns-then-i-ge-RECORDS
returns-then-i-ge-RECORDS c =
    let l = c.loop-i in
    let all = offered c.args.records.now in
    let count = c.args.count in
    let none = rest_past all count l.i (omega (arith, length_offered c.args.records.now)) in
    let file = length (file_of (take count all)) in
    record {
      room = tt;
      answer = λ rule dew. sym (l.invariant.3 rule dew ∙ tests_none all count l.i none rule l.before (past count ∷ []) file ∙ past_stops count file (omega arith));
    }

pub returns-then-not-record_right : goal.returns-then-not-record_right
returns-then-not-record_right c =
    let l = c.loop-i in
    let w = c.args.records.now in
    let all = offered w in
    let count = c.args.count in
    let file = length (file_of (take count all)) in
    let wrong = not-true c.record_right.result c.if-not-record_right.true-raw in
    let is = looked_at (goal.at.returns-then-not-record_right c).After-record_at-r in
    let inside : l.i < length all = omega (arith, length_offered w, c.requires) in
    record {
      room = tt;
      answer = λ rule dew. sym (l.invariant.3 rule dew ∙ tests_stop all count l.i c.loop-i-test.true inside rule l.before (past count ∷ []) file (ap (record_right rule l.before) (sym is) ∙ sym (c.record_right.ensures rule dew) ∙ wrong));
    }

pub overflow_add-size : goal.overflow_add-size
overflow_add-size c = omega (arith, size_most c.kind-kind.result)

pub overflow_add-size-in-loop-i : goal.overflow_add-size-in-loop-i
overflow_add-size-in-loop-i c = omega (arith, size_most c.kind-kind.result)

pub loop-i-preserved : goal.loop-i-preserved
loop-i-preserved c =
    let l = c.loop-i in
    let w = c.args.records.now in
    let all = offered w in
    let count = c.args.count in
    let more = c.loop-i-test.true in
    let inside : l.i < length all = omega (arith, length_offered w, c.requires, c.if-i-ge-RECORDS.false) in
    let file = length (file_of (take count all)) in
    let r = c.record_at-r.result in
    let is : r ≡ at all l.i = looked_at (goal.at.loop-i-preserved c).After-record_at-r in
    let q : c.kind-kind.result ≡ kind_of (at all l.i).body = c.kind-kind.ensures ∙ ap (λ (x : Record). kind_of x.body) is in
    let z : c.size_of.result ≡ size_of (kind_of (at all l.i).body) = c.size_of.ensures ∙ ap size_of q in
    let k : c.rank-before.result ≡ rank (at all l.i).minute (kind_of (at all l.i).body) = c.rank-before.ensures ∙ ap (rank r.minute) q ∙ ap (λ (x : Record). rank x.minute (kind_of (at all l.i).body)) is in
    let shorter = rest_shorter all count l.i more inside in
    let fewer = bodies_shorter all count l.i more inside in
    let most = size_most c.kind-kind.result in
    let right = not-false c.record_right.result c.if-not-record_right.false-raw in (
      omega arith,
      omega arith,
      omega arith,
      λ rule dew. l.invariant.3 rule dew ∙ tests_on all count l.i more inside rule l.before (past count ∷ []) file (ap (record_right rule l.before) (sym is) ∙ sym (c.record_right.ensures rule dew) ∙ right)
          ∙ ap (λ (j : ℕ). answer (record_tests rule (l.i + 1) j (rest all count (l.i + 1)) ++ (past count ∷ [])) file) (sym k),
    )

pub returns : goal.returns
returns c =
    let l = c.loop-i in
    let start = c.args in
    let all = offered start.records.now in
    let none = rest_done all start.count l.i (omega arith) in
    let file = length (file_of (take start.count all)) in
    let no-bodies = ap length (bodies_none all start.count l.i none) in
    let no-records = ap length none in
    let z : l.size ≡ file = omega arith in
    record {
      room = (omega arith, z);
      answer = λ rule dew. rw z (sym (l.invariant.3 rule dew ∙ tests_none all start.count l.i none rule l.before (past start.count ∷ []) file ∙ past_goes_on start.count file (omega arith)));
    }
