-- `write_records` meets its contract: what is left to write from here is what was to be written at the start. Assumes nothing.
use mathlib.Core.Path.{◌≡◌, refl, sym, ap, ◌∙◌}
use mathlib.Core.List.{◌++◌, ◌∷◌}
use Prim.Native.Nat.{ℕ, ◌+◌, ◌*◌, ◌≤◌, ◌<◌}
use native.Mathlib.Omega.{arith}
use lib.ListN.{length, take}
use lib.Seq.{sets}
use Rattle.octets.specs.Bytes.{bytes16, bytes32}
use Rattle.watchfile.specs.Rules.{size_of}
use Rattle.watchfile.specs.Format.{kind_of, body_bytes, row_bytes, rows_bytes, bodies_bytes, start_of}
use Rattle.watchfile.specs.declared.Record.{Record}
use Rattle.writer.specs.Write.{offered}
use Rattle.writer.proofs.PartLaws.{part, joined, length_part}
use Rattle.watchfile.proofs.FieldLaws.{size_most}
use Rattle.writer.proofs.RestLaws.{rest, at, rest_whole, rest_done, bodies_shorter, rows_none, bodies_none}
use Rattle.writer.proofs.TurnLaws.{row_put_length, body_room, put_length, put_turn}
use Rattle.writer.proofs.WriteLaws.{length_offered, offered_at}
use Rattle.writer.proofs.write_records.Goals as goal
use Rattle.writer.proofs.write_records.Goals.{After-record_at-r, After-write_row}

-- the record that is written is that of the list
looked_at : (c : After-record_at-r) →
    let all = offered c.args.records.now in
    (c.record_at-r.result ≡ at all c.loop-i.i) × (c.loop-i.i < length all)
looked_at c =
    let w = c.args.records.now in
    let i = c.loop-i.i in (
      c.record_at-r.ensures ∙ offered_at w i (omega (arith, c.requires.0, c.loop-i-test.true)) (omega (arith, c.requires.2, c.loop-i-test.true)),
      omega (arith, length_offered w, c.requires.0, c.requires.2, c.loop-i-test.true),
    )

-- and its row has its kind and minute
row_first : (c : After-write_row) →
    let l = c.loop-i in
    let all = offered c.args.records.now in
    c.write_row.new.part ≡ sets (part l.buffer (4 + 8 * l.i)) 0 (row_bytes (at all l.i) l.at)
row_first c =
    let l = c.loop-i in
    let w = c.args.records.now in
    let r = c.record_at-r.result in
    let p = part l.buffer (4 + 8 * l.i) in
    c.write_row.ensures
    ∙ ap (λ (k : ℕ). sets p 0 (k ∷ 0 ∷ (bytes16 l.at ++ bytes32 r.minute))) c.kind-kind.ensures
    ∙ ap (λ (x : Record). sets p 0 (row_bytes x l.at)) (c.record_at-r.ensures ∙ offered_at w l.i (omega (arith, c.requires.0, c.loop-i-test.true)) (omega (arith, c.requires.2, c.loop-i-test.true)))

pub loop-i-init : goal.loop-i-init
loop-i-init c =
    let start = c.args in
    let e = rest_whole (offered start.records.now) start.count in
    (refl, omega arith, omega arith, rw e c.requires.1, rw e refl)

pub write_row-requires : goal.write_row-requires
write_row-requires c = omega (arith, length_part c.loop-i.buffer (4 + 8 * c.loop-i.i))

pub slice_bounds-write_body-start : goal.slice_bounds-write_body-start
slice_bounds-write_body-start c =
    let l = c.loop-i in
    let all = offered c.args.records.now in
    let same = row_put_length all c.args.count l.i (4 + 8 * l.i) l.at l.buffer c.write_row.new.part c.loop-i-test.true (looked_at (goal.at.slice_bounds-write_body-start c).After-record_at-r).1 refl l.invariant.2 (omega arith) (row_first (goal.at.slice_bounds-write_body-start c).After-write_row) in
    omega arith

pub write_body-requires : goal.write_body-requires
write_body-requires c =
    let l = c.loop-i in
    let all = offered c.args.records.now in
    let is = looked_at (goal.at.write_body-requires c).After-record_at-r in
    rw is.0
    (body_room all c.args.count l.i (4 + 8 * l.i) l.at l.buffer c.write_row.new.part c.loop-i-test.true is.1 refl l.invariant.2 (omega arith) (row_first (goal.at.write_body-requires c).After-write_row))

pub overflow_add-at-in-loop-i : goal.overflow_add-at-in-loop-i
overflow_add-at-in-loop-i c = omega (arith, size_most c.kind-kind.result)

pub loop-i-preserved : goal.loop-i-preserved
loop-i-preserved c =
    let l = c.loop-i in
    let all = offered c.args.records.now in
    let count = c.args.count in
    let more = c.loop-i-test.true in
    let is = looked_at (goal.at.loop-i-preserved c).After-record_at-r in
    let room : l.at + length (bodies_bytes (rest all count l.i)) ≤ length l.buffer = omega arith in
    let row = (goal.at.loop-i-preserved c).After-write_row in
    let first = row_first row in
    let whole = sets (sets c.args.buffer.now 4 (rows_bytes (take count all) (start_of count))) (start_of count) (bodies_bytes (take count all)) in
    let second = c.write_body.ensures ∙ ap (λ (x : Record). sets (part (joined l.buffer (4 + 8 * l.i) c.write_row.new.part) l.at) 0 (body_bytes x.body)) is.0 in
    let len = put_length all count l.i (4 + 8 * l.i) l.at l.buffer c.write_row.new.part more is.1 refl l.invariant.2 room first whole c.write_body.new.part l.invariant.4 second in
    let turn = put_turn all count l.i (4 + 8 * l.i) l.at l.buffer c.write_row.new.part more is.1 refl l.invariant.2 room first whole c.write_body.new.part l.invariant.4 second in
    let z : c.size_of-at.result ≡ size_of (kind_of (at all l.i).body) = c.size_of-at.ensures ∙ ap size_of (c.kind-kind.ensures ∙ ap (λ (x : Record). kind_of x.body) is.0) in
    let up : 4 + 8 * (l.i + 1) ≡ 4 + 8 * l.i + 8 = omega arith in
    let shorter = bodies_shorter all count l.i more is.1 in
    let most = size_most c.kind-kind.result in
    (len ∙ l.invariant.0, omega arith, omega arith, omega arith, rw (up, z) turn)

pub shape_of-buffer : goal.shape_of-buffer
shape_of-buffer c = c.loop-i.invariant.0

pub returns : goal.returns
returns c =
    let l = c.loop-i in
    let start = c.args in
    let all = offered start.records.now in
    let none = rest_done all start.count l.i (omega arith) in
    ap (sets l.buffer (4 + 8 * l.i)) (sym (rows_none all start.count l.i none l.at))
    ∙ ap (sets (sets l.buffer (4 + 8 * l.i) (rows_bytes (rest all start.count l.i) l.at)) l.at) (sym (bodies_none all start.count l.i none))
    ∙ l.invariant.4
