-- `contents` meets its contract: what is left to test answers for all of it. Assumes nothing.
use mathlib.Core.Path.{◌≡◌, sym, ◌∙◌}
use Prim.Native.Nat.{◌+◌, ◌*◌, ◌-◌, ◌≤◌}
use native.Mathlib.Omega.{arith}
use lib.ListN.{length}
use Rattle.number.specs.Refusal.{refused}
use Rattle.watchfile.specs.Format.{rows_fields}
use Rattle.reader.specs.Work.{found}
use Rattle.reader.proofs.ContentsLaws.{row_stop, row_on, rows_done}
use Rattle.watchfile.proofs.FieldLaws.{size_most}
use Rattle.reader.proofs.contents.Goals as goal
use Rattle.reader.proofs.contents.Goals.{In-Err}

-- where a row is broken, so are the contents
stop : (c : In-Err) →
    let l = c.loop-i in
    let q = c.args in
    let place = 4 + 8 * l.i + c.in-Err.field-0.0 in
    (found q.file.now (rows_fields q.file.now (q.count - l.i) (4 + 8 * l.i) l.next l.before) q.count ≡ refused place) × (place ≤ length q.file.now)
stop c =
    let l = c.loop-i in
    let q = c.args in
    row_stop q.file.now q.count (q.count - l.i) (q.count - (l.i + 1)) (4 + 8 * l.i) l.next l.before (omega arith) l.invariant.0 c.read_row.result
    c.in-Err.field-0 c.read_row.ensures c.in-Err.is

pub returns-in-Err : goal.returns-in-Err
returns-in-Err c = sym (c.loop-i.invariant.2 ∙ (stop (goal.at.returns-in-Err c).In-Err).0)

pub loop-i-preserved : goal.loop-i-preserved
loop-i-preserved c =
    let l = c.loop-i in
    let q = c.args in
    let t = row_on q.file.now q.count (q.count - l.i) (q.count - (l.i + 1)) (4 + 8 * l.i) l.next l.before (omega arith) l.invariant.0 c.read_row.result c.in-Ok.row c.read_row.ensures c.in-Ok.is in
    let on : 4 + 8 * (l.i + 1) ≡ 4 + 8 * l.i + 8 = omega arith in
    (omega (arith, t.1), omega (arith, size_most c.in-Ok.row.kind), l.invariant.2 ∙ t.0 ∙ rw (on, c.size_of-next.ensures, c.rank-before.ensures))

pub returns : goal.returns
returns c =
    let l = c.loop-i in
    let q = c.args in
    sym (l.invariant.2 ∙ rows_done q.file.now q.count (q.count - l.i) (4 + 8 * l.i) l.next l.before (omega arith))
