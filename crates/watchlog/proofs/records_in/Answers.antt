-- `records_in` meets its contract: the records so far are those of the file. Assumes nothing.
use mathlib.Core.Path.{◌≡◌, refl, ap, ◌∙◌}
use native.Mathlib.Omega.{arith}
use native.Mathlib.Nat.{not-suc-le-zero}
use Rattle.handed.specs.Handed.{record_of}
use Rattle.watchlog.proofs.LaidLaws.{read_on}
use Rattle.watchlog.proofs.records_in.Goals as goal

pub loop-i-init : goal.loop-i-init
loop-i-init c = record { long = refl; each = λ i h. absurd (not-suc-le-zero h) }

pub bounds-records-i : goal.bounds-records-i
bounds-records-i c = omega (arith, c.loop-i.invariant.long)

pub loop-i-preserved : goal.loop-i-preserved
loop-i-preserved c =
    let l = c.loop-i in
    read_on c.args.file.now l.records l.i c.record_of.result l.invariant (omega arith) (c.record_of.ensures ∙ ap record_of c.record_at.ensures)

pub returns : goal.returns
returns c =
    let l = c.loop-i in
    let e : l.i ≡ 48 = omega arith in
    rw e at l.invariant
