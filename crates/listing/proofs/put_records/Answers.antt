-- `put_records` meets its contract. The invariant: who puts the lines that are left from here on has put all. Assumes nothing.
use mathlib.Core.Path.{◌≡◌, subst}
use Prim.Native.Nat.{◌-◌}
use native.Mathlib.Omega.{arith}
use Rattle.watchfile.specs.declared.Figures.{Figures}
use Rattle.text.specs.Text.{Puts}
use Rattle.text.proofs.PutLaws.{put_inside}
use Rattle.listing.specs.Lines.{figures_line}
use Rattle.listing.proofs.LineLaws.{put_line, no_line}
use Rattle.listing.proofs.put_records.Goals as goal

pub loop-i-init : goal.loop-i-init
loop-i-init c =
    let e : c.args.count - 0 ≡ c.args.count = omega arith in
    (c.requires, λ after p. rw e at p)

pub loop-i-preserved : goal.loop-i-preserved
loop-i-preserved c =
    let l = c.loop-i in
    let p = subst (λ (f : Figures). Puts l.page c.put_record.new.page (figures_line f)) c.record_at.ensures c.put_record.ensures in
    let z = put_inside p.put in
    (omega arith, λ after r. l.invariant.1 after (put_line c.args.file.now c.args.count l.i c.loop-i-test.true p r))

pub returns : goal.returns
returns c =
    let l = c.loop-i in
    l.invariant.1 _ (no_line l.page _ _ l.i (omega arith) l.invariant.0)
