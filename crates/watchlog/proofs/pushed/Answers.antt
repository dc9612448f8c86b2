-- `pushed` meets its contract: pushing what is carried from here on comes to what was to be done at the start. Assumes nothing.
use mathlib.Core.Path.{◌≡◌, refl, sym, ap, ◌∙◌}
use Prim.Native.Nat.{ℕ, suc, ◌+◌}
use native.Mathlib.Omega.{arith}
use lib.ListN.{length, take, length-set}
use Rattle.watchlog.specs.Placing.{pushed}
use Rattle.watchlog.proofs.InsertLaws.{push_on, push_off}
use Rattle.watchlog.proofs.pushed.Goals as goal

pub loop-i-init : goal.loop-i-init
loop-i-init c = (c.well_formed.0.1.0.1, refl)

pub loop-i-preserved : goal.loop-i-preserved
loop-i-preserved c =
    let l = c.loop-i in
    let k : l.i + 1 ≡ suc l.i = omega arith in (
      length-set l.all l.i l.carried ∙ l.invariant.0,
      rw k (ap (take 48) (push_on l.i l.carried l.all (omega arith)) ∙ l.invariant.1),
    )

pub returns : goal.returns
returns c =
    let l = c.loop-i in
    let n : length l.all ≡ 48 = l.invariant.0 in
    sym (ap (λ (k : ℕ). take k (pushed l.i l.carried l.all)) (sym n) ∙ push_off l.i l.carried l.all (omega arith)) ∙ l.invariant.1
