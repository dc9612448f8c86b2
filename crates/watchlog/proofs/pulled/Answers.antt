-- `pulled` meets its contract: pulling from here on comes to what was to be done at the start. Assumes nothing.
use mathlib.Core.Path.{◌≡◌, refl, sym, ap, ◌∙◌}
use Prim.Native.Nat.{suc, ◌+◌}
use native.Mathlib.Omega.{arith}
use lib.ListN.{take, length-set}
use Rattle.watchlog.proofs.OutLaws.{pull_on, pull_front}
use Rattle.watchlog.proofs.pulled.Goals as goal

pub loop-i-init : goal.loop-i-init
loop-i-init c = (c.well_formed.0.1.0.1, refl)

pub loop-i-preserved : goal.loop-i-preserved
loop-i-preserved c =
    let l = c.loop-i in
    let k : l.i + 1 ≡ suc l.i = omega arith in (
      length-set l.all l.i _ ∙ l.invariant.0,
      rw k (ap (take 47) (pull_on l.i l.all (omega arith)) ∙ l.invariant.1),
    )

pub returns : goal.returns
returns c =
    let l = c.loop-i in
    sym (pull_front 47 l.i l.all (omega arith)) ∙ l.invariant.1
