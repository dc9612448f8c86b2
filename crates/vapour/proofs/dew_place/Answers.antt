-- `dew_place` meets its contract: no e of the range reaches the place behind the last. Assumes nothing.
use Prim.Native.Nat.{◌+◌}
use native.Mathlib.Omega.{arith}
use Rattle.vapour.proofs.DewLaws.{reaches_inside}
use Rattle.vapour.proofs.dew_place.Goals as goal

pub loop-i-preserved : goal.loop-i-preserved
loop-i-preserved c =
    let i = c.loop-i.i in
    let on = c.threshold.ensures.reached c.args.e c.loop-i-test.true in
    (reaches_inside c.args.e (i + 1) c.requires.1 (omega (arith, c.loop-i.invariant.0)) on, on)
