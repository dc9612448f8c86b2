-- `start` meets its contract: every e of the range reaches the first place, so the search does not go below it.
-- Assumes nothing.
use Prim.Native.Nat.{◌<◌}
use native.Mathlib.Omega.{arith}
use Rattle.vapour.proofs.DewLaws.{not_first}
use Rattle.vapour.proofs.start.Goals as goal
use Rattle.vapour.proofs.start.Goals.{In-loop-i}

-- a place that e does not reach has one below it
above : (c : In-loop-i) → 0 < c.loop-i.i
above c =
    let e = c.args.e in
    not_first e c.loop-i.i c.requires (c.threshold.ensures.short e c.loop-i-test.true)

pub overflow_sub-i : goal.overflow_sub-i
overflow_sub-i c = omega (arith, above (goal.at.overflow_sub-i c).In-loop-i)

pub loop-i-smaller : goal.loop-i-smaller
loop-i-smaller c = omega (arith, above (goal.at.loop-i-smaller c).In-loop-i)
