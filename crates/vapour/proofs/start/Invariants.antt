-- `start` meets its contract: the search goes down while e does not reach the place. Assumes nothing.
use Prim.Native.Nat.{◌<◌}
use Rattle.vapour.proofs.start.Given as goal

abbrev pub invariant-loop-i : goal.invariant-loop-i
invariant-loop-i l = l.i < 901

abbrev pub decreases-loop-i : goal.decreases-loop-i
decreases-loop-i l = l.i
