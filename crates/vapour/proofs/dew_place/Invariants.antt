-- `dew_place` meets its contract: the search goes on while e reaches the next place, and no e of the range reaches the one behind
-- the last. Assumes nothing.
use Prim.Native.Nat.{◌-◌, ◌<◌}
use Rattle.vapour.specs.Tables.{Reaches}
use Rattle.vapour.proofs.dew_place.Given as goal

abbrev pub invariant-loop-i : goal.invariant-loop-i
invariant-loop-i l = (l.i < 901) × Reaches l.e l.i

abbrev pub decreases-loop-i : goal.decreases-loop-i
decreases-loop-i l = 901 - l.i
