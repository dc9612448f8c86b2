-- `passing` meets its contract: the test says yes below what is found, and no behind what is left. Assumes nothing.
use mathlib.Core.Bool.{Bool}
use Prim.Native.Nat.{ℕ, ◌+◌, ◌≤◌}
use Rattle.wind.specs.Work.{Tells, Falls}
use Rattle.wind.proofs.BisectionLaws.{Sought}
use Rattle.wind.proofs.passing.Given as goal

abbrev pub invariant-loop-left : goal.invariant-loop-left
invariant-loop-left g l = (l.found + l.left ≤ l.fn.n) × ((p : ℕ → Bool) → Tells (goal.F-post g l.fn.passes) p l.fn.n → Falls p l.fn.n → Sought p l.fn.n l.found l.left)

abbrev pub decreases-loop-left : goal.decreases-loop-left
decreases-loop-left g l = l.left
