-- `stretch` meets its contract: the bytes before the loop's place say their minutes. Assumes nothing.
use mathlib.Core.Path.{◌≡◌}
use Prim.Native.Nat.{ℕ, ◌+◌, ◌<◌}
use lib.ListN.{get_or}
use Rattle.kept.specs.Kept.{marked}
use Rattle.kept.proofs.stretch.Given as goal

abbrev pub invariant-loop-i : goal.invariant-loop-i
invariant-loop-i l = (k : ℕ) → k < l.i → get_or l.minutes k 0 ≡ marked l.store l.channel (l.first + k)
