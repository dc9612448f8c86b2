-- `value_at` meets its contract: the pairs that are left to try answer for the whole. Assumes nothing.
use mathlib.Core.Path.{◌≡◌}
use Prim.Native.Nat.{◌-◌}
use lib.ListN.{length}
use Rattle.certificate.specs.Line.{corner_at, valued}
use Rattle.certificate.proofs.PairLaws.{pairs}
use Rattle.certificate.proofs.value_at.Given as goal

abbrev pub invariant-loop-i : goal.invariant-loop-i
invariant-loop-i l =
    pairs (corner_at l.scale l.points) l.x.v (l.i - 1) (length l.points - 1 - (l.i - 1)) ≡ valued (corner_at l.scale l.points) (length l.points) l.x.v
