-- `place_of` meets its contract: the records passed all stand before, and the place among the rest is still to be found.
-- Assumes nothing.
use mathlib.Core.Path.{◌≡◌}
use Prim.Native.Nat.{◌+◌}
use lib.ListN.{take}
use Rattle.writer.proofs.RestLaws.{rest}
use Rattle.watchlog.specs.Placing.{place_of}
use Rattle.watchlog.proofs.place_of.Given as goal

abbrev pub invariant-loop-i : goal.invariant-loop-i
invariant-loop-i l = place_of l.rank (take l.count l.records) ≡ l.i + place_of l.rank (rest l.records l.count l.i)
