-- `lay` meets its contract. The invariant: the words before the loop's place stand. Assumes nothing.
use mathlib.Core.Path.{◌≡◌}
use lib.ListN.{length}
use Rattle.std.proofs.Math.Seq.{paste}
use Rattle.watchlog.proofs.lay.Given as goal

abbrev pub invariant-loop-i : goal.invariant-loop-i
invariant-loop-i l = (length l.words ≡ length l.initial.words) × (l.words ≡ paste l.initial.words l.at l.seven l.i)
