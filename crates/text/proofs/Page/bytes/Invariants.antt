-- `Page::bytes` meets its contract. The invariant: the bytes before the loop's place stand in the part that has room for them. Assumes
-- nothing.
use mathlib.Core.Path.{◌≡◌}
use lib.ListN.{length}
use Rattle.std.proofs.Math.Seq.{paste}
use Rattle.text.proofs.Page.bytes.Given as goal

abbrev pub invariant-loop-i : goal.invariant-loop-i
invariant-loop-i l = (length l.part ≡ l.fitting) × (l.part ≡ paste l.initial.part 0 l.bytes l.i)
