-- `is_hex` meets its contract: what is left is hex exactly where all is. Assumes nothing.
use mathlib.Core.Path.{◌≡◌}
use Prim.Native.Nat.{◌-◌, ◌≤◌}
use lib.ListN.{length, drop}
use Rattle.hexadecimal.specs.Hex.{is_hex}
use Rattle.hexadecimal.proofs.is_hex.Given as goal

abbrev pub invariant-loop-i : goal.invariant-loop-i
invariant-loop-i l = (l.i ≤ length l.word) × (is_hex (drop l.i l.word) ≡ is_hex l.word)

abbrev pub decreases-loop-i : goal.decreases-loop-i
decreases-loop-i l = length l.word - l.i
