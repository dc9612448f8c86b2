-- `read` meets its contract: the words before the loop's place are written. Assumes nothing.
use mathlib.Core.Path.{◌≡◌}
use Prim.Native.Nat.{ℕ, ◌<◌}
use lib.ListN.{length, get_or}
use Rattle.sheet.specs.Sheet.{WORDS, sheet_word}
use Rattle.sheet.proofs.read.Given as goal

abbrev pub invariant-loop-i : goal.invariant-loop-i
invariant-loop-i l = (length l.sheet ≡ WORDS) × ((k : ℕ) → k < l.i → get_or l.sheet k 0 ≡ sheet_word l.store k)
