-- `lay` meets its contract: the words before the loop's place are written, those behind it are zero. Assumes nothing.
use mathlib.Core.Path.{◌≡◌}
use Prim.Native.Nat.{ℕ, ◌≤◌, ◌<◌}
use lib.ListN.{length, get_or}
use Rattle.block.specs.Layout.{WORDS}
use Rattle.block.specs.Words.{setting_word}
use Rattle.block.proofs.lay.Given as goal

abbrev pub invariant-loop-i : goal.invariant-loop-i
invariant-loop-i l =
    (length l.store ≡ WORDS) × ((k : ℕ) → k < l.i → get_or l.store k 0 ≡ setting_word l.g k) × ((k : ℕ) → l.i ≤ k → get_or l.store k 0 ≡ 0)
