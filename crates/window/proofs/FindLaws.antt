-- When nothing is kept of a minute: the slice is no window, the minute is later than the newest, it is gone, or its bit is not set. And
-- what is kept where the bit is set. Assumes nothing.
use mathlib.Core.Path.{◌≡◌, sym}
use mathlib.Core.List.{List}
use Prim.Native.Nat.{ℕ, ◌+◌, ◌≤◌, ◌<◌}
use lib.ListN.{get_or, length}
use Rattle.std.specs.Prelude.{Some, None}
use Rattle.window.specs.Layout.{MINUTES, WINDOW, cell_of}
use Rattle.window.specs.Window.{next, bit_of, kept}
use Rattle.window.proofs.PresentLaws.{present_else, present_late, present_gone, present_unset, present_set}
use Rattle.window.proofs.KeptLaws.{absent_kept, present_kept}

pub find_else : (w : List ℕ) (m : ℕ) → (length w ≡ WINDOW → ⊥) → None ≡ kept w m
find_else w m e = sym (absent_kept w m (present_else w m e))

pub find_late : (w : List ℕ) (m : ℕ) → next w ≤ m → None ≡ kept w m
find_late w m l = sym (absent_kept w m (present_late w m l))

pub find_gone : (w : List ℕ) (m : ℕ) → m + MINUTES < next w → None ≡ kept w m
find_gone w m g = sym (absent_kept w m (present_gone w m g))

pub find_unset : (w : List ℕ) (m : ℕ) → length w ≡ WINDOW → m < next w → next w ≤ m + MINUTES → bit_of w m ≡ 0 → None ≡ kept w m
find_unset w m e l g z = sym (absent_kept w m (present_unset w m e l g z))

pub find_set : (w : List ℕ) (m : ℕ) → length w ≡ WINDOW → m < next w → next w ≤ m + MINUTES → (bit_of w m ≡ 0 → ⊥) → Some (get_or w (cell_of m) 0) ≡ kept w m
find_set w m e l g z = sym (present_kept w m (present_set w m e l g z))
