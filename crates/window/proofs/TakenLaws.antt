-- What `accept` answers and leaves, in the words of its tests: a slice of another length and a minute that is not later than the newest
-- are not taken, and the words stay; any other is taken. Assumes nothing.
use mathlib.Core.Path.{◌≡◌, refl}
use mathlib.Core.Bool.{true, false, cond}
use mathlib.Core.List.{List}
use Prim.Native.Nat.{ℕ, ◌≤◌, ◌<◌}
use lib.ListN.{length}
use Rattle.window.specs.Layout.{WINDOW}
use Rattle.window.specs.Window.{next, accepted, takes}
use Rattle.window.proofs.AcceptLaws.{taken_else, taken_late, taken_kept}

pub else_answer : (w : List ℕ) (m : ℕ) → (length w ≡ WINDOW → ⊥) → false ≡ takes w m
else_answer w m e = (taken_else w m 0 e).answer

pub else_words : (w : List ℕ) (m v : ℕ) → (length w ≡ WINDOW → ⊥) → w ≡ cond (takes w m) (accepted w m v) w
else_words w m v e = (taken_else w m v e).words

pub late_answer : (w : List ℕ) (m : ℕ) → m < next w → false ≡ takes w m
late_answer w m l = (taken_late w m 0 l).answer

pub late_words : (w : List ℕ) (m v : ℕ) → m < next w → w ≡ cond (takes w m) (accepted w m v) w
late_words w m v l = (taken_late w m v l).words

pub kept_answer : (w : List ℕ) (m : ℕ) → length w ≡ WINDOW → next w ≤ m → true ≡ takes w m
kept_answer w m e l = (taken_kept w m 0 (accepted w m 0) e l refl).answer

pub kept_words : (w : List ℕ) (m v : ℕ) → length w ≡ WINDOW → next w ≤ m → accepted w m v ≡ cond (takes w m) (accepted w m v) w
kept_words w m v e l = (taken_kept w m v (accepted w m v) e l refl).words
