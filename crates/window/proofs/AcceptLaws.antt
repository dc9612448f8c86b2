-- What the steps of `keep` make is `accepted`, what `accept` answers is `Taken`, and what that says of the newest. Assumes nothing.
use mathlib.Core.Path.{◌≡◌, refl, sym}
use mathlib.Core.Bool.{true, false, ◌&&◌}
use mathlib.Core.List.{List, [], ◌∷◌}
use Prim.Native.Nat.{ℕ, ◌+◌, ◌-◌, ◌≤◌, ◌<◌, min}
use native.Mathlib.Omega.{arith}
use borrow.Author.Tests.{leb-true, leb-false, le-leb, lt-leb, eq-eqb, ne_eqb}
use lib.Dec.{leb}
use lib.ListN.{set, length}
use Rattle.number.proofs.Sizes.{and_true}
use Rattle.window.specs.Layout.{MINUTES, WINDOW, cell_of}
use Rattle.window.specs.Window.{whole, next, mark, wiped, accepted, takes, Taken}
use Rattle.window.proofs.PresentLaws.{and_no}

pub accepted_is : (w w1 : List ℕ) (m v k : ℕ) → w1 ≡ mark (wiped w (m - min (m - next w) MINUTES) (min (m - next w) MINUTES)) m
    → k ≡ cell_of m → set (set w1 k v) 0 (m + 1) ≡ accepted w m v
unfolding accepted
accepted_is w w1 m v k e ek = rw (ek, e)

module _ (w : List ℕ) (m v : ℕ) where
  refused : takes w m ≡ false → Taken w w m v false
  refused e = record { answer = sym e; words = rw e }

  pub taken_else : (length w ≡ WINDOW → ⊥) → Taken w w m v false
  unfolding takes
  taken_else ne = refused (rw (ne_eqb (length w) WINDOW ne))

  pub taken_late : m < next w → Taken w w m v false
  unfolding takes
  taken_late l = refused (rw (lt-leb (next w) m l) (and_no (whole w)))

  taken : length w ≡ WINDOW → next w ≤ m → takes w m ≡ true
  unfolding takes
  taken e l = rw (eq-eqb (length w) WINDOW e, le-leb (next w) m l)

  pub taken_kept : (w' : List ℕ) → length w ≡ WINDOW → next w ≤ m → w' ≡ accepted w m v → Taken w w' m v true
  taken_kept w' e l k = record { answer = sym (taken e l); words = rw (taken e l) k }

-- ---- beside the newest

-- no words, no newest
pub next_none : (w : List ℕ) → length w ≡ 0 → next w ≡ 0
next_none [] e = refl
next_none (x ∷ w) e = absurd (omega arith)

module _ (w : List ℕ) (m : ℕ) where
  pub takes_later : takes w m ≡ true → next w ≤ m
  unfolding takes
  takes_later t = leb-true (next w) m (and_true (whole w) (leb (next w) m) t).1

  pub takes_not : length w ≡ WINDOW → takes w m ≡ false → m < next w
  unfolding takes
  takes_not e t = let early : (true && leb (next w) m) ≡ false = rw (eq-eqb (length w) WINDOW e) at t in leb-false (next w) m early
