-- When a minute is present, by the tests that the code makes. Assumes nothing.
use mathlib.Core.Path.{◌≡◌, refl}
use mathlib.Core.Bool.{Bool, true, false, ◌&&◌}
use mathlib.Core.List.{List}
use Prim.Native.Nat.{ℕ, ◌+◌, ◌%◌, ◌≤◌, ◌<◌}
use native.Mathlib.Omega.{arith}
use borrow.Author.Tests.{lt-ltb, le-ltb, le-leb, lt-leb, eq-eqb, ne_eqb}
use lib.Dec.{eqb, ltb}
use lib.ListN.{get_or, length}
use Rattle.window.specs.Layout.{MINUTES, WINDOW, word_of}
use Rattle.window.specs.Window.{whole, next, bit_of, present}
use Rattle.window.proofs.BitLaws.{bit_lt}

pub and_no : (b : Bool) → (b && false) ≡ false
and_no true = refl
and_no false = refl

module _ (w : List ℕ) (m : ℕ) where
  pub present_else : (length w ≡ WINDOW → ⊥) → present w m ≡ false
  unfolding present
  present_else ne = rw (ne_eqb (length w) WINDOW ne)

  pub present_late : next w ≤ m → present w m ≡ false
  unfolding present
  present_late l = rw (le-ltb m (next w) l, and_no (whole w))

  pub present_gone : m + MINUTES < next w → present w m ≡ false
  unfolding present
  present_gone l = rw (lt-leb (next w) (m + MINUTES) l, and_no (whole w && ltb m (next w)))

  module _ (e : length w ≡ WINDOW) (l : m < next w) (g : next w ≤ m + MINUTES) where
    pub present_in : present w m ≡ eqb (bit_of w m) 1
    unfolding present
    present_in = rw (eq-eqb (length w) WINDOW e, lt-ltb m (next w) l, le-leb (next w) (m + MINUTES) g)

    pub present_unset : bit_of w m ≡ 0 → present w m ≡ false
    present_unset z = rw present_in (ne_eqb (bit_of w m) 1 (λ q. omega arith))

    pub present_set : (bit_of w m ≡ 0 → ⊥) → present w m ≡ true
    present_set s = rw present_in (eq-eqb (bit_of w m) 1 (omega (arith, bit_lt (get_or w (word_of m) 0) (m % 64))))
