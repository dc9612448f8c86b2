-- x - y z for plain numbers x and y, by what z is above zero and below: a difference of two plain numbers. Assumes nothing.
use mathlib.Core.Path.{◌≡◌, refl, sym, ap, ◌∙◌}
use mathlib.Core.Logic.{⊎_elim}
use Prim.Native.Nat.{ℕ, zero, suc, ◌+◌, ◌-◌, ◌*◌, ◌≤◌, ◌<◌}
use native.Mathlib.Omega.{arith}
use lib.IntN.{ℤ, pos, negsuc, neg_ℤ, sub_ℕ, ◌+ℤ◌, ◌-ℤ◌, ◌*ℤ◌, neg_ℤ-neg_ℤ}
use borrow.Author.Tests.{le-ltb, lt-ltb}
use Rattle.sine.specs.Sine.{above, below}
use Rattle.sine.proofs.EveryNumber.{le_or_lt}

pub sub_up : (a b : ℕ) → b ≤ a → sub_ℕ a b ≡ pos (a - b)
sub_up a b h = rw (le-ltb a b h)

pub sub_down : (a b : ℕ) → a ≤ b → sub_ℕ a b ≡ neg_ℤ (pos (b - a))
sub_down a b h = ⊎_elim same less (le_or_lt b a)
  where
    same : b ≤ a → sub_ℕ a b ≡ neg_ℤ (pos (b - a))
    same k =
        let none : a - b ≡ 0 = omega arith in
        let nor : b - a ≡ 0 = omega arith in
        sub_up a b k ∙ rw (none, nor)

    less : a < b → sub_ℕ a b ≡ neg_ℤ (pos (b - a))
    less k = let some : b - a ≡ suc (b - suc a) = omega arith in rw (lt-ltb a b k, some)

taken : (x m : ℕ) → pos x -ℤ pos m ≡ sub_ℕ x m
taken x zero = sym (sub_up x 0 (omega arith) ∙ ap pos (omega arith))
taken x (suc m) = refl

pub difference : (x y : ℕ) (z : ℤ) → pos x -ℤ pos y *ℤ z ≡ sub_ℕ (x + y * below z) (y * above z)
difference x y (pos n) = taken x (y * n) ∙ ap (λ (m : ℕ). sub_ℕ m (y * n)) (omega arith)
difference x y (negsuc n) =
    ap (λ (z : ℤ). pos x +ℤ z) (neg_ℤ-neg_ℤ (pos (y * suc n)))
    ∙ sym (sub_up (x + y * suc n) (y * 0) (omega arith) ∙ ap pos (omega arith))
