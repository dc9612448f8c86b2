-- What limits of two common shapes ask of a number. Assumes nothing.
use mathlib.Core.Path.{◌≡◌, sym, ◌∙◌}
use mathlib.Core.Bool.{true}
use Prim.Native.Nat.{ℕ, zero, suc, ◌≤◌}
use native.Mathlib.Omega.{arith}
use lib.Dec.{leb, leb-zero}
use lib.IntN.{ℤ, pos, negsuc, neg_ℤ, nat_abs}
use borrow.Author.Tests.{le-leb, leb-true}
use Rattle.number.specs.Whole.{within}

-- from 0 up: no more than the upper
pub from_nought : (n high : ℕ) → within (pos 0) (pos high) (pos n) ≡ leb n high
from_nought n high = rw (leb-zero n)

pub up_to : (n high : ℕ) → within (pos 0) (pos high) (pos n) ≡ true → n ≤ high
up_to n high h = leb-true n high (sym (from_nought n high) ∙ h)

pub then_inside : (n high : ℕ) → n ≤ high → within (pos 0) (pos high) (pos n) ≡ true
then_inside n high h = from_nought n high ∙ le-leb n high h

-- as far below 0 as above it: a size of no more
pub either_side : (z : ℤ) (k : ℕ) → nat_abs z ≤ k → within (neg_ℤ (pos k)) (pos k) z ≡ true
either_side (pos n) zero h = rw (leb-zero n, le-leb n 0 h)
either_side (pos n) (suc k) h = le-leb n (suc k) h
either_side (negsuc n) zero h = absurd (omega arith)
either_side (negsuc n) (suc k) h = rw (le-leb n k (omega arith))
