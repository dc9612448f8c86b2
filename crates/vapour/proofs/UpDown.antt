-- A number with a sign as how far it goes up less how far it goes down, one of them 0: so omega compares tenths and half tenths.
-- Each law by the sign. Assumes nothing.
use mathlib.Core.Path.{◌≡◌, refl, ap}
use mathlib.Core.Bool.{Bool, true, false}
use Prim.Native.Nat.{ℕ, zero, suc, ◌+◌, ◌*◌, ◌≤◌}
use native.Mathlib.Omega.{arith}
use lib.Dec.{ltb, le→leb, leb→le}
use lib.IntN.{ℤ, pos, negsuc, sub_ℕ, neg_ℤ, ◌+ℤ◌, ◌*ℤ◌}
use lib.Signed.{◌≤ℤ◌}
use borrow.Author.Tests.{ltb-true, ltb-false}

abbrev pub up : ℤ → ℕ
up (pos n) = n
up (negsuc n) = 0

abbrev pub down : ℤ → ℕ
down (pos n) = 0
down (negsuc n) = suc n

-- ---- the order

pub le_then : (s t : ℤ) → s ≤ℤ t → up s + down t ≤ up t + down s
le_then (pos m) (pos n) h = omega (arith, leb→le m n h.le)
le_then (pos m) (negsuc n) h = absurd h.le
le_then (negsuc m) (pos n) h = omega arith
le_then (negsuc m) (negsuc n) h = omega (arith, leb→le n m h.le)

pub then_le : (s t : ℤ) → up s + down t ≤ up t + down s → s ≤ℤ t
then_le (pos m) (pos n) h = record { le = le→leb m n (omega arith) }
then_le (pos m) (negsuc n) h = absurd (omega arith)
then_le (negsuc m) (pos n) h = record { le = tt }
then_le (negsuc m) (negsuc n) h = record { le = le→leb n m (omega arith) }

pub same : (s t : ℤ) → up s + down t ≡ up t + down s → s ≡ t
same (pos m) (pos n) h = ap pos (omega arith)
same (pos m) (negsuc n) h = absurd (omega arith)
same (negsuc m) (pos n) h = absurd (omega arith)
same (negsuc m) (negsuc n) h = ap negsuc (omega arith)

-- ---- what an operation makes of them

pub of_difference : (a b : ℕ) → up (sub_ℕ a b) + b ≡ a + down (sub_ℕ a b)
of_difference a b = go (ltb a b) refl
  where
    go : (t : Bool) → ltb a b ≡ t → up (sub_ℕ a b) + b ≡ a + down (sub_ℕ a b)
    go true e = rw e (omega (arith, ltb-true a b e))
    go false e = rw e (omega (arith, ltb-false a b e))

pub of_minus : (t : ℤ) → (up (neg_ℤ t) ≡ down t) × (down (neg_ℤ t) ≡ up t)
of_minus (pos zero) = (refl, refl)
of_minus (pos (suc n)) = (refl, refl)
of_minus (negsuc n) = (refl, refl)

pub of_sum : (s t : ℤ) → up (s +ℤ t) + (down s + down t) ≡ up s + up t + down (s +ℤ t)
of_sum (pos m) (pos n) = omega arith
of_sum (pos m) (negsuc n) = omega (arith, of_difference m (suc n))
of_sum (negsuc m) (pos n) = omega (arith, of_difference n (suc m))
of_sum (negsuc m) (negsuc n) = omega arith

pub of_times : (k : ℕ) (t : ℤ) → up (pos k *ℤ t) + k * down t ≡ k * up t + down (pos k *ℤ t)
of_times k (pos n) = omega arith
of_times k (negsuc n) = omega (arith, of_minus (pos (k * suc n)))

-- what goes no further down than up is not below zero
pub from_zero : (t : ℤ) → down t ≤ up t → t ≡ pos (up t)
from_zero (pos n) h = refl
from_zero (negsuc n) h = absurd (omega arith)
