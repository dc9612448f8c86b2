-- The order of numbers with a sign as one of naturals, which omega reads: each number is up less down, and x ≤ y is
-- up x + down y ≤ up y + down x. By the signs. Assumes nothing.
use mathlib.Core.Path.{◌≡◌, refl, sym, ap, ◌∙◌}
use mathlib.Core.Bool.{Bool, true, false, not}
use Prim.Native.Nat.{ℕ, zero, suc, ◌+◌, ◌-◌, ◌*◌, ◌≤◌, ◌<◌}
use native.Mathlib.Omega.{arith}
use native.Mathlib.Nat.{add-zero, zero-mul, mul-le-mul_right}
use lib.Dec.{leb, ltb}
use lib.IntN.{ℤ, pos, negsuc, neg_ℤ, sub_ℕ, ◌+ℤ◌, ◌-ℤ◌, ◌*ℤ◌}
use lib.Signed.{le_z, lt_z}
use borrow.Author.Tests.{ltb-true, ltb-false, leb-true, leb-false, le-leb, lt-leb, le-ltb}
use Rattle.number.proofs.Sizes.{never}

unfoldable pub up : ℤ → ℕ
up (pos n) = n
up (negsuc n) = 0

unfoldable pub down : ℤ → ℕ
down (pos n) = 0
down (negsuc n) = suc n

less : (a b : ℕ) → ltb a b ≡ not (leb b a)
less a b = go (ltb a b) refl
  where
    go : (t : Bool) → ltb a b ≡ t → ltb a b ≡ not (leb b a)
    go true e = rw (e, lt-leb b a (ltb-true a b e))
    go false e = rw (e, le-leb b a (ltb-false a b e))

pub at_most : (x y : ℤ) → le_z x y ≡ true → up x + down y ≤ up y + down x
unfolding up down
at_most (pos a) (pos b) e = omega (arith, leb-true a b e)
at_most (pos a) (negsuc b) e = never e
at_most (negsuc a) (pos b) e = omega arith
at_most (negsuc a) (negsuc b) e = omega (arith, leb-true b a e)

pub is_at_most : (x y : ℤ) → up x + down y ≤ up y + down x → le_z x y ≡ true
unfolding up down
is_at_most (pos a) (pos b) h = le-leb a b (omega arith)
is_at_most (pos a) (negsuc b) h = absurd (omega arith)
is_at_most (negsuc a) (pos b) h = refl
is_at_most (negsuc a) (negsuc b) h = le-leb b a (omega arith)

pub above : (x y : ℤ) → le_z x y ≡ false → up y + down x < up x + down y
unfolding up down
above (pos a) (pos b) e = omega (arith, leb-false a b e)
above (pos a) (negsuc b) e = omega arith
above (negsuc a) (pos b) e = never (sym e)
above (negsuc a) (negsuc b) e = omega (arith, leb-false b a e)

-- x below y, as the other test says it
pub below_is : (x y : ℤ) → lt_z x y ≡ not (le_z y x)
below_is (pos a) (pos b) = less a b
below_is (pos a) (negsuc b) = refl
below_is (negsuc a) (pos b) = refl
below_is (negsuc a) (negsuc b) = less b a

pub same : (x y : ℤ) → up x + down y ≡ up y + down x → x ≡ y
unfolding up down
same (pos a) (pos b) h = ap pos (omega arith)
same (pos a) (negsuc b) h = absurd (omega arith)
same (negsuc a) (pos b) h = absurd (omega arith)
same (negsuc a) (negsuc b) h = ap negsuc (omega arith)

pub level : (x y : ℤ) → x ≡ y → up x + down y ≡ up y + down x
level x y e = rw e

-- the distance of two numbers, the larger less the smaller
pub record Apart (x y : ℤ) (n : ℕ) : Type 0 where
  pub less : y -ℤ x ≡ pos n
  pub far : n + (up x + down y) ≡ up y + down x

pub apart : (x y : ℤ) → le_z x y ≡ true → (n : ℕ) × Apart x y n
unfolding up down
apart (pos zero) (pos b) e = (b, record { less = ap pos (add-zero b); far = omega arith })
apart (pos (suc a)) (pos b) e =
    let h = leb-true (suc a) b e in
    (b - suc a, record { less = rw (le-ltb b (suc a) h); far = omega arith })
apart (pos a) (negsuc b) e = never e
apart (negsuc a) (pos b) e = (b + suc a, record { less = refl; far = omega arith })
apart (negsuc a) (negsuc b) e =
    let h = leb-true b a e in
    (a - b, record { less = rw (le-ltb (suc a) (suc b) (omega arith)) (ap pos (omega arith)); far = omega arith })

-- ---- sums and products

up_neg : (m : ℕ) → up (neg_ℤ (pos m)) ≡ 0
unfolding up
up_neg zero = refl
up_neg (suc m) = refl

pub down_neg : (m : ℕ) → down (neg_ℤ (pos m)) ≡ m
unfolding down
down_neg zero = refl
down_neg (suc m) = refl

pub up_times : (z : ℤ) (k : ℕ) → up (z *ℤ pos k) ≡ up z * k
unfolding up
up_times (pos j) k = refl
up_times (negsuc j) k = up_neg (suc j * k) ∙ sym (zero-mul k)

pub down_times : (z : ℤ) (k : ℕ) → down (z *ℤ pos k) ≡ down z * k
unfolding down
down_times (pos j) k = sym (zero-mul k)
down_times (negsuc j) k = down_neg (suc j * k)

pub sum_is : (x y : ℤ) → up (x +ℤ y) + (down x + down y) ≡ down (x +ℤ y) + (up x + up y)
unfolding up down
sum_is (pos a) (pos b) = omega arith
sum_is (pos a) (negsuc b) = go (ltb a (suc b)) refl
  where
    go : (t : Bool) → ltb a (suc b) ≡ t → up (sub_ℕ a (suc b)) + (0 + suc b) ≡ down (sub_ℕ a (suc b)) + (a + 0)
    go true e = rw e (omega (arith, ltb-true a (suc b) e))
    go false e = rw e (omega (arith, ltb-false a (suc b) e))
sum_is (negsuc a) (pos b) = go (ltb b (suc a)) refl
  where
    go : (t : Bool) → ltb b (suc a) ≡ t → up (sub_ℕ b (suc a)) + (suc a + 0) ≡ down (sub_ℕ b (suc a)) + (0 + b)
    go true e = rw e (omega (arith, ltb-true b (suc a) e))
    go false e = rw e (omega (arith, ltb-false b (suc a) e))
sum_is (negsuc a) (negsuc b) = omega arith

-- the order of two numbers is that of their products with a natural
pub times_at_most : (x y : ℤ) (k : ℕ) → le_z x y ≡ true → le_z (x *ℤ pos k) (y *ℤ pos k) ≡ true
times_at_most x y k h =
    is_at_most (x *ℤ pos k) (y *ℤ pos k)
    (omega (arith, up_times x k, down_times x k, up_times y k, down_times y k, mul-le-mul_right k (at_most x y h)))
