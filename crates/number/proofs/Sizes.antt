-- The sizes of signed numbers, as naturals that omega reads, and what a range says of the number; before that, what true and false
-- are to each other. Assumes nothing.
use mathlib.Core.Path.{◌≡◌, refl}
use mathlib.Core.Bool.{Bool, true, false, ◌&&◌, cond}
use Prim.Native.Nat.{ℕ, zero, suc, ◌+◌, ◌*◌, ◌≤◌, ◌<◌}
use native.Mathlib.Omega.{arith}
use native.Mathlib.Nat.{le_refl}
use lib.Dec.{T, ltb}
use lib.IntN.{ℤ, pos, negsuc, neg_ℤ, nat_abs, sub_ℕ, ◌+ℤ◌, ◌-ℤ◌, ◌*ℤ◌}
use lib.Signed.{le_z}
use borrow.Author.Tests.{ltb-true, ltb-false, leb-true}
use Rattle.number.specs.Whole.{signed, within}

pub size_neg : (z : ℤ) → nat_abs (neg_ℤ z) ≡ nat_abs z
size_neg (pos zero) = refl
size_neg (pos (suc n)) = refl
size_neg (negsuc n) = refl

pub size_signed : (s : Bool) (n : ℕ) → nat_abs (signed s n) ≡ n
size_signed false n = refl
size_signed true n = size_neg (pos n)

size_diff : (a b : ℕ) → nat_abs (sub_ℕ a b) ≤ a + b
size_diff a b = go (ltb a b) refl
  where
    go : (t : Bool) → ltb a b ≡ t → nat_abs (sub_ℕ a b) ≤ a + b
    go true e = rw e (omega (arith, ltb-true a b e))
    go false e = rw e (omega (arith, ltb-false a b e))

pub size_sum : (a b : ℤ) → nat_abs (a +ℤ b) ≤ nat_abs a + nat_abs b
size_sum (pos a) (pos b) = le_refl (a + b)
size_sum (pos a) (negsuc b) = size_diff a (suc b)
size_sum (negsuc a) (pos b) = omega (arith, size_diff b (suc a))
size_sum (negsuc a) (negsuc b) = omega arith

pub size_sub : (a b : ℤ) → nat_abs (a -ℤ b) ≤ nat_abs a + nat_abs b
size_sub a b = omega (arith, size_sum a (neg_ℤ b), size_neg b)

pub size_mul : (a b : ℤ) → nat_abs (a *ℤ b) ≡ nat_abs a * nat_abs b
size_mul (pos a) (pos b) = refl
size_mul (pos a) (negsuc b) = size_neg (pos (a * suc b))
size_mul (negsuc a) (pos b) = size_neg (pos (suc a * b))
size_mul (negsuc a) (negsuc b) = refl

-- ---- one or the other

-- two constructors are never equal: of an equation that says so, cc makes this one
pub impossible : {A : Type 0} → ◌≡◌ {A = ℕ} 0 1 → A
impossible e = absurd (omega arith)

-- false is not true
pub never : {A : Type 0} → false ≡ true → A
never e = impossible (cc)

-- what cannot be true is false
pub fails : (b : Bool) → (T b → ⊥) → b ≡ false
fails true n = absurd (n tt)
fails false n = refl

-- what holds of two things holds of whichever is picked
pub either_way : {A : Type 0} (P : A → Type 0) (b : Bool) (x y : A) → P x → P y → P (cond b x y)
either_way P true x y p q = p
either_way P false x y p q = q

-- ---- what a range says of the number

pub and_true : (a b : Bool) → (a && b) ≡ true → (a ≡ true) × (b ≡ true)
and_true true b e = (refl, e)
and_true false b e = never e

pub both : {a b : Bool} → a ≡ true → b ≡ true → (a && b) ≡ true
both p q = rw (p, q)

-- no larger than the larger limit
pub within_size : (low high z : ℤ) (k : ℕ) → nat_abs low ≤ k → nat_abs high ≤ k → within low high z ≡ true → nat_abs z ≤ k
within_size low high z k l h e = go low high z l h (and_true (le_z low z) (le_z z high) e)
  where
    go : (low high z : ℤ) → nat_abs low ≤ k → nat_abs high ≤ k → (le_z low z ≡ true) × (le_z z high ≡ true) → nat_abs z ≤ k
    go low (pos h) (pos n) l b e = omega (arith, leb-true n h e.1)
    go low (negsuc h) (pos n) l b e = never e.1
    go (pos l) high (negsuc n) b h e = never e.0
    go (negsuc l) high (negsuc n) b h e = omega (arith, leb-true n l e.0)

-- what is larger lies without
pub without : (low high z : ℤ) (k : ℕ) → nat_abs low ≤ k → nat_abs high ≤ k → k < nat_abs z → within low high z ≡ false
without low high z k l h b = go (within low high z) refl
  where
    go : (t : Bool) → within low high z ≡ t → within low high z ≡ false
    go true e = absurd (let s = within_size low high z k l h e in omega arith)
    go false e = e

-- from 0 on a number is its size
pub natural : (low : ℕ) (high z : ℤ) → within (pos low) high z ≡ true → pos (nat_abs z) ≡ z
natural low high (pos n) e = refl
natural low high (negsuc n) e = never e
