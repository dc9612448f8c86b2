-- The exact saturation rises with the temperature, over every temperature; so a tenth has one entry, and entries rise with it.
-- First that exp rises and its reciprocal falls with the fraction, term by term; then by the signs. Assumes nothing.
use mathlib.Core.Path.{◌≡◌, subst}
use mathlib.Core.Bool.{Bool}
use Prim.Native.Nat.{ℕ, zero, suc, ◌+◌, ◌*◌, ◌-◌, ◌^◌, ◌<◌, ◌≤◌}
use native.Mathlib.Nat.{le_refl, le_antisymm, pow-zero, pow-suc, pow-le-pow_left, lt_of_lt_of_le, lt_of_le_of_lt, zero-lt-suc, mul-pos, mul-le-mul, mul-le-mul_left, mul-le-mul_right, mul-lt-mul_of_pos_right, lt_of_mul-lt-mul_right, le_of_mul-le-mul_right}
use native.Mathlib.Omega.{arith}
use native.Mathlib.Decide.{dec_lt}
use lib.Dec.{T}
use lib.IntN.{ℤ, pos, negsuc, ◌*ℤ◌}
use lib.Signed.{◌≤ℤ◌}
use Rattle.vapour.specs.Exp.{top, bottom, BelowExp, BelowReciprocal}
use Rattle.vapour.specs.Vapour.{Formula, Below, Near, water}
use Rattle.vapour.proofs.UpDown.{le_then, then_le, of_times}
use Rattle.vapour.proofs.Bracket.{bracket, shows}

-- ---- by the fraction

bottom_some : (q n : ℕ) → 0 < q → 0 < bottom q n
unfolding bottom
bottom_some q zero h = zero-lt-suc 0
bottom_some q (suc n) h = mul-pos (bottom_some q n h) (mul-pos h (zero-lt-suc n))

power_step : (w w' b b' p p' q q' k : ℕ) → p * q' ≤ p' * q → w * b' ≤ w' * b → w * p * (b' * (q' * k)) ≤ w' * p' * (b * (q * k))
power_step w w' b b' p p' q q' k h i = omega (arith, mul-le-mul_right k (mul-le-mul i h))

sum_step : (t t' b b' w w' k k' : ℕ) → t * b' ≤ t' * b → w * (b' * k') ≤ w' * (b * k) → (t * k + w) * (b' * k') ≤ (t' * k' + w') * (b * k)
sum_step t t' b b' w w' k k' h i = omega (arith, mul-le-mul_right (k * k') h)

-- a term, and a partial sum, rise with the fraction
module _ (p q p' q' : ℕ) (less : p * q' ≤ p' * q) where
  power : (n : ℕ) → p ^ n * bottom q' n ≤ p' ^ n * bottom q n
  unfolding bottom
  power zero = rw (pow-zero p, pow-zero p') (le_refl _)
  power (suc n) =
      rw (pow-suc p n, pow-suc p' n) (power_step (p ^ n) (p' ^ n) (bottom q n) (bottom q' n) p p' q q' (suc n) less (power n))

  sum : (n : ℕ) → top p q n * bottom q' n ≤ top p' q' n * bottom q n
  unfolding top bottom
  sum zero = le_refl 1
  sum (suc n) =
      sum_step (top p q n) (top p' q' n) (bottom q n) (bottom q' n) (p ^ suc n) (p' ^ suc n) (q * suc n) (q' * suc n) (sum n) (power (suc n))

  exp_rises : (u v : ℕ) → 0 < q' → BelowExp p q u v → BelowExp p' q' u v
  exp_rises u v h (n, e) = (
    n,
    lt_of_mul-lt-mul_right (bottom q n)
        (omega (arith, mul-lt-mul_of_pos_right e (bottom_some q' n h), mul-le-mul_left v (sum n))),
  )

  reciprocal_falls : (u v : ℕ) → 0 < q' → BelowReciprocal p' q' u v → BelowReciprocal p q u v
  reciprocal_falls u v h (a, b, e, g) = (
    a,
    b,
    e,
    λ n. le_of_mul-le-mul_right
        (omega (arith, mul-le-mul_left a (sum n), mul-le-mul_right (bottom q n) (g n)))
        (bottom_some q' n h),
  )

-- 1 / exp is at most 1, and exp at least 1
crosses : (p q p' q' u v : ℕ) → BelowReciprocal p q u v → BelowExp p' q' u v
unfolding top bottom
crosses p q p' q' u v (a, b, e, g) =
    let h : a ≤ b = let g0 = g 0 in omega arith in
    let l : u < v = lt_of_mul-lt-mul_right b (lt_of_lt_of_le e (mul-le-mul_left v h)) in
    (0, omega arith)

-- where the formula has no value, nothing lies below
nothing : (p q u v : ℕ) → 0 < p → q ≡ 0 → BelowReciprocal p q u v → ⊥
unfolding top bottom
nothing p q u v h z (a, b, e, g) =
    let g1 : a * (0 + p ^ 1) ≤ b * 0 = subst (λ (k : ℕ). a * (1 * (k * 1) + p ^ 1) ≤ b * (1 * (k * 1))) z (g 1) in
    let one = mul-le-mul_left a (pow-le-pow_left h 1) in
    let none : a ≡ 0 = omega arith in
    let e' : u * b < v * 0 = subst (λ (k : ℕ). u * b < v * k) none e in
    omega arith

-- ---- by the temperature

-- factor m / (10000 (offset ± m)) rises, or falls, with m
over_zero : (f o m m' : ℕ) → m ≤ m' → f * m * (10000 * (o + m')) ≤ f * m' * (10000 * (o + m))
over_zero f o m m' h = omega (arith, mul-le-mul_left (f * o) h)

-- x and y are what is left of the offset o under m and m'
under_zero : (f o m m' x y : ℕ) → m' ≤ m → x + m ≡ o → y + m' ≡ o → f * m' * (10000 * x) ≤ f * m * (10000 * y)
under_zero f o m m' x y h e e' =
    let l : x ≤ y = omega arith in
    omega (arith, mul-le-mul (mul-le-mul_left f h) l)

module _ (f : Formula) (u v : ℕ) where
  -- what lies under a fraction below the exact value lies below it
  pub lower : (t : ℤ) (u' : ℕ) → u' ≤ u → Below f t u v → Below f t u' v
  unfolding Below
  lower (pos m) u' h (n, e) = (n, lt_of_le_of_lt (mul-le-mul_right _ (mul-le-mul_left 100 h)) e)
  lower (negsuc m) u' h (a, b, e, g) = (a, b, lt_of_le_of_lt (mul-le-mul_right b (mul-le-mul_left 100 h)) e, g)

  module _ (real : (0 < f.factor) × (0 < f.offset)) where
    -- what lies below the exact value lies below it at a higher temperature
    pub rises : (t t' : ℤ) → t ≤ℤ t' → Below f t u v → Below f t' u v
    unfolding Below
    rises (pos m) (pos m') h b =
        exp_rises _ _ _ _ (over_zero f.factor f.offset m m' (omega (arith, le_then (pos m) (pos m') h))) (100 * u) (f.scale * v) (omega arith) b
    rises (pos m) (negsuc n') h b = absurd h.le
    rises (negsuc n) (pos m') h b = crosses _ _ _ _ (100 * u) (f.scale * v) b
    rises (negsuc n) (negsuc n') h b = go (dec_lt (suc n) f.offset)
      where
        go : Dec (suc n < f.offset) → Below f (negsuc n') u v
        go (yes y) =
            let l : n' ≤ n = omega (arith, le_then (negsuc n) (negsuc n') h) in
            reciprocal_falls _ _ _ _
            (under_zero f.factor f.offset (suc n) (suc n') (f.offset - suc n) (f.offset - suc n') (omega arith) (omega arith) (omega arith))
            (100 * u) (f.scale * v) (omega arith) b
        go (no y) =
            absurd (nothing (f.factor * suc n) (10000 * (f.offset - suc n)) (100 * u) (f.scale * v) (mul-pos real.0 (zero-lt-suc n)) (omega arith) b)

-- ---- the entries of a tenth

-- the test of an entry
unfoldable pub near_test : Formula → ℤ → ℕ → Bool
unfolding bracket
near_test f t r = bracket f (2 * r - 1) (2 * r + 1) 2 (pos 100 *ℤ t)

pub near_by_test : (f : Formula) (t : ℤ) (r : ℕ) → T (near_test f t r) → Near f t r
unfolding near_test
near_by_test f t r passed = let b = shows f (2 * r - 1) (2 * r + 1) 2 (pos 100 *ℤ t) passed in record { low = b.low; high = b.high }

-- entries rise with the temperature (not strictly)
pub near_rises : (f : Formula) → (0 < f.factor) × (0 < f.offset) → (t t' : ℤ) (r r' : ℕ) → t ≤ℤ t' → Near f t r → Near f t' r' → r ≤ r'
near_rises f real t t' r r' h a b = go (dec_lt r' r)
  where
    warmer : (pos 100 *ℤ t) ≤ℤ (pos 100 *ℤ t')
    warmer = then_le (pos 100 *ℤ t) (pos 100 *ℤ t') (omega (arith, le_then t t' h, of_times 100 t, of_times 100 t'))

    go : Dec (r' < r) → r ≤ r'
    go (yes y) =
        absurd (b.high (rises f (2 * r' + 1) 2 real (pos 100 *ℤ t) (pos 100 *ℤ t') warmer (lower f (2 * r - 1) 2 (pos 100 *ℤ t) (2 * r' + 1) (omega arith) a.low)))
    go (no y) = omega arith

-- a tenth has one entry, whatever the formula
pub near_one : (f : Formula) (t : ℤ) (r r' : ℕ) → Near f t r → Near f t r' → r ≡ r'
near_one f t r r' a b = le_antisymm (go r r' a b (dec_lt r' r)) (go r' r b a (dec_lt r r'))
  where
    go : (x y : ℕ) → Near f t x → Near f t y → Dec (y < x) → x ≤ y
    go x y c d (yes l) = absurd (d.high (lower f (2 * x - 1) 2 (pos 100 *ℤ t) (2 * y + 1) (omega arith) c.low))
    go x y c d (no l) = omega arith

abbrev pub real_water : (0 < water.factor) × (0 < water.offset)
real_water = (omega arith, omega arith)

-- The table rises.
pub table_rises : (t t' : ℤ) (r r' : ℕ) → t ≤ℤ t' → Near water t r → Near water t' r' → r ≤ r'
table_rises = near_rises water real_water
