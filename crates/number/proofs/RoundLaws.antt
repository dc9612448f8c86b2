-- What the rounding rule means: it is to the nearest, a whole number stays, a half goes away from zero, it is odd and it is
-- monotone. The size's laws come first, each from two facts on a quotient; the sign is then taken by cases. Assumes nothing.
use mathlib.Core.Path.{◌≡◌, refl, sym, ap, ◌∙◌}
use Prim.Native.Nat.{ℕ, zero, suc, ◌+◌, ◌*◌, ◌≤◌, ◌<◌, zero-le, suc-le-suc}
use native.Mathlib.Omega.{arith}
use native.Mathlib.Nat.{le_antisymm, le_of_eq, not-suc-le-zero, le_of_suc-le-suc, div-mul-le_self, div-lt_iff_lt-mul, le-div_iff_mul-le, div-eq_of_lt-le, mul-le-mul_left, mul-le-mul_right, mul_left_comm, mul_assoc, mul_comm, add-mul, le_of_mul-le-mul_right, mul-pos, zero-mul}
use lib.Dec.{T, le→leb, leb→le}
use lib.IntN.{ℤ, pos, negsuc, neg_ℤ, nat_abs, ◌*ℤ◌, neg_ℤ-neg_ℤ}
use lib.Signed.{lt_z, le_z, ◌≤ℤ◌}
use borrow.Author.Tests.{le-ltb}
use Rattle.number.specs.Whole.{signed}
use Rattle.number.specs.Round.{nearest, rounded}

-- ---- the order of numbers with a minus

apart : (m n : ℕ) → 0 < n → T (le_z (pos m) (neg_ℤ (pos n))) → ⊥
apart m zero h t = not-suc-le-zero h
apart m (suc n) h t = t

pub minus_le : (m n : ℕ) → T (le_z (neg_ℤ (pos m)) (pos n))
minus_le zero n = le→leb 0 n zero-le
minus_le (suc m) n = tt

pub minus_minus : (m n : ℕ) → n ≤ m → T (le_z (neg_ℤ (pos m)) (neg_ℤ (pos n)))
minus_minus m zero h = minus_le m 0
minus_minus zero (suc n) h = absurd (not-suc-le-zero h)
minus_minus (suc m) (suc n) h = le→leb n m (le_of_suc-le-suc h)

minus_back : (m n : ℕ) → T (le_z (neg_ℤ (pos m)) (neg_ℤ (pos n))) → n ≤ m
minus_back m zero t = zero-le
minus_back zero (suc n) t = absurd t
minus_back (suc m) (suc n) t = suc-le-suc (leb→le n m t)

-- ---- sizes

-- q is nearest to n / d: q·2d ≤ 2n + d < (q + 1)·2d
pub nearest_is : (n d : ℕ) → 0 < d → (nearest n d * (2 * d) ≤ 2 * n + d) × (2 * n + d < (nearest n d + 1) * (2 * d))
unfolding nearest
nearest_is n d h = (
  div-mul-le_self (2 * n + d) (2 * d),
  (div-lt_iff_lt-mul {k = 2 * d} {x = 2 * n + d} {y = nearest n d + 1} (omega arith)).0 (omega arith),
)

-- and nothing else is
pub nearest_only : (n d q : ℕ) → q * (2 * d) ≤ 2 * n + d → 2 * n + d < (q + 1) * (2 * d) → nearest n d ≡ q
unfolding nearest
nearest_only n d q lo hi = div-eq_of_lt-le (2 * d) lo hi

pub nearest_whole : (m d : ℕ) → 0 < d → nearest (m * d) d ≡ m
nearest_whole m d h = nearest_only (m * d) d m (omega (arith, mul_left_comm m 2 d)) (omega (arith, mul_left_comm m 2 d, add-mul m 1 (2 * d)))

-- (2m + 1) / 2 goes up
pub nearest_half : (m d : ℕ) → 0 < d → nearest ((2 * m + 1) * d) (2 * d) ≡ m + 1
nearest_half m d h =
    nearest_only ((2 * m + 1) * d) (2 * d) (m + 1)
    (omega (arith, e (m + 1), add-mul m 1 d, odd))
    (omega (arith, e (m + 1 + 1), add-mul (m + 1) 1 d, add-mul m 1 d, odd))
  where
    e : (k : ℕ) → k * (2 * (2 * d)) ≡ 4 * (k * d)
    e k = omega (arith, mul_left_comm k 2 (2 * d), mul_left_comm k 2 d)

    odd : (2 * m + 1) * d ≡ 2 * (m * d) + d
    odd = omega (arith, add-mul (2 * m) 1 d, mul_assoc 2 m d)

pub nearest_le : (n d : ℕ) → 0 < d → nearest n d ≤ n
unfolding nearest
nearest_le n d h =
    omega (arith, (div-lt_iff_lt-mul {k = 2 * d} {x = 2 * n + d} {y = n + 1} (omega arith)).1 (omega (arith, add-mul n 1 (2 * d), mul_left_comm n 2 d, mul-le-mul_left n h)))

-- a / b ≤ c / d: the larger fraction rounds to no less
pub nearest_monotone : (a b c d : ℕ) → 0 < b → 0 < d → a * d ≤ c * b → nearest a b ≤ nearest c d
unfolding nearest
nearest_monotone a b c d B D h =
    (le-div_iff_mul-le {k = 2 * d} {x = nearest a b} {y = 2 * c + d} (omega arith)).1
    (le_of_mul-le-mul_right {k = b} (omega (arith, mul-le-mul_right d (nearest_is a b B).0, q, mul_comm b d, r, p)) B)
  where
    p : (2 * a + b) * d ≡ 2 * (a * d) + b * d
    p = omega (arith, add-mul (2 * a) b d, mul_assoc 2 a d)

    q : nearest a b * (2 * b) * d ≡ nearest a b * (2 * d) * b
    q = mul_assoc (nearest a b) (2 * b) d ∙ ap (λ (x : ℕ). nearest a b * x) (omega (arith, mul_assoc 2 b d, mul_assoc 2 d b, mul_comm b d)) ∙ sym (mul_assoc (nearest a b) (2 * d) b)

    r : (2 * c + d) * b ≡ 2 * (c * b) + d * b
    r = omega (arith, add-mul (2 * c) d b, mul_assoc 2 c b)

-- equal fractions round alike
pub nearest_same : (a b c d : ℕ) → 0 < b → 0 < d → a * d ≡ c * b → nearest a b ≡ nearest c d
nearest_same a b c d B D e = le_antisymm (nearest_monotone a b c d B D (le_of_eq e)) (nearest_monotone c d a b D B (le_of_eq (sym e)))

-- ---- with the sign

nearest_zero : (d : ℕ) → 0 < d → nearest 0 d ≡ 0
nearest_zero d h = ap (λ (n : ℕ). nearest n d) (sym (zero-mul d)) ∙ nearest_whole 0 d h

-- a number below zero, or zero with a minus: its size is rounded
rounded_minus : (k d : ℕ) → 0 < d → rounded (neg_ℤ (pos k)) d ≡ neg_ℤ (pos (nearest k d))
unfolding rounded
rounded_minus zero d h = ap pos (nearest_zero d h) ∙ sym (ap (λ (x : ℕ). neg_ℤ (pos x)) (nearest_zero d h))
rounded_minus (suc k) d h = refl

-- the rule is odd: rounding -z gives minus what rounding z gives
pub rounded_odd : (z : ℤ) (d : ℕ) → 0 < d → rounded (neg_ℤ z) d ≡ neg_ℤ (rounded z d)
unfolding rounded
rounded_odd (pos n) d h = rounded_minus n d h
rounded_odd (negsuc n) d h = sym (neg_ℤ-neg_ℤ (pos (nearest (suc n) d)))

-- a whole number stays
pub rounded_whole : (z : ℤ) (d : ℕ) → 0 < d → rounded (z *ℤ pos d) d ≡ z
unfolding rounded
rounded_whole (pos n) d h = ap pos (nearest_whole n d h)
rounded_whole (negsuc n) d h = rounded_minus (suc n * d) d h ∙ ap (λ (x : ℕ). neg_ℤ (pos x)) (nearest_whole (suc n) d h)

-- a half goes away from zero: m + 1/2 to m + 1, and -(m + 1/2) to -(m + 1)
pub half_away : (m d : ℕ) → 0 < d → let half = pos ((2 * m + 1) * d) in
    (rounded half (2 * d) ≡ pos (m + 1)) × (rounded (neg_ℤ half) (2 * d) ≡ neg_ℤ (pos (m + 1)))
unfolding rounded
half_away m d h =
    let up = ap pos (nearest_half m d h) in (
      up,
      rounded_odd (pos ((2 * m + 1) * d)) (2 * d) (omega arith) ∙ ap neg_ℤ up,
    )

-- the rule is monotone: where a / b ≤ c / d, the first rounds to no more than the second
pub rounded_monotone : (a c : ℤ) (b d : ℕ) → 0 < b → 0 < d → (a *ℤ pos d) ≤ℤ (c *ℤ pos b) → rounded a b ≤ℤ rounded c d
unfolding rounded
rounded_monotone (pos a) (pos c) b d B D h = record { le = le→leb _ _ (nearest_monotone a b c d B D (leb→le (a * d) (c * b) h.le)) }
rounded_monotone (pos a) (negsuc c) b d B D h = absurd (apart (a * d) (suc c * b) (mul-pos (omega arith) B) h.le)
rounded_monotone (negsuc a) (pos c) b d B D h = record { le = minus_le (nearest (suc a) b) (nearest c d) }
rounded_monotone (negsuc a) (negsuc c) b d B D h =
    record { le = minus_minus _ _ (nearest_monotone (suc c) d (suc a) b D B (minus_back (suc a * d) (suc c * b) h.le)) }

-- the rule as the machine works it: the sign of the number, and the size rounded
pub rounded_signed : (z : ℤ) (d : ℕ) → signed (lt_z z (pos 0)) (nearest (nat_abs z) d) ≡ rounded z d
unfolding rounded
rounded_signed (pos n) d = rw (le-ltb n 0 zero-le)
rounded_signed (negsuc n) d = refl
