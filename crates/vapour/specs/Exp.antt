-- The exponential of a fraction p / q, not negative, by its series.
use Rattle.std.specs.Prelude.{ℕ, zero, suc, ◌+◌, ◌*◌, ◌^◌, ◌<◌, ◌≤◌}

-- n! times q to the n: the denominator that the terms 0 to n of the series have in common
unfoldable pub bottom : ℕ → ℕ → ℕ
bottom q zero = 1
bottom q (suc n) = bottom q n * (q * suc n)

-- the partial sum 1 + y + y² / 2! + .. + yⁿ / n! at y = p / q is top p q n / bottom q n
unfoldable pub top : ℕ → ℕ → ℕ → ℕ
top p q zero = 1
top p q (suc n) = top p q n * (q * suc n) + p ^ suc n

-- "a fraction lies below it exactly when some partial sum exceeds that fraction": u / v below exp (p / q)
abbrev pub BelowExp : ℕ → ℕ → ℕ → ℕ → Type 0
BelowExp p q u v = (n : ℕ) × (u * bottom q n < v * top p q n)

-- "For negative exponents it is the reciprocal.": u / v lies below 1 / exp (p / q) where some larger fraction a / b is at most
-- that, which is to say that a / b times any partial sum is at most 1 (b is not 0, for the first partial sum is 1)
abbrev pub BelowReciprocal : ℕ → ℕ → ℕ → ℕ → Type 0
BelowReciprocal p q u v = (a : ℕ) × (b : ℕ) × (u * b < v * a) × ((n : ℕ) → a * top p q n ≤ b * bottom q n)
