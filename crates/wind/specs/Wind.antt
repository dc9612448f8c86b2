-- The true wind (document 01, "True wind"). Speeds are in parts of 1/12500 m/s, in which s, k and 0.05 m/s are whole; sines and
-- cosines are in millionths, of half degrees. So each side of a comparison is a million times what the paper writes, or more.
use Rattle.std.specs.Prelude.{Bool, cond, ℕ, zero, suc, ◌+◌, ◌-◌, ◌*◌, ◌%◌, ◌<◌, ltb, eqb, ℤ, pos, nat_abs, ◌-ℤ◌, ◌*ℤ◌, ◌≤ℤ◌, ◌<ℤ◌}
use Rattle.std.specs.Int.Signed.{le_z}
use Rattle.quantity.specs.Convert.{parts_of_metres}
use Rattle.sine.specs.Sine.{sine, cosine}

-- "Let s = 0.5144 times ship speed, k = apparent speed, r = apparent direction": s and k in parts, r in whole degrees.

-- "s² + k² - 2sk cos r"
unfoldable pub sum : ℕ → ℕ → ℕ → ℤ
sum s k r = pos (1000000 * (s * s + k * k)) -ℤ pos (2 * (s * k)) *ℤ cosine (2 * r)

-- 0.05 m/s
abbrev pub half_tenth : ℕ
half_tenth = 625

-- The square of a speed, as the sum has it
abbrev pub square_of : ℕ → ℤ
square_of parts = pos (1000000 * (parts * parts))

-- "(v - 0.05)² ≤ that sum < (v + 0.05)², the left part only for v > 0": v in tenths of m/s
pub record Nearest (s k r v : ℕ) : Type 0 where
  pub low : 0 < v → square_of (parts_of_metres v - half_tenth) ≤ℤ sum s k r
  pub high : sum s k r <ℤ square_of (parts_of_metres v + half_tenth)

-- "let N = k - s cos r and M = s times the size of sin r"
unfoldable pub N : ℕ → ℕ → ℕ → ℤ
N s k r = pos (1000000 * k) -ℤ pos s *ℤ cosine (2 * r)

unfoldable pub M : ℕ → ℕ → ℤ
M s r = pos (s * nat_abs (sine (2 * r)))

-- "marks 0.5, 1.5, .. 179.5 degrees, h, at which M cos h ≥ N sin h": mark i is at i + 0.5 degrees
unfoldable pub meets : ℕ → ℕ → ℕ → ℕ → Bool
meets s k r i = let h = 2 * i + 1 in le_z (N s k r *ℤ sine h) (M s r *ℤ cosine h)

-- The number of i below n at which a test holds
unfoldable pub count : (ℕ → Bool) → ℕ → ℕ
count holds zero = 0
count holds (suc n) = count holds n + cond (holds n) 1 0

-- "Angle between the two winds: .. the number of marks"
unfoldable pub between : ℕ → ℕ → ℕ → ℕ
between s k r = count (meets s k r) 180

-- "r + angle if r < 180, r - angle otherwise"; an angle is at most 180
unfoldable pub turned : ℕ → ℕ → ℕ
turned r angle = cond (ltb r 180) (r + angle) (r - angle)

-- "brought into 1 to 360"
unfoldable pub compass : ℕ → ℕ
compass d = (d + 359) % 360 + 1

-- "If the rounded speed is 0 the direction is 0 (calm)."
unfoldable pub from : ℕ → ℕ → ℕ → ℕ → ℕ
from course r angle v = cond (eqb v 0) 0 (compass (course + turned r angle))
