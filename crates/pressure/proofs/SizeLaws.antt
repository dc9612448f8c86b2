-- How large the corrections can be: no larger than the coefficients, heights and points that they are worked from allow. For
-- any block, whose figures are 16 bits each, that is little enough for every sum to fit. Assumes nothing.
use mathlib.Core.Path.{◌≡◌, refl}
use mathlib.Core.Bool.{Bool, true, false}
use mathlib.Core.List.{List}
use Prim.Native.Nat.{ℕ, ◌+◌, ◌-◌, ◌*◌, ◌/◌, ◌≤◌, zero-le}
use native.Mathlib.Omega.{arith}
use native.Mathlib.Nat.{le_trans, le_of_eq, mul-le-mul_right}
use lib.Dec.{ltb, lit≤, lit<}
use lib.IntN.{ℤ, pos, nat_abs, ◌+ℤ◌, ◌*ℤ◌}
use lib.ListN.{get_or}
use Rattle.number.specs.Round.{nearest, rounded}
use Rattle.number.proofs.Sizes.{size_sum, size_mul}
use Rattle.quantity.specs.declared.BarometerUnit.{BarometerUnit}
use Rattle.quantity.specs.declared.BarometerUnit.TheVariants.{Hectopascals, Millimetres}
use Rattle.settings.specs.declared.Point.{Point}
use Rattle.block.specs.Layout.{POINTS}
use Rattle.cell.specs.Cells.{unbiased}
use Rattle.certificate.proofs.LineLaws.{rounded_at_most}
use Rattle.certificate.proofs.SizeLaws.{product, unbiased_size, value_size, round_size}
use Rattle.block.specs.Words.{unit_of, setting_of, points_of, point_of}
use Rattle.pressure.specs.Pressure.{Barometer, barometer_of, corner, scale, outside, temperature, per_metre, height, factor, rounded_once, sea_level}

pub temperature_size : (c t : ℤ) (m n k : ℕ) → nat_abs c ≤ m → nat_abs t ≤ n → m * n ≤ k * 1000 → nat_abs (temperature c t) ≤ k
unfolding temperature
temperature_size c t m n k hc ht h =
    rounded_at_most (c *ℤ t) 1000 k (lit< tt) (omega (arith, size_mul c t, product hc ht))

-- for each tenth of a metre as many ten-thousandths of the unit
pub height_size : (u : BarometerUnit) (h d : ℤ) (k : ℕ) → nat_abs h + nat_abs d ≤ k → nat_abs (height u h d) ≤ k * per_metre u
unfolding height
height_size u h d k l = le_trans (le_of_eq (size_mul (h +ℤ d) (pos (per_metre u)))) (mul-le-mul_right (per_metre u) (le_trans (size_sum h d) l))

-- the scale correction: no larger than what a point says
pub scale_size : (b : Barometer) (r : ℤ) (k : ℕ) → ((j : ℕ) → j ≤ b.points - 1 → nat_abs (b.point j).correction.0.v ≤ k) → nat_abs (scale b r) ≤ k
unfolding scale
scale_size b r k f = value_size (λ i. corner (b.point i)) r k 0 (b.points - 1) (λ j h. f j (omega arith))

-- ---- what a block can hold

record Stored (p : Point) : Type 0 where
  reading : nat_abs p.reading.v ≤ 32768
  correction : nat_abs p.correction.0.v ≤ 32768

stored : (s : List ℕ) (i : ℕ) → Stored (point_of s i)
stored s i = go (ltb i 16) refl
  where
    go : (t : Bool) → ltb i 16 ≡ t → Stored (point_of s i)
    go true e = rw e (let w = get_or s (POINTS + i) 0 in record { reading = unbiased_size w; correction = unbiased_size (w / 65536) })
    go false e = rw e (record { reading = zero-le; correction = zero-le })

pub scale_stored : (s : List ℕ) (r : ℤ) → nat_abs (scale (barometer_of s) r) ≤ 32768
scale_stored s r = scale_size (barometer_of s) r 32768 (λ j h. (stored s j).correction)

-- a reading within the certificate is no larger than its points
pub certified_stored : (s : List ℕ) (r : ℤ) → outside (barometer_of s) r ≡ false → nat_abs r ≤ 32768
unfolding outside
certified_stored s r h = round_size (λ i. corner (point_of s i)) r 32768 (points_of s - 1) (λ j. (stored s j).reading) h

pub temperature_stored : (n : ℕ) (t : ℤ) → nat_abs t ≤ 600 → nat_abs (temperature (unbiased n) t) ≤ 19661
temperature_stored n t h = temperature_size (unbiased n) t 32768 600 19661 (unbiased_size n) h (lit≤ tt)

height_stored : (u : BarometerUnit) (m n : ℕ) → nat_abs (height u (unbiased m) (unbiased n)) ≤ 8716288
height_stored u m n = le_trans (height_size u (unbiased m) (unbiased n) 65536 (omega (arith, unbiased_size m, unbiased_size n))) (fits u)
  where
    fits : (u : BarometerUnit) → 65536 * per_metre u ≤ 8716288
    fits Hectopascals = lit≤ tt
    fits Millimetres = lit≤ tt

pub factor_size : (u : BarometerUnit) → nat_abs (factor u) ≤ 13332
unfolding rounded nearest
factor_size Hectopascals = lit≤ tt
factor_size Millimetres = lit≤ tt

once_size : (u : BarometerUnit) (z : ℤ) (k : ℕ) → nat_abs z ≤ k * 500 → nat_abs (rounded_once u z) ≤ k
once_size u z k h = rounded_at_most (z *ℤ factor u) (1000 * 10000) k (lit< tt) (omega (arith, size_mul z (factor u), product h (factor_size u)))

-- Sea level pressure of any block, from a reading and a temperature within their limits.
pub sea_level_stored : (s : List ℕ) (r t : ℤ) → nat_abs r ≤ 32768 → nat_abs t ≤ 600 → nat_abs (sea_level (barometer_of s) r t) ≤ 187828
unfolding sea_level
sea_level_stored s r t h k =
    let a = scale (barometer_of s) r in
    let b = temperature (setting_of s 3) t in
    let c = height (unit_of s) (setting_of s 1) (setting_of s 2) in
    once_size (unit_of s) ((r +ℤ a +ℤ b) *ℤ pos 1000 +ℤ c) 187828
    (omega (
      arith,
      size_sum ((r +ℤ a +ℤ b) *ℤ pos 1000) c,
      size_mul (r +ℤ a +ℤ b) (pos 1000),
      size_sum (r +ℤ a) b,
      size_sum r a,
      scale_stored s r,
      temperature_stored (get_or s 3 0) t k,
      height_stored (unit_of s) (get_or s 1 0) (get_or s 2 0),
    ))
