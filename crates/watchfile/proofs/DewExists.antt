-- Every e from 0.19 to 123.45 hPa has a dew point, from -40.0 to 50.0 °C. Each tenth from -40.0 to 50.1 has a least hundredth at or
-- above the exact saturation half a tenth under it: guessed from the series' terms 0 to 20, and shown by one test at each. The last
-- tenth whose hundredth e reaches is the dew point. Assumes nothing.
use mathlib.Core.Path.{◌≡◌}
use mathlib.Core.Bool.{Bool, true, ◌&&◌}
use Prim.Native.Nat.{ℕ, zero, suc, ◌+◌, ◌*◌, ◌-◌, ◌/◌, ◌<◌, ◌≤◌}
use native.Mathlib.Omega.{arith}
use native.Mathlib.Decide.{dec_le, dec_lt}
use native.Mathlib.Nat.{lt_of_not-le, not-suc-le-zero}
use native.Mathlib.Numerals.{add-one}
use lib.Dec.{T}
use lib.Ieee.Fits.{and_l, and_r}
use lib.IntN.{ℤ, pos, negsuc}
use borrow.Author.Tests.{le-ltb, lt-ltb, le-leb}
use Rattle.quantity.specs.Limits.{inside, bulb}
use Rattle.vapour.specs.Exp.{top, bottom}
use Rattle.vapour.specs.Vapour.{Below, DewPoint, recorded_vapour, water}
use Rattle.vapour.specs.Tables.{tenth, Least, Reaches}
use Rattle.vapour.proofs.RangeLaws.{range_then}
use Rattle.vapour.proofs.DewLaws.{under, least_test, least_by_test, between, first, last}

-- ---- the least hundredth at each tenth

guess : ℤ → ℕ
unfolding top bottom
guess (pos m) =
    let p = water.factor * m in
    let q = 10000 * (water.offset + m) in
    water.scale * top p q 20 / (100 * bottom q 20) + 1
guess (negsuc n) =
    let p = water.factor * suc n in
    let q = 10000 * (water.offset - suc n) in
    water.scale * bottom q 20 / (100 * top p q 20) + 1

least : ℕ → ℕ
unfolding guess
least i = guess (under (tenth i))

tested : ℕ → Bool
unfolding least least_test
tested zero = true
tested (suc n) = least_test n (least n) && tested n

each : (n i : ℕ) → T (tested n) → i < n → T (least_test i (least i))
unfolding tested
each zero i t h = absurd (not-suc-le-zero h)
each (suc n) i t h =
    elim (dec_lt i n) [
      | yes l ↦ each n i (and_r (least_test n (least n)) (tested n) t) l
      | no l ↦ let e : i ≡ n = omega arith in rw e (and_l (least_test n (least n)) (tested n) t)
    ]

all : T (tested 902)
unfolding tested
all = tt

least_is : (i : ℕ) → i < 902 → Least i (least i)
least_is i h = least_by_test i (least i) (each 902 i all h)

-- ---- the last tenth whose hundredth e reaches

scan : (e n : ℕ) → n < 902 → Reaches e 0 → Below water (under (tenth n)) e 1 → (i : ℕ) × (i < n) × DewPoint e (tenth i)
scan e zero h a b = absurd (a b)
scan e (suc n) h a b =
    elim (dec_le (least n) e) [
      | yes l ↦ (n, omega arith, between e n ((least_is n (omega arith)).reached e l) (rw (add-one n) b))
      | no l ↦
          let r = scan e n (omega arith) a ((least_is n (omega arith)).short e (lt_of_not-le l)) in (r.0, omega (arith, r.1), r.2)
    ]

-- the place of a dew point
pub dew_place : (e : ℕ) → recorded_vapour e ≡ true → (i : ℕ) × (i < 901) × DewPoint e (tenth i)
dew_place e h = let r = range_then e h in scan e 901 (omega arith) (first e r.0) (last e r.1)

-- every tenth of the table is a bulb's
pub tenth_inside : (i : ℕ) → i < 901 → inside bulb (tenth i) ≡ true
tenth_inside i h =
    elim (dec_le 400 i) [
      | yes l ↦ let high : i - 400 ≤ 500 = omega arith in simp (le-ltb i 400 l, le-leb (i - 400) 500 high)
      | no l ↦
          let low : 400 - suc i ≤ 399 = omega arith in simp (lt-ltb i 400 (lt_of_not-le l), le-leb (400 - suc i) 399 low)
    ]
