-- What the range of e and of saturation says of them, and relative humidity in it. Assumes nothing.
use mathlib.Core.Path.{◌≡◌}
use mathlib.Core.Bool.{Bool, true, false}
use Prim.Native.Nat.{ℕ, ◌*◌, ◌≤◌, ◌<◌}
use native.Mathlib.Nat.{mul-le-mul_left, mul-le-mul_right}
use native.Mathlib.Omega.{arith}
use lib.Dec.{leb}
use borrow.Author.Tests.{leb-true, le-leb, ne_eqb}
use Rattle.number.specs.Round.{nearest}
use Rattle.number.proofs.RoundLaws.{nearest_monotone, nearest_whole}
use Rattle.number.proofs.Sizes.{and_true, impossible}
use Rattle.vapour.specs.Vapour.{lowest_vapour, highest_vapour, recorded_vapour, relative_humidity}

-- a test has one answer
pub not_both : {b : Bool} → b ≡ true → b ≡ false → ⊥
not_both p q = impossible (cc)

pub in_range : (n : ℕ) → lowest_vapour ≤ n → n ≤ highest_vapour → recorded_vapour n ≡ true
in_range n l h = rw (le-leb lowest_vapour n l, le-leb n highest_vapour h)

pub range_then : (n : ℕ) → recorded_vapour n ≡ true → (lowest_vapour ≤ n) × (n ≤ highest_vapour)
range_then n h =
    let both = and_true (leb lowest_vapour n) (leb n highest_vapour) h in
    (leb-true lowest_vapour n both.0, leb-true n highest_vapour both.1)

-- 100 e / saturation, where there is one
pub relative_is : (e s : ℕ) → 0 < s → relative_humidity e s ≡ nearest (100 * e) s
relative_is e s h = rw (ne_eqb s 0 (omega arith))

-- and where e is not above it, at most 100
pub relative_most : (e s : ℕ) → 0 < s → e ≤ s → relative_humidity e s ≤ 100
relative_most e s h l =
    let near = nearest_monotone (100 * e) s (100 * s) s h h (mul-le-mul_right s (mul-le-mul_left 100 l)) in
    omega (arith, relative_is e s h, nearest_whole 100 s h)
