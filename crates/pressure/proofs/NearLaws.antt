-- A pressure that is worked from a reading lies near it: sums, products and quotients keep it among numbers that are known. Assumes
-- nothing.
use mathlib.Core.Path.{◌≡◌, refl}
use mathlib.Core.Bool.{Bool, true, false}
use Prim.Native.Nat.{ℕ, zero, suc, ◌+◌, ◌-◌, ◌*◌, ◌≤◌, ◌<◌}
use native.Mathlib.Omega.{arith}
use native.Mathlib.Nat.{mul-le-mul_right}
use lib.Dec.{ltb, lit≤, lit<}
use lib.IntN.{ℤ, pos, negsuc, nat_abs, ◌+ℤ◌, ◌-ℤ◌, ◌*ℤ◌}
use lib.Signed.{le_z}
use borrow.Author.Tests.{ltb-true, ltb-false, le-leb, leb-true, le-ltb}
use Rattle.number.specs.Whole.{within}
use Rattle.number.specs.Round.{nearest, rounded}
use Rattle.number.proofs.Sizes.{never, and_true}
use Rattle.number.proofs.RoundLaws.{nearest_monotone}
use Rattle.quantity.specs.Limits.{inside, pressure_limits, recorded_pressure}
use Rattle.quantity.specs.declared.BarometerUnit.{BarometerUnit}
use Rattle.quantity.specs.declared.BarometerUnit.TheVariants.{Hectopascals, Millimetres}
use Rattle.pressure.specs.Pressure.{per_metre, to_hectopascals, rounded_once}

-- z is a natural number between low and high
pub record Among (low high : ℕ) (z : ℤ) : Type 0 where
  pub figure : ℕ
  pub is : z ≡ pos figure
  pub from : low ≤ figure
  pub to : figure ≤ high

-- moved by at most k
moved : (low high k : ℕ) (z d : ℤ) → Among (low + k) high z → nat_abs d ≤ k → Among low (high + k) (z +ℤ d)
moved low high k z d a h = rw a.is (go d h)
  where
    n : ℕ
    n = a.figure

    go : (d : ℤ) → nat_abs d ≤ k → Among low (high + k) (pos n +ℤ d)
    go (pos m) h = record { figure = n + m; is = refl; from = omega (arith, a.from); to = omega (arith, a.to) }
    go (negsuc m) h =
        record {
          figure = n - suc m;
          is = rw (le-ltb n (suc m) (omega (arith, a.from)));
          from = omega (arith, a.from);
          to = omega (arith, a.to);
        }

-- a reading
reading : (low high : ℕ) (z : ℤ) → within (pos low) (pos high) z ≡ true → Among low high z
reading low high z i = go z i
  where
    go : (z : ℤ) → within (pos low) (pos high) z ≡ true → Among low high z
    go (pos n) i =
        let b = and_true (le_z (pos low) (pos n)) (le_z (pos n) (pos high)) i in
        record { figure = n; is = refl; from = leb-true low n b.0; to = leb-true n high b.1 }
    go (negsuc n) i = never i

-- times so much
multiplied : {low high : ℕ} (k : ℕ) {z : ℤ} → Among low high z → Among (low * k) (high * k) (z *ℤ pos k)
multiplied k a =
    rw a.is (record { figure = a.figure * k; is = refl; from = mul-le-mul_right k a.from; to = mul-le-mul_right k a.to })

-- divided by so much and rounded
divided : {low high : ℕ} (d : ℕ) → 0 < d → {z : ℤ} → Among low high z → Among (nearest low d) (nearest high d) (rounded z d)
unfolding rounded
divided {low} {high} d h a =
    rw a.is (
    record {
      figure = nearest a.figure d;
      is = refl;
      from = nearest_monotone low d a.figure d h h (mul-le-mul_right d a.from);
      to = nearest_monotone a.figure d high d h h (mul-le-mul_right d a.to);
    })

wider : {low high lower higher : ℕ} {z : ℤ} → Among low high z → lower ≤ low → high ≤ higher → Among lower higher z
wider a l h = record { figure = a.figure; is = a.is; from = omega (arith, a.from); to = omega (arith, a.to) }

pub recorded : {low high : ℕ} {z : ℤ} → Among low high z → 8000 ≤ low → high ≤ 11500 → inside recorded_pressure z ≡ true
recorded a l h = rw (a.is, le-leb 8000 a.figure (omega (arith, a.from)), le-leb a.figure 11500 (omega (arith, a.to)))

-- two that lie among the same numbers are no further apart than those reach
pub near : (m n k : ℕ) → m ≤ n + k → n ≤ m + k → nat_abs (pos m -ℤ pos n) ≤ k
near m zero k h l = omega arith
near m (suc n) k h l = go (ltb m (suc n)) refl
  where
    go : (t : Bool) → ltb m (suc n) ≡ t → nat_abs (pos m -ℤ pos (suc n)) ≤ k
    go true e = rw e (omega (arith, ltb-true m (suc n) e))
    go false e = rw e (omega (arith, ltb-false m (suc n) e))

pub apart : {low high : ℕ} {z w : ℤ} (k : ℕ) → Among low high z → Among low high w → high ≤ low + k → nat_abs (z -ℤ w) ≤ k
apart k a c h = rw (a.is, c.is) (near a.figure c.figure k (omega (arith, a.to, c.from)) (omega (arith, a.from, c.to)))

-- ---- the sums, by the unit

-- the reading with its scale and temperature corrections, in tenths of the unit
abbrev pub fewest : BarometerUnit → ℕ
fewest Hectopascals = 8420
fewest Millimetres = 6320

abbrev pub most : BarometerUnit → ℕ
most Hectopascals = 11080
most Millimetres = 8330

pub tenths_near : (u : BarometerUnit) (r s t : ℤ) → inside (pressure_limits u) r ≡ true → nat_abs s ≤ 50 → nat_abs t ≤ 30 → Among (fewest u) (most u) (r +ℤ s +ℤ t)
tenths_near Hectopascals r s t i x y = moved 8420 11050 30 (r +ℤ s) t (moved 8450 11000 50 r s (reading 8500 11000 r i) x) y
tenths_near Millimetres r s t i x y = moved 6320 8300 30 (r +ℤ s) t (moved 6350 8250 50 r s (reading 6400 8250 r i) x) y

-- "(H + difference) times 0.133 hPa or 0.1 mm Hg", at most 60.0 and 30.0 m
pub sea_level_near : (u : BarometerUnit) (z h : ℤ) → Among (fewest u) (most u) z → nat_abs h ≤ 900 * per_metre u → Among 8300 11226 (rounded_once u (z *ℤ pos 1000 +ℤ h))
unfolding nearest rounded
sea_level_near Hectopascals z h a w =
    let all = moved 8300300 11080000 119700 (z *ℤ pos 1000) h (multiplied 1000 a) w in
    wider (divided 10000000 (lit< tt) (multiplied 10000 all)) (lit≤ tt) (lit≤ tt)
sea_level_near Millimetres z h a w =
    let all = moved 6230000 8330000 90000 (z *ℤ pos 1000) h (multiplied 1000 a) w in
    wider (divided 10000000 (lit< tt) (multiplied 13332 all)) (lit≤ tt) (lit≤ tt)

pub station_near : (u : BarometerUnit) (r s : ℤ) → inside (pressure_limits u) r ≡ true → nat_abs s ≤ 50 → Among 8450 11066 (to_hectopascals u (r +ℤ s))
unfolding nearest
station_near Hectopascals r s i x = wider (moved 8450 11000 50 r s (reading 8500 11000 r i) x) (lit≤ tt) (lit≤ tt)
station_near Millimetres r s i x =
    wider (divided 10000 (lit< tt) (multiplied 13332 (moved 6350 8250 50 r s (reading 6400 8250 r i) x))) (lit≤ tt) (lit≤ tt)
