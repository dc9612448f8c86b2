-- Over water the vapour pressure never exceeds the wet bulb's entry, nor saturation at the dry bulb: each factor of what it lies under
-- the entry is not below zero, rounding keeps the order, and entries rise. And a wet bulb has one vapour pressure, whatever its state.
-- Assumes nothing.
use mathlib.Core.Path.{◌≡◌, refl, sym, ap, subst}
use mathlib.Core.Bool.{Bool, true, false, not, ◌&&◌}
use Prim.Native.Nat.{ℕ, suc, ◌*◌, ◌<◌, ◌≤◌, zero-le}
use native.Mathlib.Nat.{mul-le-mul_right}
use native.Mathlib.Omega.{arith}
use lib.Dec.{T, leb→le, le→leb}
use lib.IntN.{ℤ, pos, negsuc, neg_ℤ, nat_abs, ◌-ℤ◌, ◌*ℤ◌}
use lib.Signed.{le_z, ◌≤ℤ◌}
use borrow.Author.Tests.{leb-true, not-false}
use Rattle.number.specs.Round.{nearest, rounded}
use Rattle.number.proofs.RoundLaws.{nearest_whole, nearest_monotone}
use Rattle.number.proofs.Sizes.{and_true, impossible, natural, within_size}
use Rattle.quantity.specs.Limits.{inside, bulb, recorded_pressure}
use Rattle.quantity.specs.declared.BulbState.{BulbState}
use Rattle.quantity.specs.declared.BulbState.TheVariants.{Water, Ice, Unknown}
use Rattle.settings.specs.Settings.{psychrometer}
use Rattle.vapour.specs.Vapour.{Near, lowest_vapour, water, ice}
use Rattle.vapour.proofs.UpDown.{up, down, le_then, then_le, of_minus, of_sum, of_times, from_zero}
use Rattle.vapour.proofs.SaturationLaws.{table_rises, near_one}
use Rattle.humidity.specs.Humidity.{water_factor, ice_factor, parts, less_by, exact, vapour_pressure, EntriesFor, wet_above_dry, above_saturation, within_limits}
use Rattle.humidity.specs.Parts.{in_limits, Sized}
use Rattle.humidity.specs.declared.Air.{Air}

-- a test that passed, as an order
ordered : (s t : ℤ) → le_z s t ≡ true → s ≤ℤ t
ordered s t e = record { le = subst T (sym e) tt }

-- ---- the limits

pub record Within (dry wet p a : ℤ) : Type 0 where
  pub in_dry : inside bulb dry ≡ true
  pub in_wet : inside bulb wet ≡ true
  pub in_p : inside recorded_pressure p ≡ true
  pub in_a : inside psychrometer a ≡ true

pub within : (dry wet p a : ℤ) → within_limits dry wet p a ≡ true → Within dry wet p a
within dry wet p a e =
    let x = and_true (inside bulb dry && inside bulb wet) (inside recorded_pressure p && inside psychrometer a) e in
    let y = and_true (inside bulb dry) (inside bulb wet) x.0 in
    let z = and_true (inside recorded_pressure p) (inside psychrometer a) x.1 in
    record { in_dry = y.0; in_wet = y.1; in_p = z.0; in_a = z.1 }

bulb_size : (t : ℤ) → inside bulb t ≡ true → nat_abs t ≤ nat_abs bulb.high
bulb_size t h = within_size bulb.low bulb.high t (nat_abs bulb.high) (omega arith) (omega arith) h

pub sized : (air : Air) → in_limits air ≡ true → Sized air
sized air l =
    let p = air.pressure.0.v in
    let a = air.a.0.v in
    let w = within air.dry.0.v air.wet.0.v p a l in
    record {
      size_dry = bulb_size air.dry.0.v w.in_dry;
      size_wet = bulb_size air.wet.0.v w.in_wet;
      size_p = within_size recorded_pressure.low recorded_pressure.high p (nat_abs recorded_pressure.high) (omega arith) (omega arith) w.in_p;
      size_a = within_size psychrometer.low psychrometer.high a (nat_abs psychrometer.high) (omega arith) (omega arith) w.in_a;
    }

-- ---- what e lies under the entry

-- dry - wet, where the wet bulb is not above
difference : (dry wet : ℤ) → le_z wet dry ≡ true → dry -ℤ wet ≡ pos (up (dry -ℤ wet))
difference dry wet e =
    from_zero (dry -ℤ wet) (omega (arith, of_sum dry (neg_ℤ wet), of_minus wet, le_then wet dry (ordered wet dry e)))

down_size : (t : ℤ) → down t ≤ nat_abs t
down_size (pos n) = zero-le
down_size (negsuc n) = omega arith

-- 1 + 0.00115 wet, in millionths
growth : (wet : ℤ) → nat_abs wet ≤ nat_abs bulb.high → water_factor wet ≡ pos (up (water_factor wet))
growth wet h =
    from_zero (water_factor wet) (omega (arith, of_sum (pos 1000000) (pos 115 *ℤ wet), of_times 115 wet, down_size wet))

not_below : (dry wet p a : ℤ) → Within dry wet p a → le_z wet dry ≡ true → (n : ℕ) × (less_by (water_factor wet) a p dry wet ≡ pos n)
not_below dry wet p a w e = (
  nat_abs a * nat_abs p * up (dry -ℤ wet) * up (water_factor wet),
  rw (
    sym (natural (nat_abs psychrometer.low) psychrometer.high a w.in_a),
    sym (natural (nat_abs recorded_pressure.low) recorded_pressure.high p w.in_p),
    difference dry wet e,
    growth wet (bulb_size wet w.in_wet),
  ),
)

-- ---- e

-- over water it is rounded once: the rest before that is exact
rounded_once_lem : (w i : ℕ) (a p dry wet : ℤ) → vapour_pressure Water w i a p dry wet ≡ rounded (exact w (water_factor wet) a p dry wet) parts
unfolding vapour_pressure
rounded_once_lem w i a p dry wet = refl

-- what is at most a whole number rounds to at most it
rounded_under : (z : ℤ) (n d : ℕ) → 0 < d → z ≤ℤ pos (n * d) → rounded z d ≤ℤ pos n
unfolding rounded
rounded_under (pos m) n d h l =
    let near = nearest_monotone m d (n * d) d h h (mul-le-mul_right d (leb→le m (n * d) l.le)) in
    record { le = le→leb (nearest m d) n (omega (arith, nearest_whole n d h)) }
rounded_under (negsuc m) n d h l =
    let z = neg_ℤ (pos (nearest (suc m) d)) in
    then_le z (pos n) (omega (arith, of_minus (pos (nearest (suc m) d))))

less : (w n : ℕ) → (pos w -ℤ pos n) ≤ℤ pos w
less w n = then_le (pos w -ℤ pos n) (pos w) (omega (arith, of_sum (pos w) (neg_ℤ (pos n)), of_minus (pos n)))

under_entry : (dry wet p a : ℤ) (w i : ℕ) → Within dry wet p a → le_z wet dry ≡ true → vapour_pressure Water w i a p dry wet ≤ℤ pos w
under_entry dry wet p a w i l e =
    let n = not_below dry wet p a l e in
    rw (rounded_once_lem w i a p dry wet, n.1) (rounded_under (pos (w * parts) -ℤ pos n.0) w parts (omega arith) (less (w * parts) n.0))

holds : (b : Bool) → T b → b ≡ true
holds true t = refl
holds false t = absurd t

-- With water on the wick 22 never holds where 7 and 13 do not.
pub water_under : (dry wet p a : ℤ) (d w i : ℕ) → within_limits dry wet p a ≡ true → wet_above_dry Water dry wet ≡ false → Near water dry d → Near water wet w
    → above_saturation d (vapour_pressure Water w i a p dry wet) ≡ false
water_under dry wet p a d w i l x nd nw =
    let e = vapour_pressure Water w i a p dry wet in
    let o = not-false (le_z wet dry) x in
    let u = le_then e (pos w) (under_entry dry wet p a w i (within dry wet p a l) o) in
    let r = table_rises wet dry w d (ordered wet dry o) nw nd in
    let b = then_le e (pos d) (omega arith) in
    ap not (holds (le_z e (pos d)) b.le)

-- e as a whole number of hundredths, where it is not too dry
pub whole_e : (z : ℤ) → le_z (pos lowest_vapour) z ≡ true → (pos (nat_abs z) ≡ z) × (lowest_vapour ≤ nat_abs z)
whole_e (pos n) e = (refl, leb-true lowest_vapour n e)
whole_e (negsuc n) e = impossible (cc)

-- a wet bulb has one vapour pressure: its state asks for entries that it has
module _ (a p dry wet : ℤ) (w i w' i' : ℕ) where
  pub one_e : (s : BulbState) → EntriesFor s wet w i → EntriesFor s wet w' i' → vapour_pressure s w i a p dry wet ≡ vapour_pressure s w' i' a p dry wet
  unfolding vapour_pressure
  one_e Water x y = ap (λ (n : ℕ). rounded (exact n (water_factor wet) a p dry wet) parts) (near_one water wet w w' x y)
  one_e Ice x y = ap (λ (n : ℕ). rounded (exact n ice_factor a p dry wet) parts) (near_one ice wet i i' x y)
  one_e Unknown x y = rw (near_one water wet w w' x.0 y.0, near_one ice wet i i' x.1 y.1)
