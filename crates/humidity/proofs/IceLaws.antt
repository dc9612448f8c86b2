-- A wet bulb under ice: 20 does not hold of it, as it does of any other, and its entry is small. Assumes nothing.
use mathlib.Core.Path.{◌≡◌, refl, ap, subst, sym, ◌∙◌}
use mathlib.Core.Bool.{Bool, true, false, not}
use Prim.Native.Nat.{ℕ, ◌≤◌}
use native.Mathlib.Omega.{arith}
use lib.Dec.{T}
use lib.IntN.{ℤ}
use lib.Signed.{le_z}
use Rattle.number.proofs.Sizes.{never, and_true, both}
use Rattle.quantity.specs.Limits.{inside, bulb, frost}
use Rattle.vapour.specs.Vapour.{Near, ice, highest_vapour}
use Rattle.vapour.proofs.SaturationLaws.{near_test, near_by_test, near_rises}
use Rattle.humidity.specs.Parts.{Frozen}
use Rattle.humidity.specs.declared.Air.{Air}

-- a wet bulb within its limits and not under ice is above 0.0
pub warm : (wet : ℤ) → inside bulb wet ≡ true → inside frost wet ≡ false → not (le_z wet frost.high) ≡ true
warm wet b f = go (le_z wet frost.high) refl
  where
    go : (c : Bool) → le_z wet frost.high ≡ c → not (le_z wet frost.high) ≡ true
    go true e = never (sym f ∙ both (and_true (le_z bulb.low wet) (le_z wet bulb.high) b).0 e)
    go false e = ap not e

module _ (air : Air) (i : ℕ) (f : Frozen air i) where
  under : le_z air.wet.0.v frost.high ≡ true
  under = (and_true (le_z frost.low air.wet.0.v) (le_z air.wet.0.v frost.high) f.within).1

  pub cold : not (le_z air.wet.0.v frost.high) ≡ false
  cold = ap not under

  last : Near ice frost.high 611
  unfolding near_test
  last = near_by_test ice frost.high 611 tt

  pub ice_range : i ≤ highest_vapour
  ice_range =
      let l = near_rises ice (omega arith, omega arith) air.wet.0.v frost.high i 611 (record { le = subst T (sym under) tt }) f.near last in
      omega arith
