-- `by_state` meets its contract: a wet bulb outside the table over ice is above 0.0. Assumes nothing.
use mathlib.Core.Path.{◌≡◌, refl, subst, sym}
use mathlib.Core.Bool.{true, false}
use Rattle.std.specs.Prelude.{Err}
use Prim.Native.Nat.{ℕ}
use Rattle.quantity.specs.Limits.{inside, frost}
use Rattle.quantity.specs.declared.BulbState.{BulbState}
use Rattle.quantity.specs.declared.BulbState.TheVariants.{Ice, Unknown}
use Rattle.humidity.specs.Humidity.{too_warm_for_ice}
use Rattle.humidity.specs.Parts.{Tabled, Decides}
use Rattle.humidity.specs.declared.Air.{Air}
use Rattle.humidity.specs.declared.HumidityRefusal.TheVariants.{TooWarmForIce}
use Rattle.humidity.proofs.VapourPressureLaws.{within}
use Rattle.humidity.proofs.IceLaws.{warm}
use Rattle.humidity.proofs.MoistureLaws.{too_warm}
use Rattle.humidity.proofs.by_state.Goals as goal

module _ (air : Air) (w : ℕ) (t : Tabled air w) (out : inside frost air.wet.0.v ≡ false) where
  above_zero : too_warm_for_ice Ice air.wet.0.v ≡ true
  above_zero = warm air.wet.0.v (within air.dry.0.v air.wet.0.v air.pressure.0.v air.a.0.v t.limits).in_wet out

  no_ice : (s : BulbState) → s ≡ Ice → Decides s air (Err TooWarmForIce)
  no_ice s e = subst (λ (s : BulbState). Decides s air (Err TooWarmForIce)) (sym e) (λ d near. too_warm Ice _ _ _ _ d t.limits near refl above_zero)

  no_doubtful_ice : (s : BulbState) → s ≡ Unknown → Decides s air (Err TooWarmForIce)
  no_doubtful_ice s e = subst (λ (s : BulbState). Decides s air (Err TooWarmForIce)) (sym e) (λ d near. too_warm Unknown _ _ _ _ d t.limits near refl above_zero)

pub returns-in-None : goal.returns-in-None
returns-in-None c = no_ice c.args.air c.args.w c.requires c.in-None.ensures c.args.state c.in-Ice.is

pub returns-in-None-saturation_over_ice : goal.returns-in-None-saturation_over_ice
returns-in-None-saturation_over_ice c =
    no_doubtful_ice c.args.air c.args.w c.requires c.in-None-saturation_over_ice.ensures c.args.state c.in-Unknown.is
