-- `on_ice` meets its contract: e decides. Assumes nothing.
use mathlib.Core.Path.{refl, ap, subst, ◌∙◌}
use native.Mathlib.Omega.{arith}
use lib.IntN.{ℤ}
use Rattle.number.specs.Round.{rounded}
use Rattle.quantity.specs.declared.BulbState.TheVariants.{Ice}
use Rattle.humidity.specs.Humidity.{parts, vapour_pressure}
use Rattle.humidity.specs.Parts.{IsByVapour}
use Rattle.humidity.proofs.VapourPressureLaws.{sized}
use Rattle.humidity.proofs.MoistureLaws.{by_vapour_lem}
use Rattle.humidity.proofs.IceLaws.{ice_range, cold}
use Rattle.humidity.proofs.on_ice.Goals as goal

pub exact-over_ice-requires : goal.exact-over_ice-requires
exact-over_ice-requires c = (ice_range c.args.air c.args.i c.requires, omega arith, sized c.args.air c.requires.limits)

pub returns : goal.returns
unfolding vapour_pressure
returns c d near m is =
    let x = c.args.air in
    by_vapour_lem Ice x.dry.0.v x.wet.0.v x.pressure.0.v x.a.0.v d c.requires.limits near 0 c.args.i c.requires.near
    refl (cold x c.args.i c.requires) refl m
    (subst (λ (e : ℤ). IsByVapour e d m) (c.over.ensures.value ∙ ap (λ (z : ℤ). rounded z parts) c.exact-over_ice.ensures.value) is)
