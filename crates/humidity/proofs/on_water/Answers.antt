-- `on_water` meets its contract: 13, and then e decides. Assumes nothing.
use mathlib.Core.Path.{refl, ap, subst, ◌∙◌}
use lib.IntN.{ℤ}
use Rattle.std.proofs.Common.{rules}
use Rattle.number.specs.Round.{rounded}
use Rattle.quantity.specs.declared.BulbState.TheVariants.{Water}
use Rattle.vapour.proofs.TableLaws.{entry_range}
use Rattle.humidity.specs.Humidity.{exact, parts, vapour_pressure}
use Rattle.humidity.specs.Parts.{IsByVapour}
use Rattle.humidity.proofs.VapourPressureLaws.{within, sized}
use Rattle.humidity.proofs.MoistureLaws.{above, by_vapour_lem}
use Rattle.humidity.proofs.on_water.Goals as goal

pub returns-then-gt : goal.returns-then-gt
returns-then-gt c d near =
    let x = c.args.air in
    above Water x.dry.0.v x.wet.0.v x.pressure.0.v x.a.0.v d c.requires.limits near c.args.w 0 c.requires.near_wet (search rules)

pub exact-over_water-requires : goal.exact-over_water-requires
exact-over_water-requires c =
    let x = c.args.air in (
      (entry_range x.wet.0.v c.args.w (within x.dry.0.v x.wet.0.v x.pressure.0.v x.a.0.v c.requires.limits).in_wet c.requires.near_wet).1,
      c.water_factor.ensures.size,
      sized x c.requires.limits,
    )

pub returns : goal.returns
unfolding vapour_pressure
returns c d near m is =
    let x = c.args.air in
    by_vapour_lem Water x.dry.0.v x.wet.0.v x.pressure.0.v x.a.0.v d c.requires.limits near c.args.w 0 c.requires.near_wet
    (search rules) refl refl m
    (subst (λ (e : ℤ). IsByVapour e d m)
    (c.over.ensures.value
    ∙ ap (λ (z : ℤ). rounded z parts)
    (c.exact-over_water.ensures.value ∙ ap (λ (f : ℤ). exact c.args.w f x.a.0.v x.pressure.0.v x.dry.0.v x.wet.0.v) c.water_factor.ensures.value))
    is)
