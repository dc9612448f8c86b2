-- `in_doubt` meets its contract: 21, then e over ice or the mean of both decides. Assumes nothing.
use mathlib.Core.Path.{◌≡◌, refl, sym, ap, ap₂, subst, ◌∙◌}
use mathlib.Core.Bool.{Bool, true, false, not}
use Prim.Native.Nat.{ℕ, ◌*◌}
use native.Mathlib.Omega.{arith}
use lib.IntN.{ℤ, ◌+ℤ◌}
use lib.Signed.{le_z}
use Rattle.std.specs.Prelude.{Result}
use Rattle.std.proofs.Common.{rules}
use Rattle.number.specs.Round.{rounded}
use Rattle.quantity.specs.Limits.{inside, doubtful}
use Rattle.quantity.specs.declared.BulbState.TheVariants.{Unknown}
use Rattle.vapour.specs.Vapour.{Near, water}
use Rattle.vapour.proofs.TableLaws.{entry_range}
use Rattle.humidity.specs.Humidity.{exact, parts, vapour_pressure, unknown_outside}
use Rattle.humidity.specs.Parts.{IsByVapour, Comes}
use Rattle.humidity.specs.declared.HumidityFigures.{HumidityFigures}
use Rattle.humidity.specs.declared.HumidityRefusal.{HumidityRefusal}
use Rattle.humidity.proofs.VapourPressureLaws.{within, sized}
use Rattle.humidity.proofs.MoistureLaws.{no_doubt, by_vapour_lem}
use Rattle.humidity.proofs.IceLaws.{ice_range, cold}
use Rattle.humidity.proofs.in_doubt.Goals as goal
use Rattle.humidity.proofs.in_doubt.Goals.{Start}

-- what the range function says of the number that was read, it says of the dry bulb
doubt : {x t : ℤ} {r b : Bool} → x ≡ t → r ≡ inside doubtful x → r ≡ b → unknown_outside Unknown t ≡ not b
doubt e h k = ap not (sym (ap (inside doubtful) e) ∙ sym h ∙ k)

-- where the air leaves doubt, e and saturation decide
decide : (c : Start) → let x = c.args.air in unknown_outside Unknown x.dry.0.v ≡ false → (e : ℤ) (d : ℕ) (m : Result HumidityFigures HumidityRefusal) →
    e ≡ vapour_pressure Unknown c.args.w c.args.i x.a.0.v x.pressure.0.v x.dry.0.v x.wet.0.v → Near water x.dry.0.v d → IsByVapour e d m → Comes Unknown x m
decide c doubt e d m h near is =
    let x = c.args.air in
    let t = c.requires.0 in
    by_vapour_lem Unknown x.dry.0.v x.wet.0.v x.pressure.0.v x.a.0.v d t.limits near c.args.w c.args.i (t.near_wet, c.requires.1.near)
    refl (cold x c.args.i c.requires.1) doubt m (subst (λ (z : ℤ). IsByVapour z d m) h is)

pub returns-then-not-leaves_doubt : goal.returns-then-not-leaves_doubt
returns-then-not-leaves_doubt c d near =
    let x = c.args.air in
    let t = c.requires.0 in
    no_doubt Unknown x.dry.0.v x.wet.0.v x.pressure.0.v x.a.0.v d t.limits near c.args.w c.args.i (t.near_wet, c.requires.1.near)
    refl (cold x c.args.i c.requires.1) (doubt c.number.ensures.value c.leaves_doubt.ensures c.if-not-leaves_doubt.true)

pub exact-over_ice-requires : goal.exact-over_ice-requires
exact-over_ice-requires c = (ice_range c.args.air c.args.i c.requires.1, omega arith, sized c.args.air c.requires.0.limits)

pub returns-then-le : goal.returns-then-le
unfolding vapour_pressure
returns-then-le c d near m is =
    decide (goal.at.returns-then-le c).Start (doubt c.number.ensures.value c.leaves_doubt.ensures c.if-not-leaves_doubt.false) c.over.result.v d m
    (let warm : le_z c.args.air.dry.0.v c.args.air.wet.0.v ≡ true = search rules in
    rw warm
    (c.over.ensures.value ∙ ap (λ (z : ℤ). rounded z parts) c.exact-over_ice.ensures.value))
    near is

pub exact-over_water-requires : goal.exact-over_water-requires
exact-over_water-requires c =
    let x = c.args.air in
    let t = c.requires.0 in (
      (entry_range x.wet.0.v c.args.w (within x.dry.0.v x.wet.0.v x.pressure.0.v x.a.0.v t.limits).in_wet t.near_wet).1,
      c.water_factor.ensures.size,
      sized x t.limits,
    )

pub returns : goal.returns
unfolding vapour_pressure
returns c d near m is =
    let x = c.args.air in
    decide (goal.at.returns c).Start (doubt c.number.ensures.value c.leaves_doubt.ensures c.if-not-leaves_doubt.false) c.over-2.result.v d m
    (let cooler : le_z x.dry.0.v x.wet.0.v ≡ false = search rules in
    rw cooler
    (c.over-2.ensures.value
    ∙ ap (λ (z : ℤ). rounded z (2 * parts))
    (c.plus.ensures.value
    ∙ ap₂ ◌+ℤ◌
    (c.exact-over_water.ensures.value ∙ ap (λ (f : ℤ). exact c.args.w f x.a.0.v x.pressure.0.v x.dry.0.v x.wet.0.v) c.water_factor.ensures.value)
    c.exact-over_ice.ensures.value)))
    near is
