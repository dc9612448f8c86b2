-- Each public contract of this crate allows a single answer: a tenth has one entry, and a pressure one dew point. Assumes nothing.
use Rattle.std.specs.Prelude.{Option, Some, None}
use mathlib.Core.Path.{◌≡◌, refl, sym, ap, ap₂, ◌∙◌}
use mathlib.Core.Bool.{Bool, true, false}
use Prim.Native.Nat.{ℕ}
use lib.IntN.{ℤ}
use Rattle.number.specs.Single.{Single}
use Rattle.number.specs.declared.Kept.{Kept}
use Rattle.number.proofs.SingleAnswers.{kept_by}
use Rattle.vapour.specs.Vapour.{AreSaturations, IsOverIce, IsDew, TellsDew, water, ice}
use Rattle.vapour.specs.declared.VapourPressure.{VapourPressure}
use Rattle.vapour.specs.declared.DewTemperature.{DewTemperature}
use Rattle.vapour.specs.declared.Saturations.{Saturations}
use Rattle.vapour.proofs.SaturationLaws.{near_one}
use Rattle.vapour.proofs.DewLaws.{dew_one}
use Rattle.vapour.proofs.RangeLaws.{not_both}
use Rattle.vapour.proofs.saturation.Reads as saturation
use Rattle.vapour.proofs.saturation_over_ice.Reads as over_ice_lem
use Rattle.vapour.proofs.dew_point.Reads as dew-point
use Rattle.vapour.proofs.is_dew_point.Reads as is-dew-point
use Rattle.vapour.proofs.VapourPressure.holds.Reads as vapour-pressure
use Rattle.vapour.proofs.relative_humidity.Reads as relative-humidity
use Rattle.vapour.proofs.deficit.Reads as deficit

pub pressure_by : {x y : VapourPressure} → x.0 ≡ y.0 → x ≡ y
pressure_by e = ap make e
  where
    make : ℕ → VapourPressure
    make n = record { 0 = n }

pub dew_by : {x y : DewTemperature} → x.0.v ≡ y.0.v → x ≡ y
dew_by e = ap make (kept_by e)
  where
    make : Kept → DewTemperature
    make k = record { 0 = k }

pub one_saturation : (dry wet : ℤ) (r r' : Option Saturations) → AreSaturations dry wet r → AreSaturations dry wet r' → r ≡ r'
one_saturation dry wet (Some s) (Some s') p q = ap Some (ap₂ make dries wets)
  where
    make : VapourPressure → VapourPressure → Saturations
    make dry wet = record { dry = dry; wet = wet }

    dries : s.dry ≡ s'.dry
    dries = pressure_by (near_one water dry s.dry.0 s'.dry.0 p.1 q.1)

    wets : s.wet ≡ s'.wet
    wets = pressure_by (near_one water wet s.wet.0 s'.wet.0 p.2 q.2)
one_saturation dry wet (Some s) None p q = absurd (not_both p.0 q)
one_saturation dry wet None (Some s) p q = absurd (not_both q.0 p)
one_saturation dry wet None None p q = refl

pub one_over_ice : (t : ℤ) (r r' : Option VapourPressure) → IsOverIce t r → IsOverIce t r' → r ≡ r'
one_over_ice t (Some e) (Some e') p q = ap Some (pressure_by (near_one ice t e.0 e'.0 p.1 q.1))
one_over_ice t (Some e) None p q = absurd (not_both p.0 q)
one_over_ice t None (Some e) p q = absurd (not_both q.0 p)
one_over_ice t None None p q = refl

pub one_dew : (e : ℕ) (r r' : Option DewTemperature) → IsDew e r → IsDew e r' → r ≡ r'
one_dew e (Some t) (Some t') p q = ap Some (dew_by (dew_one e t.0.v t'.0.v p.1 q.1))
one_dew e (Some t) None p q = absurd (not_both p.0 q)
one_dew e None (Some t) p q = absurd (not_both q.0 p)
one_dew e None None p q = refl

pub one_telling : (e : ℕ) (t : ℤ) (r r' : Bool) → TellsDew e t r → TellsDew e t r' → r ≡ r'
one_telling e t true true p q = refl
one_telling e t true false p q = absurd (q p.0 p.1)
one_telling e t false true p q = absurd (p q.0 q.1)
one_telling e t false false p q = refl

pub single_saturation : Single saturation.Post
single_saturation κs a r r' s s' p q = one_saturation a.0.0.v a.1.0.0.v r r' p q

pub single_over_ice : Single over_ice_lem.Post
single_over_ice κs a r r' s s' p q = one_over_ice a.0.0.v r r' p q

pub single_dew_point : Single dew-point.Post
single_dew_point κs a r r' s s' p q = one_dew a.0.0 r r' p q

pub single_is_dew_point : Single is-dew-point.Post
single_is_dew_point κs a r r' s s' p q = one_telling a.0.0 a.1.0.0.v r r' p q

pub single_vapour_pressure : Single vapour-pressure.Post
single_vapour_pressure κs a r r' s s' p q = p ∙ sym q

pub single_relative_humidity : Single relative-humidity.Post
single_relative_humidity κs a r r' s s' p q = p ∙ sym q

pub single_deficit : Single deficit.Post
single_deficit κs a r r' s s' p q = pressure_by (p ∙ sym q)
