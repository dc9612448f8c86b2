-- The public contract of this crate allows a single answer: a bulb has one entry, so the tests are the same, and a refusal
-- depends on nothing else; figures follow from the entries, and a pressure has one dew point. Assumes nothing.
use Rattle.std.specs.Prelude.{Result, Ok, Err}
use mathlib.Core.Path.{◌≡◌, refl, sym, ap, subst, ◌∙◌}
use mathlib.Core.Bool.{Bool, true, false, cond}
use Prim.Native.Nat.{ℕ}
use lib.Dec.{eqb}
use lib.IntN.{ℤ, pos, nat_abs}
use Rattle.number.specs.Single.{Single}
use Rattle.number.specs.Refusal.{Answer, refused, given, answer}
use Rattle.number.proofs.RefusalLaws.{refused_then, then_refused}
use Rattle.quantity.specs.declared.BulbState.{BulbState}
use Rattle.vapour.specs.Vapour.{water}
use Rattle.vapour.specs.declared.VapourPressure.{VapourPressure}
use Rattle.vapour.specs.declared.DewTemperature.{DewTemperature}
use Rattle.vapour.proofs.SaturationLaws.{near_one}
use Rattle.vapour.proofs.DewLaws.{dew_one}
use Rattle.vapour.proofs.SingleAnswers.{pressure_by, dew_by}
use Rattle.humidity.specs.Humidity.{vapour_pressure, too_warm_for_ice, within_limits, tests, moisture_as, IsHumidity, IsMoisture}
use Rattle.humidity.specs.declared.HumidityFigures.{HumidityFigures}
use Rattle.humidity.specs.declared.HumidityRefusal.{HumidityRefusal}
use Rattle.humidity.specs.declared.HumidityRefusal.TheVariants.{WetAboveDry, TooWarmForIce, UnknownOutsideRange, AboveSaturation, TooDry, OutsideLimits}
use Rattle.humidity.proofs.VapourPressureLaws.{one_e}
use Rattle.humidity.proofs.HumidityTheorems.{figured_then}
use Rattle.humidity.proofs.humidity.Reads as humidity

-- ---- figures

make : VapourPressure → VapourPressure → VapourPressure → ℕ → DewTemperature → HumidityFigures
make e s d r t = record { e = e; saturation = s; deficit = d; relative = r; dew = t }

figures_by_lem : {h k : HumidityFigures} → h.e ≡ k.e → h.saturation ≡ k.saturation → h.deficit ≡ k.deficit → h.relative ≡ k.relative → h.dew ≡ k.dew → h ≡ k
unfolding make
figures_by_lem {h} {k} a b c d e = all
  where
    all : make h.e h.saturation h.deficit h.relative h.dew ≡ make k.e k.saturation k.deficit k.relative k.dew
    all = cc

pub one_humidity : (s : BulbState) (dry wet p a : ℤ) (h k : HumidityFigures) → IsHumidity s dry wet p a h → IsHumidity s dry wet p a k → h ≡ k
one_humidity state dry wet p a h k x y =
    let z : pos h.e.0 ≡ pos k.e.0 = x.e ∙ one_e a p dry wet x.w x.i y.w y.i state x.entries y.entries ∙ sym y.e in
    let e : h.e.0 ≡ k.e.0 = ap nat_abs z in
    let s : h.saturation.0 ≡ k.saturation.0 = near_one water dry h.saturation.0 k.saturation.0 x.saturation y.saturation in
    figures_by_lem
    (pressure_by e)
    (pressure_by s)
    (pressure_by (x.follow.deficit ∙ rw (e, s) (sym y.follow.deficit)))
    (x.follow.relative ∙ rw (e, s) (sym y.follow.relative))
    (dew_by (dew_one k.e.0 h.dew.0.v k.dew.0.v (rw e at x.follow.dew) y.follow.dew))

-- ---- refusals

pub case_of : Answer ℕ HumidityFigures → Result HumidityFigures HumidityRefusal
case_of (refused n) =
    cond (eqb n 7) (Err OutsideLimits)
    (cond (eqb n 13) (Err WetAboveDry)
    (cond (eqb n 20) (Err TooWarmForIce)
    (cond (eqb n 21) (Err UnknownOutsideRange)
    (cond (eqb n 22) (Err AboveSaturation)
    (Err TooDry)))))
case_of (given h) = Ok h

pub case_back : (m : Result HumidityFigures HumidityRefusal) → case_of (moisture_as m) ≡ m
unfolding case_of
case_back (Ok h) = refl
case_back (Err WetAboveDry) = refl
case_back (Err TooWarmForIce) = refl
case_back (Err UnknownOutsideRange) = refl
case_back (Err AboveSaturation) = refl
case_back (Err TooDry) = refl
case_back (Err OutsideLimits) = refl

-- an answer that tells figures is given with them
pub is_given_lem : (m : Result HumidityFigures HumidityRefusal) (h : HumidityFigures) → moisture_as m ≡ given h → m ≡ Ok h
unfolding case_of
is_given_lem m h e = sym (case_back m) ∙ ap case_of e

module _ (s : BulbState) (dry wet p a : ℤ) where
  -- what one answer is refused with, so is the other
  refused_alike : (m k : Result HumidityFigures HumidityRefusal) → IsMoisture s dry wet p a m → IsMoisture s dry wet p a k → (n : ℕ) → moisture_as m ≡ refused n → moisture_as k ≡ refused n
  unfolding answer
  refused_alike m k x y n e = go (within_limits dry wet p a) (too_warm_for_ice s wet) refl refl
    where
      go : (b c : Bool) → within_limits dry wet p a ≡ b → too_warm_for_ice s wet ≡ c → moisture_as k ≡ refused n
      go true false l t =
          let v = one_e a p dry wet x.w x.i y.w y.i s (x.entries l t) (y.entries l t) in
          let d = near_one water dry x.d y.d (x.near l) (y.near l) in
          let ts = tests s dry wet p a y.d (vapour_pressure s y.w y.i a p dry wet) in
          let z : answer ts x.figures ≡ refused n = rw (d, v) at (sym x.first ∙ e) in
          let found = refused_then x.figures ts n z in
          y.first ∙ then_refused y.figures ts n found.0 found.1 found.2
      go true true l t = rw (l, t) at y.first ∙ sym (rw (l, t) at x.first) ∙ e
      go false c l t = rw l at y.first ∙ sym (rw l at x.first) ∙ e

  pub one_moisture : (m k : Result HumidityFigures HumidityRefusal) → IsMoisture s dry wet p a m → IsMoisture s dry wet p a k → m ≡ k
  unfolding case_of
  one_moisture m k x y = go (moisture_as m) (moisture_as k) refl refl
    where
      go : (r q : Answer ℕ HumidityFigures) → moisture_as m ≡ r → moisture_as k ≡ q → m ≡ k
      go (refused n) q e f = sym (case_back m) ∙ ap case_of (e ∙ sym (refused_alike m k x y n e)) ∙ case_back k
      go (given h) (refused n) e f = sym (case_back m) ∙ ap case_of (refused_alike k m y x n f ∙ sym f) ∙ case_back k
      go (given h) (given i) e f =
          let gm = is_given_lem m h e in
          let gk = is_given_lem k i f in
          let a1 = figured_then s dry wet p a h (subst (IsMoisture s dry wet p a) gm x) in
          let a2 = figured_then s dry wet p a i (subst (IsMoisture s dry wet p a) gk y) in
          gm ∙ ap Ok (one_humidity s dry wet p a h i a1 a2) ∙ sym gk

pub single_humidity : Single humidity.Post
single_humidity κs x r r' s s' p q = one_moisture _ _ _ _ _ r r' p q
