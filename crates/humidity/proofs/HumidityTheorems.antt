-- What holds of every answer: e never exceeds saturation, relative humidity is at most 100, and a watch file takes the figures, by
-- tests 22 and 15; and with water on the wick 20, 21 and 22 never refuse. Assumes nothing.
use Rattle.std.specs.Prelude.{Ok}
use mathlib.Core.Path.{◌≡◌, refl, sym, ap, subst, ◌∙◌}
use mathlib.Core.Bool.{true, false}
use Prim.Native.Nat.{ℕ, ◌≤◌}
use native.Mathlib.Omega.{arith}
use lib.IntN.{ℤ, pos}
use borrow.Author.Tests.{leb-true, not-false}
use Rattle.number.specs.Refusal.{given, answer, HoldsAt}
use Rattle.number.proofs.RefusalLaws.{given_then, given_is}
use Rattle.number.proofs.Sizes.{fails}
use Rattle.quantity.specs.Limits.{inside, bulb}
use Rattle.quantity.specs.declared.BulbState.{BulbState}
use Rattle.vapour.specs.Vapour.{lowest_vapour, highest_vapour, water}
use Rattle.vapour.proofs.SaturationLaws.{near_one}
use Rattle.vapour.proofs.TableLaws.{entry_range}
use Rattle.vapour.proofs.RangeLaws.{relative_most}
use Rattle.humidity.specs.Humidity.{vapour_pressure, wet_above_dry, too_warm_for_ice, unknown_outside, above_saturation, too_dry, within_limits, tests, Follow, IsHumidity, IsMoisture}
use Rattle.humidity.specs.declared.HumidityFigures.{HumidityFigures}
use Rattle.humidity.proofs.VapourPressureLaws.{within, one_e}

-- "e 19 to saturation, saturation 19 to 12345, the other three as their rules give"; and relative humidity is at most 100
pub record Writable (h : HumidityFigures) : Type 0 where
  pub least_e : lowest_vapour ≤ h.e.0
  pub e_saturation : h.e.0 ≤ h.saturation.0
  pub least_saturation : lowest_vapour ≤ h.saturation.0
  pub most_saturation : h.saturation.0 ≤ highest_vapour
  pub most_relative : h.relative ≤ 100
  pub follow : Follow h

-- no test has refused
pub record Passed (s : BulbState) (dry wet p a : ℤ) (d : ℕ) (e : ℤ) (f h : HumidityFigures) : Type 0 where
  pub limits : within_limits dry wet p a ≡ true
  pub bulbs : wet_above_dry s dry wet ≡ false
  pub cold : too_warm_for_ice s wet ≡ false
  pub doubt : unknown_outside s dry ≡ false
  pub under : above_saturation d e ≡ false
  pub enough : too_dry e ≡ false
  pub same : f ≡ h

module _ (s : BulbState) (dry wet p a : ℤ) where
  pub passed : (d : ℕ) (e : ℤ) (f h : HumidityFigures) → answer (tests s dry wet p a d e) f ≡ given h → Passed s dry wet p a d e f h
  passed d e f h x =
      record {
        limits = not-false _ (fails _ (λ t. none 0 7 (t, refl)));
        bulbs = fails _ (λ t. none 1 13 (t, refl));
        cold = fails _ (λ t. none 2 20 (t, refl));
        doubt = fails _ (λ t. none 3 21 (t, refl));
        under = fails _ (λ t. none 4 22 (t, refl));
        enough = fails _ (λ t. none 5 15 (t, refl));
        same = same;
      }
    where
      same : f ≡ h
      same = given_is (tests s dry wet p a d e) f h x

      none : (place n : ℕ) → HoldsAt (tests s dry wet p a d e) place n → ⊥
      none place n k = given_then f (tests s dry wet p a d e) (x ∙ ap given (sym same)) n (place, k)

  -- figures of a dry bulb in the table that neither 22 nor 15 refuses
  pub writable_of : (h : HumidityFigures) → IsHumidity s dry wet p a h → inside bulb dry ≡ true
      → above_saturation h.saturation.0 (pos h.e.0) ≡ false → too_dry (pos h.e.0) ≡ false → Writable h
  writable_of h is in_dry under enough =
      let l : lowest_vapour ≤ h.e.0 = leb-true lowest_vapour h.e.0 (not-false _ enough) in
      let u : h.e.0 ≤ h.saturation.0 = leb-true h.e.0 h.saturation.0 (not-false _ under) in
      record {
        least_e = l;
        e_saturation = u;
        least_saturation = omega arith;
        most_saturation = (entry_range dry h.saturation.0 in_dry is.saturation).1;
        most_relative = subst (λ (n : ℕ). n ≤ 100) (sym is.follow.relative) (relative_most h.e.0 h.saturation.0 (omega arith) u);
        follow = is.follow;
      }

  module _ (h : HumidityFigures) (m : IsMoisture s dry wet p a (Ok h)) where
    through : Passed s dry wet p a m.d (vapour_pressure s m.w m.i a p dry wet) m.figures h
    through = passed m.d (vapour_pressure s m.w m.i a p dry wet) m.figures h (sym m.first)

    -- An answer with figures gives those of the bulbs.
    pub figured_then : IsHumidity s dry wet p a h
    figured_then = subst (IsHumidity s dry wet p a) through.same (m.worked (ap Ok (sym through.same)))

    -- and no test has refused them
    pub passed_with : Passed s dry wet p a h.saturation.0 (pos h.e.0) h h
    passed_with =
        let t = through in
        let is = figured_then in
        let e : vapour_pressure s m.w m.i a p dry wet ≡ pos h.e.0 =
        one_e a p dry wet m.w m.i is.w is.i s (m.entries t.limits t.cold) is.entries ∙ sym is.e in
        let d : m.d ≡ h.saturation.0 = near_one water dry m.d h.saturation.0 (m.near t.limits) is.saturation in
        record {
          limits = t.limits;
          bulbs = t.bulbs;
          cold = t.cold;
          doubt = t.doubt;
          under = rw (d, e) at t.under;
          enough = rw e at t.enough;
          same = refl;
        }

    -- The answer can always be written.
    pub writable : Writable h
    writable = let t = passed_with in writable_of h figured_then (within dry wet p a t.limits).in_dry t.under t.enough
