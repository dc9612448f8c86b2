-- What each way through the tests comes to: the list of tests, answered by what is known on that way. Assumes nothing.
use Rattle.std.specs.Prelude.{Result, Ok, Err}
use mathlib.Core.Path.{◌≡◌, sym, subst, ◌∙◌}
use mathlib.Core.Bool.{true, false}
use Prim.Native.Nat.{ℕ}
use lib.IntN.{ℤ, pos}
use Rattle.number.specs.Refusal.{answer}
use Rattle.number.proofs.Sizes.{impossible}
use Rattle.quantity.specs.declared.BulbState.{BulbState}
use Rattle.vapour.specs.Vapour.{Near, water}
use Rattle.humidity.specs.Humidity.{vapour_pressure, EntriesFor, wet_above_dry, too_warm_for_ice, unknown_outside, within_limits, tests, moisture_as, IsMoisture}
use Rattle.humidity.specs.Parts.{figures_by, IsByVapour}
use Rattle.humidity.specs.declared.HumidityFigures.{HumidityFigures}
use Rattle.humidity.specs.declared.HumidityRefusal.{HumidityRefusal}
use Rattle.humidity.specs.declared.HumidityRefusal.TheVariants.{WetAboveDry, TooWarmForIce, UnknownOutsideRange, OutsideLimits}

-- figures that nothing refers to, where there are none
abbrev pub none : HumidityFigures
none = figures_by 0 0 0 0 (pos 0)

untrue : true ≡ false → ⊥
untrue e = impossible (cc)

module _ (s : BulbState) (dry wet p a : ℤ) where
  -- 7
  pub outside : within_limits dry wet p a ≡ false → IsMoisture s dry wet p a (Err OutsideLimits)
  unfolding answer
  outside l =
      record {
        d = 0;
        w = 0;
        i = 0;
        near = λ h. absurd (untrue (sym h ∙ l));
        entries = λ h k. absurd (untrue (sym h ∙ l));
        figures = none;
        first = rw l;
        worked = λ e. impossible (cc);
      }

  -- a refusal, where the bulbs have their entries
  pub refused_so : (d w i : ℕ) → Near water dry d → EntriesFor s wet w i → (m : Result HumidityFigures HumidityRefusal)
      → moisture_as m ≡ answer (tests s dry wet p a d (vapour_pressure s w i a p dry wet)) none → (m ≡ Ok none → ⊥) → IsMoisture s dry wet p a m
  refused_so d w i near entries m first other =
      record {
        d = d;
        w = w;
        i = i;
        near = λ l. near;
        entries = λ l c. entries;
        figures = none;
        first = first;
        worked = λ g. absurd (other g);
      }

  module _ (d : ℕ) (limits : within_limits dry wet p a ≡ true) (near : Near water dry d) where
    -- 20
    pub too_warm : wet_above_dry s dry wet ≡ false → too_warm_for_ice s wet ≡ true → IsMoisture s dry wet p a (Err TooWarmForIce)
    unfolding answer
    too_warm x y =
        record {
          d = d;
          w = 0;
          i = 0;
          near = λ h. near;
          entries = λ h k. absurd (untrue (sym y ∙ k));
          figures = none;
          first = rw (limits, x, y);
          worked = λ e. impossible (cc);
        }

    module _ (w i : ℕ) (entries : EntriesFor s wet w i) where
      -- 13
      pub above : wet_above_dry s dry wet ≡ true → IsMoisture s dry wet p a (Err WetAboveDry)
      unfolding answer
      above x = refused_so d w i near entries (Err WetAboveDry) (rw (limits, x)) (λ e. impossible (cc))

      module _ (bulbs : wet_above_dry s dry wet ≡ false) (cold : too_warm_for_ice s wet ≡ false) where
        -- 21
        pub no_doubt : unknown_outside s dry ≡ true → IsMoisture s dry wet p a (Err UnknownOutsideRange)
        unfolding answer
        no_doubt x = refused_so d w i near entries (Err UnknownOutsideRange) (rw (limits, bulbs, cold, x)) (λ e. impossible (cc))

        -- else e and saturation decide
        pub by_vapour_lem : unknown_outside s dry ≡ false → (m : Result HumidityFigures HumidityRefusal) → IsByVapour (vapour_pressure s w i a p dry wet) d m → IsMoisture s dry wet p a m
        unfolding answer
        by_vapour_lem x m is =
            record {
              d = d;
              w = w;
              i = i;
              near = λ h. near;
              entries = λ h k. entries;
              figures = is.figures;
              first = rw (limits, bulbs, cold, x) is.first;
              worked = λ g. let f = is.worked g in record {
                w = w;
                i = i;
                entries = entries;
                saturation = subst (λ (n : ℕ). Near water dry n) (sym f.is_saturation) near;
                e = f.is_e;
                follow = f.follow;
              };
            }
