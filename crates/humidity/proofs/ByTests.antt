-- A worked case from tests that are computed: entries and dew point by the series, the rest by their rules. Assumes nothing.
use Rattle.std.specs.Prelude.{Result, Ok}
use mathlib.Core.Path.{◌≡◌}
use mathlib.Core.Bool.{Bool, ◌&&◌}
use Prim.Native.Nat.{ℕ}
use lib.Dec.{T}
use lib.Ieee.Fits.{and_l, and_r}
use lib.IntN.{ℤ, pos}
use Rattle.number.specs.Refusal.{given, answer}
use Rattle.quantity.specs.declared.BulbState.{BulbState}
use Rattle.quantity.specs.declared.BulbState.TheVariants.{Water, Ice, Unknown}
use Rattle.vapour.specs.Vapour.{relative_humidity, vapour_deficit, water, ice}
use Rattle.vapour.proofs.SaturationLaws.{near_test, near_by_test}
use Rattle.vapour.proofs.DewLaws.{dew_test, dew_by_test}
use Rattle.humidity.specs.Humidity.{vapour_pressure, EntriesFor, tests, moisture_as, IsMoisture}
use Rattle.humidity.specs.declared.HumidityFigures.{HumidityFigures}
use Rattle.humidity.specs.declared.HumidityRefusal.{HumidityRefusal}
use Rattle.humidity.proofs.MoistureLaws.{none, refused_so}

-- the entries that a state asks for
unfoldable pub entries_test : BulbState → ℤ → ℕ → ℕ → Bool
unfolding near_test
entries_test Water wet w i = near_test water wet w
entries_test Ice wet w i = near_test ice wet i
entries_test Unknown wet w i = near_test water wet w && near_test ice wet i

entries_by_test : (s : BulbState) (wet : ℤ) (w i : ℕ) → T (entries_test s wet w i) → EntriesFor s wet w i
unfolding entries_test
entries_by_test Water wet w i t = near_by_test water wet w t
entries_by_test Ice wet w i t = near_by_test ice wet i t
entries_by_test Unknown wet w i t =
    let a = near_test water wet w in
    let b = near_test ice wet i in
    (near_by_test water wet w (and_l a b t), near_by_test ice wet i (and_r a b t))

-- w and i are the wet bulb's entries
module _ (s : BulbState) (dry wet p a : ℤ) (w i : ℕ) where
  -- h are the figures
  pub by_tests : (h : HumidityFigures)
      → T (entries_test s wet w i) → T (near_test water dry h.saturation.0) → T (dew_test h.e.0 h.dew.0.v)
      → given h ≡ answer (tests s dry wet p a h.saturation.0 (vapour_pressure s w i a p dry wet)) h
      → pos h.e.0 ≡ vapour_pressure s w i a p dry wet
      → h.deficit.0 ≡ vapour_deficit h.e.0 h.saturation.0 → h.relative ≡ relative_humidity h.e.0 h.saturation.0
      → IsMoisture s dry wet p a (Ok h)
  by_tests h tw td te first e d r =
      record {
        d = h.saturation.0;
        w = w;
        i = i;
        near = λ l. near_by_test water dry h.saturation.0 td;
        entries = λ l c. entries_by_test s wet w i tw;
        figures = h;
        first = first;
        worked = λ g. record {
          w = w;
          i = i;
          entries = entries_by_test s wet w i tw;
          saturation = near_by_test water dry h.saturation.0 td;
          e = e;
          follow = record { deficit = d; relative = r; dew = dew_by_test h.e.0 h.dew.0.v te };
        };
      }

  -- d is the dry bulb's entry, m the refusal
  pub refused_by_tests : (d : ℕ) (m : Result HumidityFigures HumidityRefusal) → T (entries_test s wet w i) → T (near_test water dry d)
      → moisture_as m ≡ answer (tests s dry wet p a d (vapour_pressure s w i a p dry wet)) none
      → (m ≡ Ok none → ⊥) → IsMoisture s dry wet p a m
  refused_by_tests d m tw td = refused_so s dry wet p a d w i (near_by_test water dry d td) (entries_by_test s wet w i tw) m
