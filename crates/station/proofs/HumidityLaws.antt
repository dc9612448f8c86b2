-- Humidity of readings within their limits, test by test: 7, 13, 20, 21, 22 and 15 as the psychrometer's work refuses, with the bulbs'
-- entries of any tables, since a tenth has one entry. Assumes nothing.
use mathlib.Core.Path.{◌≡◌, refl, sym, ap, subst, ◌∙◌}
use mathlib.Core.Bool.{Bool, true, false, not, ◌&&◌}
use mathlib.Core.List.{List, [], ◌∷◌}
use Prim.Native.Nat.{ℕ}
use lib.IntN.{ℤ}
use lib.Signed.{le_z}
use borrow.Author.Tests.{not-false}
use Rattle.std.specs.Prelude.{Result, Err}
use Rattle.number.specs.Refusal.{Numbered, numbered, Test, test, plain, Answer, refused, given, answer}
use Rattle.number.proofs.RefusalLaws.{refused_then, then_refused, given_then, then_given, given_is, plain_refused, plain_given}
use Rattle.number.proofs.Sizes.{and_true, both}
use Rattle.quantity.specs.Limits.{inside, bulb, frost, recorded_pressure}
use Rattle.quantity.specs.declared.BulbState.{BulbState}
use Rattle.quantity.specs.declared.BulbState.TheVariants.{Water, Ice, Unknown}
use Rattle.settings.specs.Settings as settings
use Rattle.vapour.specs.Vapour.{water, Tables, AreTables}
use Rattle.vapour.proofs.SaturationLaws.{near_one}
use Rattle.humidity.specs.Humidity.{vapour_pressure, EntriesFor, too_warm_for_ice, moisture_tests, within_limits, moisture_as, IsHumidity, IsMoisture}
use Rattle.humidity.specs.declared.HumidityFigures.{HumidityFigures}
use Rattle.humidity.specs.declared.HumidityRefusal.{HumidityRefusal}
use Rattle.humidity.specs.declared.HumidityRefusal.TheVariants.{WetAboveDry, TooWarmForIce, UnknownOutsideRange, AboveSaturation, TooDry, OutsideLimits}
use Rattle.humidity.proofs.HumidityTheorems.{figured_then}
use Rattle.humidity.proofs.VapourPressureLaws.{one_e}
use Rattle.humidity.proofs.SingleAnswers.{is_given_lem}
use Rattle.station.specs.Questions.{Answers}
use Rattle.station.specs.Told.{refusal_of}
use Rattle.station.specs.Parts.{moist_as}
use Rattle.station.proofs.AnswerLaws.{pass, stop}

-- ---- an answer as a question tells it

abbrev pub plainly : Answer ℕ HumidityFigures → Answer Numbered HumidityFigures
plainly (refused n) = refused (numbered n [])
plainly (given h) = given h

abbrev pub asked : Result HumidityFigures HumidityRefusal → Answer Numbered HumidityFigures
asked m = plainly (moisture_as m)

module _ (ts : List (Test ℕ)) (f : HumidityFigures) (Rule : HumidityFigures → Type 0) where
  plainly_answers : (r : Answer ℕ HumidityFigures) → r ≡ answer ts f → ((h : HumidityFigures) → r ≡ given h → Rule h) → Answers (plain ts) Rule (plainly r)
  unfolding Answers
  plainly_answers (refused n) e rule =
      let found = refused_then f ts n (sym e) in
      plain_refused tt ts n (then_refused tt ts n found.0 found.1 found.2)
  plainly_answers (given h) e rule =
      let same : f ≡ h = given_is ts f h (sym e) in
      (plain_given tt ts tt (then_given tt ts (given_then f ts (sym e ∙ ap given (sym same)))), rule h refl)

-- ---- the same tests in a question

module _ (s : BulbState) (dry wet p a : ℤ) (tables : Tables) (tabled : AreTables tables) (in_dry : inside bulb dry ≡ true) (in_wet : inside bulb wet ≡ true) where
  frozen : not (le_z wet frost.high) ≡ false → inside frost wet ≡ true
  frozen cold = both (and_true (le_z bulb.low wet) (le_z wet bulb.high) in_wet).0 (not-false _ cold)

  abbrev e : ℤ
  e = vapour_pressure s (tables.over_water wet) (tables.over_ice wet) a p dry wet

  -- the tables have the entries that the state asks for
  pub entries_there : (s : BulbState) → too_warm_for_ice s wet ≡ false → EntriesFor s wet (tables.over_water wet) (tables.over_ice wet)
  entries_there Water cold = tabled.of_water wet in_wet
  entries_there Ice cold = tabled.of_ice wet (frozen cold)
  entries_there Unknown cold = (tabled.of_water wet in_wet, tabled.of_ice wet (frozen cold))

  pub moisture_told : (m : Result HumidityFigures HumidityRefusal) → IsMoisture s dry wet p a m
      → Answers
      (test 7 [] (not (inside recorded_pressure p && inside settings.psychrometer a))
      ∷ plain (moisture_tests s dry wet (tables.over_water dry) (vapour_pressure s (tables.over_water wet) (tables.over_ice wet) a p dry wet)))
      (IsHumidity s dry wet p a)
      (asked m)
  unfolding answer
  moisture_told m is = go (within_limits dry wet p a) refl
    where
      others : within_limits dry wet p a ≡ (inside recorded_pressure p && inside settings.psychrometer a)
      others = rw (in_dry, in_wet)

      -- with the program's entries or those of the tables, the tests refuse alike
      alike : (cold : Bool) → too_warm_for_ice s wet ≡ cold → within_limits dry wet p a ≡ true
          → answer (moisture_tests s dry wet is.d (vapour_pressure s is.w is.i a p dry wet)) is.figures
          ≡ answer (moisture_tests s dry wet (tables.over_water dry) e) is.figures
      alike true t l = rw t
      alike false t l =
          rw (
            near_one water dry is.d (tables.over_water dry) (is.near l) (tabled.of_water dry in_dry),
            one_e a p dry wet is.w is.i (tables.over_water wet) (tables.over_ice wet) s (is.entries l t) (entries_there s t),
          )

      go : (b : Bool) → within_limits dry wet p a ≡ b
          → Answers
          (test 7 [] (not (inside recorded_pressure p && inside settings.psychrometer a)) ∷ plain (moisture_tests s dry wet (tables.over_water dry) e))
          (IsHumidity s dry wet p a)
          (asked m)
      go true l =
          pass _ _ _ (asked m) (ap not (sym others ∙ l))
          (plainly_answers (moisture_tests s dry wet (tables.over_water dry) e) is.figures (IsHumidity s dry wet p a) (moisture_as m)
          (rw l at is.first ∙ alike (too_warm_for_ice s wet) refl l)
          (λ h g. figured_then s dry wet p a h (subst (IsMoisture s dry wet p a) (is_given_lem m h g) is)))
      go false l =
          let r : moisture_as m ≡ refused 7 = rw l at is.first in
          subst (λ (x : Answer ℕ HumidityFigures). Answers (test 7 [] (not (inside recorded_pressure p && inside settings.psychrometer a)) ∷ plain (moisture_tests s dry wet (tables.over_water dry) e)) (IsHumidity s dry wet p a) (plainly x)) (sym r)
          (stop _ _ _ (ap not (sym others ∙ l)))

-- a refusal is told by the question's
pub as_refused : (r : HumidityRefusal) → asked (Err r) ≡ refused (refusal_of (moist_as r))
as_refused WetAboveDry = refl
as_refused TooWarmForIce = refl
as_refused UnknownOutsideRange = refl
as_refused AboveSaturation = refl
as_refused TooDry = refl
as_refused OutsideLimits = refl

-- the work of the same state and the same four numbers
pub moisture_of : {s s' : BulbState} {a b c d a' b' c' d' : ℤ} (m : Result HumidityFigures HumidityRefusal) → s ≡ s' → a ≡ a' → b ≡ b' → c ≡ c' → d ≡ d'
    → IsMoisture s a b c d m → IsMoisture s' a' b' c' d' m
moisture_of m o p q r s is = rw (o, p, q, r, s) at is
