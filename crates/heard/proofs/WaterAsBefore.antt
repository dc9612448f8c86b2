-- With water on the wick humidity is answered as document 01 has it: 20, 21 and 22 never refuse, so its own tests decide, and e is its
-- own. By leaving out of the list what cannot hold. Assumes nothing.
use mathlib.Core.Path.{◌≡◌, refl, ◌∙◌}
use mathlib.Core.Bool.{false}
use mathlib.Core.List.{List, [], ◌∷◌}
use Prim.Native.Nat.{ℕ}
use lib.Dec.{lit<}
use lib.IntN.{ℤ}
use borrow.Author.Tests.{not-false}
use Rattle.std.specs.Prelude.{Result}
use Rattle.number.specs.Refusal.{Numbered, Test, test, given, answer}
use Rattle.number.proofs.Sizes.{both}
use Rattle.quantity.specs.declared.BulbState.{BulbState}
use Rattle.quantity.specs.declared.BulbState.TheVariants.{Water}
use Rattle.settings.specs.Settings.{checked}
use Rattle.settings.specs.declared.Settings.{Settings}
use Rattle.vapour.specs.Vapour.{Tables, AreTables}
use Rattle.humidity.specs.Humidity.{vapour_pressure, wet_above_dry, too_warm_for_ice, unknown_outside, above_saturation, too_dry}
use Rattle.humidity.proofs.VapourPressureLaws.{water_under}
use Rattle.store.specs.History.{Sent}
use Rattle.humidity.specs.declared.HumidityFigures.{HumidityFigures}
use Rattle.station.specs.Source.{Source, heard}
use Rattle.station.specs.Questions.{Answers, Tells, too_late, missing_at, outside_at, dry_at, wet_at, state_at, station_at, humidity_tests, HumidityRule}
use Rattle.station.specs.Questions as asked
use Rattle.station.specs.Told.{humidity_as}
use Rattle.station.specs.Before.{humidity_tests_before}
use Rattle.station.specs.declared.QuestionRefusal.{QuestionRefusal}
use Rattle.station.proofs.AnswerLaws.{carry, leave_out, lets_pass}
use Rattle.heard.proofs.StoreLaws.{heard_inside, never_foreign}

module _ (g : Settings) (good : checked g ≡ given tt) (M : List Sent) (m : ℕ) (wick : state_at (heard g M) m ≡ Water) (tables : Tables) (tabled : AreTables tables) where
  abbrev S : Source
  S = heard g M

  -- the tests up to 13, and those behind it, by a state
  abbrev to_13 : BulbState → List (Test Numbered)
  to_13 s =
      too_late m ∷ missing_at S m 0 ∷ missing_at S m 4 ∷ missing_at S m 5 ∷ outside_at S m ∷ test 13 [] (wet_above_dry s (dry_at S m) (wet_at S m)) ∷ []

  abbrev e : ℤ
  e = vapour_pressure Water (tables.over_water (wet_at S m)) (tables.over_ice (wet_at S m)) S.psychrometer (station_at S m) (dry_at S m) (wet_at S m)

  abbrev last : List (Test Numbered)
  last = test 15 [] (too_dry e) ∷ []

  abbrev from_22 : List (Test Numbered)
  from_22 = test 22 [] (above_saturation (tables.over_water (dry_at S m)) e) ∷ last

  -- 22 does not hold where all before it let pass
  not_above : answer {A = Unit {0}} (to_13 Water) tt ≡ given tt → above_saturation (tables.over_water (dry_at S m)) e ≡ false
  not_above passed =
      let a = lets_pass (too_late m) _ passed in
      let b = lets_pass (missing_at S m 0) _ a.1 in
      let c = lets_pass (missing_at S m 4) _ b.1 in
      let d = lets_pass (missing_at S m 5) _ c.1 in
      let f = lets_pass (outside_at S m) _ d.1 in
      let bulbs = lets_pass (test 13 [] (wet_above_dry Water (dry_at S m) (wet_at S m))) _ f.1 in
      let in_dry = heard_inside g good M m 4 (lit< tt) (not-false _ c.0) in
      let in_wet = heard_inside g good M m 5 (lit< tt) (not-false _ d.0) in
      water_under (dry_at S m) (wet_at S m) (station_at S m) S.psychrometer (tables.over_water (dry_at S m)) (tables.over_water (wet_at S m)) (tables.over_ice (wet_at S m))
      (both (both in_dry in_wet) (not-false _ (never_foreign g good M m (not-false _ b.0))))
      bulbs.0
      (tabled.of_water (dry_at S m) in_dry)
      (tabled.of_water (wet_at S m) in_wet)

  same_tests : answer {A = Unit {0}} (humidity_tests [] tables S m) tt ≡ answer (humidity_tests_before tables.over_water S m) tt
  unfolding vapour_pressure
  same_tests =
      rw wick
      (leave_out (to_13 Water) (test 21 [] (unknown_outside Water (dry_at S m)) ∷ from_22) (test 20 [] (too_warm_for_ice Water (wet_at S m))) (λ p. refl)
      ∙ leave_out (to_13 Water) from_22 (test 21 [] (unknown_outside Water (dry_at S m))) (λ p. refl)
      ∙ leave_out (to_13 Water) last (test 22 [] (above_saturation (tables.over_water (dry_at S m)) e)) not_above)

  pub water_as_document_01 : (x : Result HumidityFigures QuestionRefusal) → Tells asked.humidity (heard g M) m x
      → Answers (humidity_tests_before tables.over_water (heard g M) m) (HumidityRule (heard g M) m) (humidity_as x)
  water_as_document_01 x w =
      carry (humidity_tests [] tables S m) (humidity_tests_before tables.over_water S m) (HumidityRule S m) (HumidityRule S m) (humidity_as x) same_tests (λ h r. r)
      (w tables tabled)
