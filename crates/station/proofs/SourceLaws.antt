-- An answer rests on nothing but what its question reads: where two sources agree on that, what the one allows the other allows.
-- Test by test, and figure by figure. Assumes nothing.
use mathlib.Core.Path.{◌≡◌, refl, ap, ◌∙◌}
use mathlib.Core.Bool.{Bool, true, false, not, ◌||◌}
use mathlib.Core.List.{List, [], ◌∷◌}
use Prim.Native.Nat.{ℕ, ◌-◌}
use lib.Dec.{eqb}
use lib.IntN.{ℤ, ◌-ℤ◌}
use borrow.Author.Tests.{eq-eqb}
use Rattle.std.specs.Prelude.{Result}
use Rattle.number.proofs.Sizes.{both}
use Rattle.number.specs.Refusal.{test}
use Rattle.quantity.specs.Limits.{three_hours}
use Rattle.quantity.specs.declared.BarometerUnit.{BarometerUnit}
use Rattle.quantity.specs.declared.Hectopascals.{Hectopascals}
use Rattle.cell.specs.Cells.{Recall, is_present, first}
use Rattle.pressure.specs.Pressure.{outside, sea_level, station_pressure, tenths_in}
use Rattle.pressure.proofs.PressureTheorems.{Alike, alike_outside, alike_sea_level, alike_station}
use Rattle.vapour.specs.Vapour.{Tables}
use Rattle.wind.specs.declared.Wind.{Wind}
use Rattle.humidity.specs.declared.HumidityFigures.{HumidityFigures}
use Rattle.station.specs.Source.{Source, in_celsius, reading_at}
use Rattle.station.specs.Questions.{Asked, question, Reply, is_in, reads, Answers, Tells, too_late, no_three_hours, missing_at, outside_at, sea_level_at, station_at, pressure_tests, PressureRule, tendency_tests, TendencyRule, wind_tests, WindRule, humidity_tests, HumidityRule}
use Rattle.station.specs.Questions as asked
use Rattle.station.specs.Told.{Change, pressure_as, tendency_as, wind_as, humidity_as}
use Rattle.station.specs.declared.QuestionRefusal.{QuestionRefusal}
use Rattle.station.specs.declared.PressureTendency.{PressureTendency}
use Rattle.station.proofs.AnswerLaws.{carry, stopped, stopped_next}

-- What two sources must have in common for a question asked at minute m.
pub record Agree (q : Asked) (S S' : Source) (m : ℕ) : Type 0 where
  pub barometer : Alike S.barometer S'.barometer
  pub psychrometer : S.psychrometer ≡ S'.psychrometer
  pub kept : (c j : ℕ) → reads q m c j ≡ true → S.recall c j ≡ S'.recall c j
  pub missing : is_in (question q).channels 0 ≡ true → S.missing m ≡ S'.missing m

module _ (S S' : Source) where
  -- what is kept of a channel's minute
  abbrev Same : ℕ → ℕ → Type 0
  Same m c = S.recall c m ≡ S'.recall c m

  missing_same : (m c : ℕ) → Same m c → missing_at S m c ≡ missing_at S' m c
  missing_same m c e = ap (λ (x : Recall). test 11 (c ∷ m ∷ []) (not (is_present x))) e

  module _ (barometer : Alike S.barometer S'.barometer) where
    reading_same : (m : ℕ) → Same m 0 → reading_at S m ≡ reading_at S' m
    reading_same m e =
        ap (λ (x : Recall). tenths_in S.barometer.unit (first x)) e ∙ ap (λ (u : BarometerUnit). tenths_in u (first (S'.recall 0 m))) barometer.unit

    outside_same : (m : ℕ) → Same m 0 → outside_at S m ≡ outside_at S' m
    outside_same m e =
        ap (λ (b : Bool). test 12 (m ∷ []) b)
        (ap (outside S.barometer) (reading_same m e) ∙ alike_outside S.barometer S'.barometer barometer (reading_at S' m))

    sea_level_same : (m : ℕ) → Same m 0 → Same m 1 → sea_level_at S m ≡ sea_level_at S' m
    sea_level_same m e f =
        ap (λ (r : ℤ). sea_level S.barometer r (in_celsius (S.recall 1 m))) (reading_same m e)
        ∙ ap (λ (x : Recall). sea_level S.barometer (reading_at S' m) (in_celsius x)) f
        ∙ alike_sea_level S.barometer S'.barometer barometer (reading_at S' m) (in_celsius (S'.recall 1 m))

    pub station_same : (m : ℕ) → Same m 0 → station_at S m ≡ station_at S' m
    station_same m e = ap (station_pressure S.barometer) (reading_same m e) ∙ alike_station S.barometer S'.barometer barometer (reading_at S' m)

    module _ (m : ℕ) (e : Same m 0) (f : Same m 1) (e' : Same (m - three_hours) 0) (f' : Same (m - three_hours) 1) (missing : S.missing m ≡ S'.missing m) where
      change_same : (t : Change) → TendencyRule S m t → TendencyRule S' m t
      change_same t w =
          record {
            change = w.change ∙ ap (λ (z : ℤ). z -ℤ sea_level_at S (m - three_hours)) (sea_level_same m e f) ∙ ap (λ (z : ℤ). sea_level_at S' m -ℤ z) (sea_level_same (m - three_hours) e' f');
            absent = w.absent ∙ missing;
          }

-- ---- minutes that are read

-- the minute asked for, where the question is not refused before, and the other of two
its_own : (m : ℕ) (more : List ℕ) → is_in (m ∷ more) m ≡ true
its_own m more = rw (eq-eqb m m refl)

the_other : (m j : ℕ) → is_in (m ∷ j ∷ []) j ≡ true
the_other m j = rw (eq-eqb j j refl) (either (eqb j m))
  where
    either : (b : Bool) → (b || true) ≡ true
    either true = refl
    either false = refl

module _ (S S' : Source) (m : ℕ) where
  pressure_tells : Agree asked.pressure S S' m → (r : Result Hectopascals QuestionRefusal) (late : Bool) → (too_late m).holds ≡ late
      → Answers (pressure_tests S m) (PressureRule S m) (pressure_as r) → Answers (pressure_tests S' m) (PressureRule S' m) (pressure_as r)
  pressure_tells a r true h = stopped _ _ _ _ _ (pressure_as r) h
  pressure_tells a r false h =
      let now : is_in ((question asked.pressure).minutes m) m ≡ true = rw h (its_own m []) in
      let p = a.kept 0 m (both refl now) in
      let t = a.kept 1 m (both refl now) in
      carry (pressure_tests S m) (pressure_tests S' m) (PressureRule S m) (PressureRule S' m) (pressure_as r)
      (rw (missing_same S S' m 0 p, missing_same S S' m 1 t, outside_same S S' a.barometer m p))
      (λ x w. w ∙ sea_level_same S S' a.barometer m p t)

  tendency_tells : Agree asked.tendency S S' m → (r : Result PressureTendency QuestionRefusal) (late early : Bool) → (too_late m).holds ≡ late → (no_three_hours m).holds ≡ early
      → Answers (tendency_tests S m) (λ t. TendencyRule S m t) (tendency_as r) → Answers (tendency_tests S' m) (λ t. TendencyRule S' m t) (tendency_as r)
  tendency_tells a r true early h i = stopped _ _ _ _ _ (tendency_as r) h
  tendency_tells a r false true h i = stopped_next _ _ _ _ _ _ (tendency_as r) i
  tendency_tells a r false false h i =
      let now : is_in ((question asked.tendency).minutes m) m ≡ true = rw (h, i) (its_own m ((m - three_hours) ∷ [])) in
      let before : is_in ((question asked.tendency).minutes m) (m - three_hours) ≡ true = rw (h, i) (the_other m (m - three_hours)) in
      let p = a.kept 0 m (both refl now) in
      let t = a.kept 1 m (both refl now) in
      let p' = a.kept 0 (m - three_hours) (both refl before) in
      let t' = a.kept 1 (m - three_hours) (both refl before) in
      carry (tendency_tests S m) (tendency_tests S' m) (λ t. TendencyRule S m t) (λ t. TendencyRule S' m t) (tendency_as r)
      (rw (
        missing_same S S' (m - three_hours) 0 p',
        missing_same S S' (m - three_hours) 1 t',
        missing_same S S' m 0 p,
        missing_same S S' m 1 t,
        outside_same S S' a.barometer (m - three_hours) p',
        outside_same S S' a.barometer m p,
      ))
      (change_same S S' a.barometer m p t p' t' (a.missing refl))

  wind_tells : Agree asked.wind S S' m → (r : Result Wind QuestionRefusal) (late : Bool) → (too_late m).holds ≡ late
      → Answers (wind_tests S m) (WindRule S m) (wind_as r) → Answers (wind_tests S' m) (WindRule S' m) (wind_as r)
  wind_tells a r true h = stopped _ _ _ _ _ (wind_as r) h
  wind_tells a r false h =
      let now : is_in ((question asked.wind).minutes m) m ≡ true = rw h (its_own m []) in
      let wind = a.kept 2 m (both refl now) in
      let ship = a.kept 3 m (both refl now) in
      carry (wind_tests S m) (wind_tests S' m) (WindRule S m) (WindRule S' m) (wind_as r)
      (rw (missing_same S S' m 2 wind, missing_same S S' m 3 ship))
      (λ w is. rw (wind, ship) at is)

  humidity_tells : Agree asked.humidity S S' m → (tables : Tables) (r : Result HumidityFigures QuestionRefusal) (late : Bool) → (too_late m).holds ≡ late
      → Answers (humidity_tests [] tables S m) (HumidityRule S m) (humidity_as r) → Answers (humidity_tests [] tables S' m) (HumidityRule S' m) (humidity_as r)
  humidity_tells a tables r true h = stopped _ _ _ _ _ (humidity_as r) h
  humidity_tells a tables r false h =
      let now : is_in ((question asked.humidity).minutes m) m ≡ true = rw h (its_own m []) in
      let p = a.kept 0 m (both refl now) in
      let dry = a.kept 4 m (both refl now) in
      let wet = a.kept 5 m (both refl now) in
      let station = station_same S S' a.barometer m p in
      carry (humidity_tests [] tables S m) (humidity_tests [] tables S' m) (HumidityRule S m) (HumidityRule S' m) (humidity_as r)
      (rw (missing_same S S' m 0 p, missing_same S S' m 4 dry, missing_same S S' m 5 wet, outside_same S S' a.barometer m p, dry, wet, station, a.psychrometer))
      (λ x w. rw (dry, wet, station, a.psychrometer) at w)

-- Where two sources agree on what a question reads, what the one allows the other allows.
pub agree_tells : (q : Asked) (S S' : Source) (m : ℕ) → Agree q S S' m → (r : Reply q) → Tells q S m r → Tells q S' m r
agree_tells asked.pressure S S' m a r w = λ tables tabled. pressure_tells S S' m a r (too_late m).holds refl (w tables tabled)
agree_tells asked.tendency S S' m a r w = λ tables tabled. tendency_tells S S' m a r (too_late m).holds (no_three_hours m).holds refl refl (w tables tabled)
agree_tells asked.wind S S' m a r w = λ tables tabled. wind_tells S S' m a r (too_late m).holds refl (w tables tabled)
agree_tells asked.humidity S S' m a r w = λ tables tabled. humidity_tells S S' m a tables r (too_late m).holds refl (w tables tabled)
