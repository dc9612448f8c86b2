-- The four questions: in which order they are tested, by which rule their figures are worked, and what they read.
use Rattle.std.specs.Prelude.{◌≡◌, Bool, false, not, ◌&&◌, ◌||◌, cond, List, [], ◌∷◌, ◌++◌, ℕ, ◌-◌, eqb, ltb, ℤ, ◌-ℤ◌, Result, Some}
use Rattle.number.specs.Refusal.{Numbered, Test, test, plain, Answer, refused, given, answer}
use Rattle.quantity.specs.Limits.{last_minute, three_hours, inside, recorded_pressure}
use Rattle.quantity.specs.declared.BulbState.{BulbState}
use Rattle.quantity.specs.declared.Hectopascals.{Hectopascals}
use Rattle.settings.specs.Settings as settings
use Rattle.cell.specs.Cells.{is_present, in_degrees}
use Rattle.store.specs.Block.{no_store}
use Rattle.pressure.specs.Pressure.{outside, sea_level, station_pressure}
use Rattle.vapour.specs.Vapour.{Tables, AreTables}
use Rattle.wind.specs.Answer.{IsWind}
use Rattle.wind.specs.declared.Wind.{Wind}
use Rattle.humidity.specs.Humidity.{vapour_pressure, moisture_tests, IsHumidity}
use Rattle.humidity.specs.declared.HumidityFigures.{HumidityFigures}
use Rattle.station.specs.Source.{Source, held, in_celsius, in_metres_per_second, in_knots, state_in, reading_at}
use Rattle.station.specs.Told.{Change, pressure_as, tendency_as, wind_as, humidity_as}
use Rattle.station.specs.declared.QuestionRefusal.{QuestionRefusal}
use Rattle.station.specs.declared.PressureTendency.{PressureTendency}

-- ---- the reasons

-- 5: "minute above 16,777,215, .. asked"
abbrev pub too_late : ℕ → Test Numbered
too_late m = test 5 [] (ltb last_minute m)

-- 14: "tendency asked for a minute below 180"
abbrev pub no_three_hours : ℕ → Test Numbered
no_three_hours m = test 14 [] (ltb m three_hours)

-- 11: "reading absent or no longer kept", with "channel, minute"
abbrev pub missing_at : Source → ℕ → ℕ → Test Numbered
missing_at S m c = test 11 (c ∷ m ∷ []) (not (is_present (S.recall c m)))

-- 12: "barometer reading outside the certificate", with "minute"
abbrev pub outside_at : Source → ℕ → Test Numbered
outside_at S m = test 12 (m ∷ []) (outside S.barometer (reading_at S m))

-- An answer: the first refusal whose reason holds, or figures by their rule.
unfoldable pub Answers : {A : Type 0} → List (Test Numbered) → (A → Type 0) → Answer Numbered A → Type 0
Answers tests Rule (refused r) = answer {A = Unit {0}} tests tt ≡ refused r
Answers tests Rule (given a) = (answer {A = Unit {0}} tests tt ≡ given tt) × Rule a

-- ---- pressure

-- Sea level pressure at a minute.
abbrev pub sea_level_at : Source → ℕ → ℤ
sea_level_at S m = sea_level S.barometer (reading_at S m) (in_celsius (S.recall 1 m))

abbrev pub pressure_tests : Source → ℕ → List (Test Numbered)
pressure_tests S m = too_late m ∷ missing_at S m 0 ∷ missing_at S m 1 ∷ outside_at S m ∷ []

abbrev pub PressureRule : Source → ℕ → ℤ → Type 0
PressureRule S m p = p ≡ sea_level_at S m

-- ---- tendency

-- "then 11 by minute, the earlier first, then channel, then 12 by minute likewise"
abbrev pub tendency_tests : Source → ℕ → List (Test Numbered)
tendency_tests S m =
    too_late m
    ∷ no_three_hours m
    ∷ missing_at S (m - three_hours) 0 ∷ missing_at S (m - three_hours) 1
    ∷ missing_at S m 0 ∷ missing_at S m 1
    ∷ outside_at S (m - three_hours) ∷ outside_at S m
    ∷ []

-- "Tendency at minute m: sea level pressure at m less that at m - 180, signed. With it goes the number of absent barometer
-- minutes among the 179 strictly between."
pub record TendencyRule (S : Source) (m : ℕ) (t : Change) : Type 0 where
  pub change : t.change ≡ sea_level_at S m -ℤ sea_level_at S (m - three_hours)
  pub absent : t.absent ≡ S.missing m

-- ---- wind

abbrev pub wind_tests : Source → ℕ → List (Test Numbered)
wind_tests S m = too_late m ∷ missing_at S m 2 ∷ missing_at S m 3 ∷ []

-- Course and ship's speed of channel 3, speed and direction from the bow of channel 2.
abbrev pub WindRule : Source → ℕ → Wind → Type 0
WindRule S m w = IsWind (in_degrees (S.recall 3 m)) (in_knots (S.recall 3 m)) (in_metres_per_second (S.recall 2 m)) (in_degrees (S.recall 2 m)) (Some w)

-- ---- humidity

-- Dry bulb, wet bulb with what is on its wick, and the pressure at the station.
abbrev pub dry_at : Source → ℕ → ℤ
dry_at S m = in_celsius (S.recall 4 m)

abbrev pub wet_at : Source → ℕ → ℤ
wet_at S m = in_celsius (S.recall 5 m)

abbrev pub state_at : Source → ℕ → BulbState
state_at S m = state_in (S.recall 5 m)

abbrev pub station_at : Source → ℕ → ℤ
station_at S m = station_pressure S.barometer (reading_at S m)

-- e, with the wet bulb's entries of both tables
abbrev pub vapour_at : Tables → Source → ℕ → ℤ
vapour_at tables S m =
    vapour_pressure (state_at S m) (tables.over_water (wet_at S m)) (tables.over_ice (wet_at S m)) S.psychrometer (station_at S m) (dry_at S m) (wet_at S m)

-- 5, 11, 12, then 13, 20, 21, 22 and 15 as `humidity` has them. Tests that the documents do not have stand between 12 and 13.
abbrev pub humidity_tests : List (Test Numbered) → Tables → Source → ℕ → List (Test Numbered)
humidity_tests more tables S m =
    too_late m
    ∷ missing_at S m 0 ∷ missing_at S m 4 ∷ missing_at S m 5
    ∷ outside_at S m
    ∷ (more ++ plain (moisture_tests (state_at S m) (dry_at S m) (wet_at S m) (tables.over_water (dry_at S m)) (vapour_at tables S m)))

abbrev pub HumidityRule : Source → ℕ → HumidityFigures → Type 0
HumidityRule S m h = IsHumidity (state_at S m) (dry_at S m) (wet_at S m) (station_at S m) S.psychrometer h

-- 7: the station pressure or A is outside its limits, which happens only in a block that has the mark of a store and that
-- no opening made (`never_foreign`).
abbrev pub foreign : Source → ℕ → List (Test Numbered)
foreign S m = test 7 [] (not (inside recorded_pressure (station_at S m) && inside settings.psychrometer S.psychrometer)) ∷ []

-- ---- the four, row by row

pub data Asked : Type 0 where
  pressure tendency wind humidity : Asked

-- What a question's function returns, and the figures that it tells; the tests in their order, with more that the documents do not
-- have, and with tables of saturation; the rule of the figures; and, "Which channels feed what", the channels, and the minutes of
-- them that it reads where it is asked at one: none where it is refused 5 or 14.
pub record Question : Type 1 where
  pub Reply : Type 0
  pub Figures : Type 0
  pub told : Reply → Answer Numbered Figures
  pub tests : List (Test Numbered) → Tables → Source → ℕ → List (Test Numbered)
  pub Rule : Source → ℕ → Figures → Type 0
  pub channels : List ℕ
  pub minutes : ℕ → List ℕ

-- the minute itself
abbrev pub its : ℕ → List ℕ
its m = cond (too_late m).holds [] (m ∷ [])

abbrev pub question : Asked → Question
question pressure =
    record {
      Reply = Result Hectopascals QuestionRefusal;
      Figures = ℤ;
      told = pressure_as;
      tests = λ more tables. pressure_tests;
      Rule = PressureRule;
      channels = 0 ∷ 1 ∷ [];
      minutes = its;
    }
question tendency =
    record {
      Reply = Result PressureTendency QuestionRefusal;
      Figures = Change;
      told = tendency_as;
      tests = λ more tables. tendency_tests;
      Rule = λ S m t. TendencyRule S m t;
      channels = 0 ∷ 1 ∷ [];
      minutes = λ m. cond ((too_late m).holds || (no_three_hours m).holds) [] (m ∷ (m - three_hours) ∷ []);
    }
question wind =
    record {
      Reply = Result Wind QuestionRefusal;
      Figures = Wind;
      told = wind_as;
      tests = λ more tables. wind_tests;
      Rule = WindRule;
      channels = 2 ∷ 3 ∷ [];
      minutes = its;
    }
question humidity =
    record {
      Reply = Result HumidityFigures QuestionRefusal;
      Figures = HumidityFigures;
      told = humidity_as;
      tests = humidity_tests;
      Rule = HumidityRule;
      channels = 0 ∷ 4 ∷ 5 ∷ [];
      minutes = its;
    }

abbrev pub is_in : List ℕ → ℕ → Bool
is_in [] c = false
is_in (d ∷ cs) c = eqb c d || is_in cs c

-- Whether it reads the value of a channel's minute j.
abbrev pub reads : Asked → ℕ → ℕ → ℕ → Bool
reads q m c j = is_in (question q).channels c && is_in ((question q).minutes m) j

abbrev pub Reply : Asked → Type 0
Reply q = (question q).Reply

-- A question asked at minute m is answered by r: with the documents' tests, some before them and more among them, whatever the tables.
abbrev pub AnsweredBy : (q : Asked) → List (Test Numbered) → List (Test Numbered) → Source → ℕ → Reply q → Type 0
AnsweredBy q before more S m r =
    (tables : Tables) → AreTables tables → Answers (before ++ (question q).tests more tables S m) ((question q).Rule S m) ((question q).told r)

-- What document 01 says that the answer is, of settings and messages heard.
abbrev pub Tells : (q : Asked) → Source → ℕ → Reply q → Type 0
Tells q S m r = AnsweredBy q [] [] S m r

-- Among the tests of a block there is one more for humidity.
abbrev pub foreign_to : Asked → Source → ℕ → List (Test Numbered)
foreign_to pressure S m = []
foreign_to tendency S m = []
foreign_to wind S m = []
foreign_to humidity S m = foreign S m

-- What each function promises of the block that it is asked, whatever that holds: whether it is a store is tested first.
abbrev pub TellsOf : (q : Asked) → List ℕ → ℕ → Reply q → Type 0
TellsOf q s m r = AnsweredBy q (no_store s ∷ []) (foreign_to q (held s) m) (held s) m r
