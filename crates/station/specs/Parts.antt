-- What the parts of a question promise each other. Each part has its own of the question's tests.
use Rattle.std.specs.Prelude.{◌≡◌, false, List, [], ◌∷◌, ℕ, Option, Some, None, Result, Ok, Err}
use Rattle.number.specs.Refusal.{Numbered, Answer, refused, given}
use Rattle.quantity.specs.declared.BulbState.{BulbState}
use Rattle.quantity.specs.declared.BulbTemperature.{BulbTemperature}
use Rattle.quantity.specs.declared.Degrees.{Degrees}
use Rattle.quantity.specs.declared.Hectopascals as hectopascals
use Rattle.quantity.specs.declared.Knots.{Knots}
use Rattle.quantity.specs.declared.MetresPerSecond.{MetresPerSecond}
use Rattle.quantity.specs.declared.WheelhouseTemperature.{WheelhouseTemperature}
use Rattle.message.specs.Receive.{entry_of}
use Rattle.message.specs.declared.Reading.{Reading}
use Rattle.message.specs.declared.Reading.TheVariants.{Hectopascals, Millimetres, Wheelhouse, ApparentWind, ShipMotion, DryBulb, WetBulb}
use Rattle.cell.specs.Cells.{Recall, recalled, is_present}
use Rattle.store.specs.Block.{no_store}
use Rattle.pressure.specs.declared.BarometerReading.{BarometerReading}
use Rattle.pressure.specs.declared.BarometerReading.TheVariants as shown
use Rattle.pressure.specs.declared.PressureRefusal.{PressureRefusal}
use Rattle.pressure.specs.declared.PressureRefusal.TheVariants as pressed
use Rattle.humidity.specs.declared.HumidityRefusal.{HumidityRefusal}
use Rattle.humidity.specs.declared.HumidityRefusal.TheVariants as moist
use Rattle.station.specs.Source.{Source}
use Rattle.station.specs.Questions.{Answers, too_late, missing_at, outside_at, station_at, PressureRule}
use Rattle.station.specs.Told.{refusal_of, pressure_as}
use Rattle.station.specs.declared.QuestionRefusal.{QuestionRefusal}
use Rattle.station.specs.declared.QuestionRefusal.TheVariants.{OutsideLimits, MissingReading, OutsideCertificate, WetAboveDry, TooDry, TooWarmForIce, UnknownOutsideRange, AboveSaturation}
use Rattle.station.specs.declared.Readings.{Readings}

-- what a part gives, or why it refuses
abbrev pub part_as : {A : Type 0} → Result A QuestionRefusal → Answer Numbered A
part_as (Ok a) = given a
part_as (Err r) = refused (refusal_of r)

-- what a part gives, or the channel that has no reading at a minute
abbrev pub channel_as : {A : Type 0} → ℕ → Result A ℕ → Answer Numbered A
channel_as m (Ok a) = given a
channel_as m (Err c) = refused (refusal_of (MissingReading c (record { 0 = m })))

-- ---- the tests that every question begins with

abbrev pub Begins : List ℕ → ℕ → Result (Unit {0}) QuestionRefusal → Type 0
Begins s m r = Answers (no_store s ∷ too_late m ∷ []) (λ u. Unit {0}) (part_as r)

-- ---- what is kept

-- A reading of one kind: `of` tells what its channel keeps.
abbrev pub Keeps : {A : Type 0} → (A → Reading) → Recall → ℕ → Option A → Type 0
Keeps of x m None = is_present x ≡ false
Keeps of x m (Some a) = x ≡ recalled (entry_of m (of a))

abbrev pub barometer_is : BarometerReading → Reading
barometer_is (shown.Hectopascals p) = Hectopascals p
barometer_is (shown.Millimetres p) = Millimetres p

abbrev pub wheelhouse_is : WheelhouseTemperature → Reading
wheelhouse_is t = Wheelhouse t

abbrev pub felt_is : MetresPerSecond × Degrees → Reading
felt_is w = ApparentWind w.0 w.1

abbrev pub motion_is : Knots × Degrees → Reading
motion_is w = ShipMotion w.0 w.1

abbrev pub dry_bulb_is : BulbTemperature → Reading
dry_bulb_is t = DryBulb t

abbrev pub wet_bulb_is : BulbState × BulbTemperature → Reading
wet_bulb_is w = WetBulb w.0 w.1

-- ---- pressure

-- what the barometer and the thermometer in the wheelhouse show at a minute
pub record AreReadings (S : Source) (m : ℕ) (r : Readings) : Type 0 where
  pub barometer : S.recall 0 m ≡ recalled (entry_of m (barometer_is r.barometer))
  pub wheelhouse : S.recall 1 m ≡ recalled (entry_of m (wheelhouse_is r.wheelhouse))

abbrev pub ReadsBoth : Source → ℕ → Result Readings ℕ → Type 0
ReadsBoth S m r = Answers (missing_at S m 0 ∷ missing_at S m 1 ∷ []) (AreReadings S m) (channel_as m r)

abbrev pub WorksSeaLevel : Source → ℕ → Result hectopascals.Hectopascals QuestionRefusal → Type 0
WorksSeaLevel S m r = Answers (outside_at S m ∷ []) (PressureRule S m) (pressure_as r)

-- what they come to, where both are there
pub record WorkedAt (S : Source) (m : ℕ) (told : Result hectopascals.Hectopascals QuestionRefusal) : Type 0 where
  pub readings : Readings
  pub are : AreReadings S m readings
  pub sea_level : WorksSeaLevel S m told

abbrev pub SeaLevelAt : Source → ℕ → Result (Result hectopascals.Hectopascals QuestionRefusal) ℕ → Type 0
SeaLevelAt S m r = Answers (missing_at S m 0 ∷ missing_at S m 1 ∷ []) (WorkedAt S m) (channel_as m r)

abbrev pub WorksStation : Source → ℕ → Result hectopascals.Hectopascals QuestionRefusal → Type 0
WorksStation S m r = Answers (outside_at S m ∷ []) (λ p. p ≡ station_at S m) (pressure_as r)

-- ---- refusals of what a question is worked by

abbrev pub refused_at : ℕ → PressureRefusal → QuestionRefusal
refused_at m pressed.OutsideLimits = OutsideLimits
refused_at m pressed.OutsideCertificate = OutsideCertificate (record { 0 = m })

abbrev pub moist_as : HumidityRefusal → QuestionRefusal
moist_as moist.WetAboveDry = WetAboveDry
moist_as moist.TooWarmForIce = TooWarmForIce
moist_as moist.UnknownOutsideRange = UnknownOutsideRange
moist_as moist.AboveSaturation = AboveSaturation
moist_as moist.TooDry = TooDry
moist_as moist.OutsideLimits = OutsideLimits
