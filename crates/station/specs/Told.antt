-- Document 01's number and values of each case of an answer, and the number of a block that is no store.
use Rattle.std.specs.Prelude.{[], ◌∷◌, ℕ, ℤ, Result, Ok, Err}
use Rattle.number.specs.Refusal.{Numbered, numbered, Answer, refused, given}
use Rattle.block.specs.Layout.{NO_STORE}
use Rattle.quantity.specs.declared.Hectopascals.{Hectopascals}
use Rattle.wind.specs.declared.Wind.{Wind}
use Rattle.humidity.specs.declared.HumidityFigures.{HumidityFigures}
use Rattle.station.specs.declared.QuestionRefusal.{QuestionRefusal}
use Rattle.station.specs.declared.QuestionRefusal.TheVariants.{MinuteTooLate, OutsideLimits, MissingReading, OutsideCertificate, WetAboveDry, NoThreeHours, TooDry, TooWarmForIce, UnknownOutsideRange, AboveSaturation, NoStore}
use Rattle.station.specs.declared.Refused.{Refused}
use Rattle.station.specs.declared.Refused.TheVariants.{Plain, OfMinute, OfReading}
use Rattle.station.specs.declared.PressureTendency.{PressureTendency}

abbrev pub refusal_of : QuestionRefusal → Numbered
refusal_of MinuteTooLate = numbered 5 []
refusal_of OutsideLimits = numbered 7 []
refusal_of (MissingReading c m) = numbered 11 (c ∷ m.0 ∷ [])
refusal_of (OutsideCertificate m) = numbered 12 (m.0 ∷ [])
refusal_of WetAboveDry = numbered 13 []
refusal_of NoThreeHours = numbered 14 []
refusal_of TooDry = numbered 15 []
refusal_of TooWarmForIce = numbered 20 []
refusal_of UnknownOutsideRange = numbered 21 []
refusal_of AboveSaturation = numbered 22 []
refusal_of NoStore = numbered NO_STORE []

-- The same as a number with what it also returns.
abbrev pub numbered_as : Refused → Numbered
numbered_as (Plain n) = numbered n []
numbered_as (OfMinute n m) = numbered n (m.0 ∷ [])
numbered_as (OfReading n c m) = numbered n (c ∷ m.0 ∷ [])

-- A change of pressure in tenths of hPa, and how many minutes are absent.
pub record Change : Type 0 where
  pub change : ℤ
  pub absent : ℕ

-- tenths of hPa
abbrev pub pressure_as : Result Hectopascals QuestionRefusal → Answer Numbered ℤ
pressure_as (Ok p) = given p.0.v
pressure_as (Err r) = refused (refusal_of r)

abbrev pub tendency_as : Result PressureTendency QuestionRefusal → Answer Numbered Change
tendency_as (Ok t) = given (record { change = t.change.0.v; absent = t.absent })
tendency_as (Err r) = refused (refusal_of r)

abbrev pub wind_as : Result Wind QuestionRefusal → Answer Numbered Wind
wind_as (Ok w) = given w
wind_as (Err r) = refused (refusal_of r)

abbrev pub humidity_as : Result HumidityFigures QuestionRefusal → Answer Numbered HumidityFigures
humidity_as (Ok h) = given h
humidity_as (Err r) = refused (refusal_of r)
