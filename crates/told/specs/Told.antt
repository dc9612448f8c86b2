-- Answers as C sees them: the documents' number, what a refusal also returns, and figures; 0 for what there is not.
use Rattle.std.specs.Prelude.{List, [], ◌∷◌, ℕ, ℤ, pos}
use Rattle.number.specs.Refusal.{Numbered, Answer, refused, given}
use Rattle.wind.specs.declared.Wind.{Wind}
use Rattle.humidity.specs.declared.HumidityFigures.{HumidityFigures}
use Rattle.station.specs.Told.{Change}
use Rattle.station.specs.Questions.{Asked, question}
use Rattle.station.specs.Questions as asked
use Rattle.told.specs.declared.HearTold.{HearTold}
use Rattle.told.specs.declared.NoteTold.{NoteTold}
use Rattle.told.specs.declared.Refusal.{Refusal}
use Rattle.told.specs.declared.PressureTold.{PressureTold}
use Rattle.told.specs.declared.TendencyTold.{TendencyTold}
use Rattle.told.specs.declared.WindTold.{WindTold}
use Rattle.told.specs.declared.HumidityTold.{HumidityTold}

-- ---- hearing

-- 19 also returns "the difference", in minutes, and an entry's 11 "channel, minute".
abbrev pub noted_as : ℕ → List ℕ → NoteTold
noted_as n [] = record { number = n; channel = 0; minute = 0; late = 0 }
noted_as n (late ∷ []) = record { number = n; channel = 0; minute = 0; late = late }
noted_as n (channel ∷ minute ∷ more) = record { number = n; channel = channel; minute = minute; late = 0 }

abbrev pub noted_in : Answer Numbered (Unit {0}) → NoteTold
noted_in (refused r) = noted_as r.number r.extra
noted_in (given a) = noted_as 0 []

-- A message needs no course: its number, and how late it is.
abbrev pub heard_in : Answer Numbered (Unit {0}) → HearTold
heard_in a = record { number = (noted_in a).number; late = (noted_in a).late }

-- ---- questions

-- 11 also returns "channel, minute", 12 "minute".
abbrev pub channel_in : List ℕ → ℕ
channel_in [] = 0
channel_in (m ∷ []) = 0
channel_in (c ∷ m ∷ more) = c

abbrev pub minute_in : List ℕ → ℕ
minute_in [] = 0
minute_in (m ∷ []) = m
minute_in (c ∷ m ∷ more) = m

abbrev pub refusal_in : Numbered → Refusal
refusal_in r = record { number = r.number; channel = channel_in r.extra; minute = minute_in r.extra }

abbrev pub none : Refusal
none = record { number = 0; channel = 0; minute = 0 }

abbrev pub pressure_in : Answer Numbered ℤ → PressureTold
pressure_in (refused r) = record { refusal = refusal_in r; pressure = record { v = pos 0 } }
pressure_in (given p) = record { refusal = none; pressure = record { v = p } }

abbrev pub tendency_in : Answer Numbered Change → TendencyTold
tendency_in (refused r) = record { refusal = refusal_in r; change = record { v = pos 0 }; absent = 0 }
tendency_in (given t) = record { refusal = none; change = record { v = t.change }; absent = t.absent }

abbrev pub wind_in : Answer Numbered Wind → WindTold
wind_in (refused r) = record { refusal = refusal_in r; speed = 0; direction = 0 }
wind_in (given w) = record { refusal = none; speed = w.speed.0; direction = w.direction.0 }

abbrev pub humidity_in : Answer Numbered HumidityFigures → HumidityTold
humidity_in (refused r) = record { refusal = refusal_in r; e = 0; saturation = 0; deficit = 0; relative = 0; dew = record { v = pos 0 } }
humidity_in (given h) =
    record { refusal = none; e = h.e.0; saturation = h.saturation.0; deficit = h.deficit.0; relative = h.relative; dew = h.dew.0 }

-- ---- each question

abbrev pub Told : Asked → Type 0
Told asked.pressure = PressureTold
Told asked.tendency = TendencyTold
Told asked.wind = WindTold
Told asked.humidity = HumidityTold

abbrev pub told_in : (q : Asked) → Answer Numbered (question q).Figures → Told q
told_in asked.pressure = pressure_in
told_in asked.tendency = tendency_in
told_in asked.wind = wind_in
told_in asked.humidity = humidity_in
