-- What people read of an answer as it is told: its figures, or why there are none.
use Rattle.std.specs.Prelude.{cond, List, ℕ, eqb, replicate}
use Rattle.text.specs.Text.{Put}
use Rattle.spoken.specs.Sentences.{pressure_text, tendency_text, wind_text, humidity_text, reading_text}
use Rattle.spoken.specs.Refusals.{refusal_text}
use Rattle.told.specs.declared.Refusal.{Refusal}
use Rattle.told.specs.declared.PressureTold.{PressureTold}
use Rattle.told.specs.declared.TendencyTold.{TendencyTold}
use Rattle.told.specs.declared.WindTold.{WindTold}
use Rattle.told.specs.declared.HumidityTold.{HumidityTold}
use Rattle.kept.specs.declared.ReadingTold.{ReadingTold}

-- Bytes enough for every sentence, and a zero behind it (proofs/FitLaws of `spoken`).
abbrev pub SENTENCE : ℕ
SENTENCE = 160

-- A sentence was put into the lent bytes, which are `after` then, with zeros behind it; r is its length.
abbrev pub Says : List ℕ → List ℕ → ℕ → Type 0
Says sentence after r = Put (replicate SENTENCE 0) after 0 sentence r

-- 11 also returns "channel, minute", 12 "minute".
unfoldable pub refused_text : Refusal → List ℕ
refused_text r = cond (eqb r.number 11) (refusal_text r.number r.channel r.minute) (refusal_text r.number r.minute 0)

-- Why there are none, or the figures.
abbrev pub said_or : Refusal → List ℕ → List ℕ
said_or r figures = cond (eqb r.number 0) figures (refused_text r)

abbrev pub pressure_said : PressureTold → List ℕ
pressure_said t = said_or t.refusal (pressure_text t.pressure.v)

abbrev pub tendency_said : TendencyTold → List ℕ
tendency_said t = said_or t.refusal (tendency_text t.change.v t.absent)

abbrev pub wind_said : WindTold → List ℕ
wind_said t = said_or t.refusal (wind_text t.speed t.direction)

abbrev pub humidity_said : HumidityTold → List ℕ
humidity_said t = said_or t.refusal (humidity_text t.e t.saturation t.deficit t.relative t.dew.v)

abbrev pub reading_said : ReadingTold → List ℕ
reading_said t = said_or t.refusal (reading_text t.channel t.unit t.first.v t.second)
