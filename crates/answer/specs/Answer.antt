-- The station's answers as lines of text: a letter, the minute and the figures in order, or the documents' number of a refusal and
-- what it also returns.
use Rattle.std.specs.Prelude.{cond, List, [], ◌∷◌, ◌++◌, ℕ, eqb, Result, Ok, Err}
use Rattle.number.specs.Refusal.{Numbered, numbered, Answer, refused, given}
use Rattle.text.specs.Letters.{letters}
use Rattle.text.specs.Text.{field, field_of, end}
use Rattle.settings.specs.Settings.{checked_as}
use Rattle.settings.specs.declared.SettingsRefusal.{SettingsRefusal}
use Rattle.store.specs.Block.{heard_as}
use Rattle.store.specs.declared.HearingRefusal.{HearingRefusal}
use Rattle.quantity.specs.declared.Hectopascals.{Hectopascals}
use Rattle.wind.specs.declared.Wind.{Wind}
use Rattle.humidity.specs.declared.HumidityFigures.{HumidityFigures}
use Rattle.station.specs.Told.{refusal_of}
use Rattle.station.specs.declared.QuestionRefusal.{QuestionRefusal}
use Rattle.station.specs.declared.PressureTendency.{PressureTendency}
use Rattle.writer.specs.Write.{written_as}
use Rattle.writer.specs.declared.WriteRefusal.{WriteRefusal}
use Rattle.hexadecimal.specs.Row.{row}
use Rattle.hexadecimal.specs.Hex.{hex}

-- Numbers, each behind a space.
abbrev pub fields : List ℕ → List ℕ
fields numbers = row field numbers

-- "A refusal returns its number, the extra shown, and no figure."
abbrev pub refused_line : Numbered → List ℕ
refused_line r = letters "refused" ++ (fields (r.number ∷ r.extra) ++ end)

-- A word, or a refusal that has nothing but its number.
abbrev pub word_line : {A : Type 0} → List ℕ → Answer ℕ A → List ℕ
word_line word (given a) = word ++ end
word_line word (refused n) = refused_line (numbered n [])

-- The same by the number alone, 0 where nothing is refused.
abbrev pub number_line : List ℕ → ℕ → List ℕ
number_line word n = cond (eqb n 0) (word ++ end) (refused_line (numbered n []))

-- `open`
abbrev pub opening_line : Result (Unit {0}) SettingsRefusal → List ℕ
opening_line r = word_line (letters "open") (checked_as r)

-- A line, or a refusal with what it also returns.
abbrev pub answer_line : {A : Type 0} → List ℕ → Answer Numbered A → List ℕ
answer_line line (given a) = line
answer_line line (refused r) = refused_line r

-- A word, or the refusal of a message or of an entry.
abbrev pub heard_line : List ℕ → Result (Unit {0}) HearingRefusal → List ℕ
heard_line word r = answer_line (word ++ end) (heard_as r)

-- `heard`, or `refused 19 60`: sixty minutes late
abbrev pub hearing_line : Result (Unit {0}) HearingRefusal → List ℕ
hearing_line r = heard_line (letters "heard") r

-- `noted`, or `refused 11 3 820`: no course at minute 820
abbrev pub noting_line : Result (Unit {0}) HearingRefusal → List ℕ
noting_line r = heard_line (letters "noted") r

-- `P 280 9900`: minute, tenths of hPa
abbrev pub pressure_line : ℕ → Result Hectopascals QuestionRefusal → List ℕ
pressure_line minute (Ok p) = letters "P" ++ (field minute ++ (field_of p.0.v ++ end))
pressure_line minute (Err r) = refused_line (refusal_of r)

-- `T 280 -18 179`: minute, change in tenths of hPa, absent minutes
abbrev pub tendency_line : ℕ → Result PressureTendency QuestionRefusal → List ℕ
tendency_line minute (Ok t) = letters "T" ++ (field minute ++ (field_of t.change.0.v ++ (field t.absent ++ end)))
tendency_line minute (Err r) = refused_line (refusal_of r)

-- `W 280 48 60`: minute, tenths of m/s, degrees
abbrev pub wind_line : ℕ → Result Wind QuestionRefusal → List ℕ
wind_line minute (Ok w) = letters "W" ++ (field minute ++ (field w.speed.0 ++ (field w.direction.0 ++ end)))
wind_line minute (Err r) = refused_line (refusal_of r)

-- e, saturation and deficit in hundredths of hPa, percent, dew point in tenths of °C, and the end of the line
abbrev pub humidity_fields : HumidityFigures → List ℕ
humidity_fields h =
    field h.e.0 ++ (field h.saturation.0 ++ (field h.deficit.0 ++ (field h.relative ++ (field_of h.dew.0.v ++ end))))

-- `H 280 1366 2335 969 59 116`: minute, and these
abbrev pub humidity_line : ℕ → Result HumidityFigures QuestionRefusal → List ℕ
humidity_line minute (Ok h) = letters "H" ++ (field minute ++ humidity_fields h)
humidity_line minute (Err r) = refused_line (refusal_of r)

-- `file 57540100`: the bytes of the file
abbrev pub file_line : List ℕ → List ℕ
file_line file = letters "file " ++ (hex file ++ end)

-- A file that was written, or the refusal.
abbrev pub written_line : List ℕ → Result ℕ WriteRefusal → List ℕ
written_line file r = answer_line (file_line file) (written_as r)
