-- The entry that an answer of the station makes in a watch file: its record, or none. A refusal makes none, and neither does a figure
-- that its field cannot hold.
use Rattle.std.specs.Prelude.{Bool, ◌&&◌, cond, ℕ, leb, ℤ, pos, neg_ℤ, Option, Some, None, Result, Ok, Err}
use Rattle.number.specs.Whole.{within}
use Rattle.quantity.specs.declared.Hectopascals.{Hectopascals}
use Rattle.wind.specs.declared.Wind.{Wind}
use Rattle.humidity.specs.declared.HumidityFigures.{HumidityFigures}
use Rattle.station.specs.declared.QuestionRefusal.{QuestionRefusal}
use Rattle.station.specs.declared.PressureTendency.{PressureTendency}
use Rattle.watchfile.specs.declared.Record.{Record}
use Rattle.desk.specs.Records.{pressure_record, tendency_record, wind_record, humidity_record}

-- Fields of two bytes, of two bytes with a sign, and of one byte, hold these.
abbrev pub fits16 : ℕ → Bool
fits16 n = leb n 65535

abbrev pub fits_signed : ℤ → Bool
fits_signed z = within (neg_ℤ (pos 32768)) (pos 32767) z

abbrev pub fits8 : ℕ → Bool
fits8 n = leb n 255

-- A pressure's field has no sign.
abbrev pub fits_pressure : ℤ → Bool
fits_pressure z = within (pos 0) (pos 65535) z

abbrev pub entered : Bool → Record → Option Record
entered fit r = cond fit (Some r) None

abbrev pub pressure_entry : ℕ → Result Hectopascals QuestionRefusal → Option Record
pressure_entry m (Ok p) = entered (fits_pressure p.0.v) (pressure_record m p.0.v)
pressure_entry m (Err r) = None

abbrev pub tendency_entry : ℕ → Result PressureTendency QuestionRefusal → Option Record
tendency_entry m (Ok t) = entered (fits_signed t.change.0.v && fits8 t.absent) (tendency_record m (record { change = t.change.0.v; absent = t.absent }))
tendency_entry m (Err r) = None

abbrev pub wind_entry : ℕ → Result Wind QuestionRefusal → Option Record
wind_entry m (Ok w) = entered (fits16 w.speed.0 && fits16 w.direction.0) (wind_record m w.speed w.direction)
wind_entry m (Err r) = None

abbrev pub humidity_entry : ℕ → Result HumidityFigures QuestionRefusal → Option Record
humidity_entry m (Ok h) =
    entered (fits16 h.e.0 && fits16 h.saturation.0 && fits16 h.deficit.0 && fits8 h.relative && fits_signed h.dew.0.v) (humidity_record m h)
humidity_entry m (Err r) = None
