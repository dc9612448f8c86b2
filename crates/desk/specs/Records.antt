-- Answers as records of a watch file.
use Rattle.std.specs.Prelude.{ℕ, ℤ, nat_abs}
use Rattle.quantity.specs.declared.MetresPerSecond.{MetresPerSecond}
use Rattle.quantity.specs.declared.Degrees.{Degrees}
use Rattle.humidity.specs.declared.HumidityFigures.{HumidityFigures}
use Rattle.station.specs.Told.{Change}
use Rattle.watchfile.specs.Format.{kept}
use Rattle.watchfile.specs.declared.Record.{Record}
use Rattle.watchfile.specs.declared.Body.TheVariants.{Pressure, Tendency, Wind, Humidity}

abbrev pub pressure_record : ℕ → ℤ → Record
pressure_record m p = record { minute = m; body = Pressure (nat_abs p) }

abbrev pub tendency_record : ℕ → Change → Record
tendency_record m t = record { minute = m; body = Tendency (kept t.change) t.absent }

abbrev pub wind_record : ℕ → MetresPerSecond → Degrees → Record
wind_record m v d = record { minute = m; body = Wind v.0 d.0 }

abbrev pub humidity_record : ℕ → HumidityFigures → Record
humidity_record m h = record { minute = m; body = Humidity h.e.0 h.saturation.0 h.deficit.0 h.relative h.dew.0 }
