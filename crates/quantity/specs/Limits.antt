-- The limits of each quantity (document 01, "Messages": the table, "Limits after rounding"; of what is worked from readings,
-- "Watch file").
use Rattle.std.specs.Prelude.{Bool, ℕ, ◌-◌, ℤ, pos, neg_ℤ}
use Rattle.number.specs.Whole.{within}
use Rattle.quantity.specs.declared.BarometerUnit.{BarometerUnit}
use Rattle.quantity.specs.declared.BarometerUnit.TheVariants.{Hectopascals, Millimetres}

pub record Limits : Type 0 where
  pub low : ℤ
  pub high : ℤ

-- Whether a number lies within limits, both included.
abbrev pub inside : Limits → ℤ → Bool
inside l z = within l.low l.high z

-- 850.0 to 1100.0 hPa
abbrev pub hectopascals : Limits
hectopascals = record { low = pos 8500; high = pos 11000 }

-- "1 pressure: 8000 to 11500 tenths hPa"
abbrev pub recorded_pressure : Limits
recorded_pressure = record { low = pos 8000; high = pos 11500 }

-- "2 tendency: -3000 to 3000", in tenths of hPa
abbrev pub pressure_change : Limits
pressure_change = record { low = neg_ℤ (pos 3000); high = pos 3000 }

-- 640.0 to 825.0 mm Hg
abbrev pub millimetres : Limits
millimetres = record { low = pos 6400; high = pos 8250 }

-- a barometer's, by its unit
abbrev pub pressure_limits : BarometerUnit → Limits
pressure_limits Hectopascals = hectopascals
pressure_limits Millimetres = millimetres

-- wheelhouse thermometer: -40.0 to 60.0 °C
abbrev pub wheelhouse : Limits
wheelhouse = record { low = neg_ℤ (pos 400); high = pos 600 }

-- dry bulb, wet bulb: -40.0 to 50.0 °C
abbrev pub bulb : Limits
bulb = record { low = neg_ℤ (pos 400); high = pos 500 }

-- a wet bulb under ice: "A second table is wanted from -40.0 to 0.0" (document 02, W3)
abbrev pub frost : Limits
frost = record { low = neg_ℤ (pos 400); high = pos 0 }

-- the air in which its state may be unknown: "above -10.0 and at most 0.0", in tenths -9.9 to 0.0
abbrev pub doubtful : Limits
doubtful = record { low = neg_ℤ (pos 99); high = pos 0 }

-- apparent wind: 0 to 75.0 m/s
abbrev pub metres_per_second : Limits
metres_per_second = record { low = pos 0; high = pos 750 }

-- "3 wind: speed 0 to 956", in tenths of m/s
abbrev pub highest_wind : ℕ
highest_wind = 956

abbrev pub true_wind : Limits
true_wind = record { low = pos 0; high = pos highest_wind }

-- ship motion: 0 to 40.0 knots
abbrev pub knots : Limits
knots = record { low = pos 0; high = pos 400 }

-- whole degrees: 0 to 360
abbrev pub degrees : Limits
degrees = record { low = pos 0; high = pos 360 }

-- "minute above 16,777,215" is refusal 5
abbrev pub last_minute : ℕ
last_minute = 16777215

-- "Tendency at minute m: sea level pressure at m less that at m - 180"; "minute at least 180"
abbrev pub three_hours : ℕ
three_hours = 180

-- "the 179 strictly between"
abbrev pub minutes_between : ℕ
minutes_between = three_hours - 1
