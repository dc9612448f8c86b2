-- The conversions between quantities, one for each pair that a formula joins.
use Rattle.std.specs.Prelude.{ℕ, ◌*◌, ◌%◌, ℤ, pos, ◌*ℤ◌}
use Rattle.number.specs.Round.{rounded}

-- "times 1.3332 if in mm Hg, rounded to 0.1 hPa": tenths to tenths
abbrev pub in_hectopascals : ℤ → ℤ
in_hectopascals tenths = rounded (tenths *ℤ pos 13332) 10000

-- "s = 0.5144 times ship speed", exactly: tenths of a knot in parts of 1/12500 m/s
abbrev pub parts_of_knots : ℕ → ℕ
parts_of_knots tenths = 643 * tenths

-- Tenths of m/s in the same parts
abbrev pub parts_of_metres : ℕ → ℕ
parts_of_metres tenths = 1250 * tenths

-- "A direction of 360 is kept as 0."
abbrev pub kept_direction : ℕ → ℕ
kept_direction n = n % 360
