-- What the whole answers: the true wind, or that a number is outside its limits.
use Rattle.std.specs.Prelude.{◌≡◌, Bool, true, false, ◌&&◌, ℕ, pos, Option, Some, None}
use Rattle.quantity.specs.Limits.{inside, degrees, knots, metres_per_second}
use Rattle.quantity.specs.Convert.{parts_of_knots, parts_of_metres, kept_direction}
use Rattle.wind.specs.declared.Wind.{Wind}
use Rattle.wind.specs.Wind.{Nearest, between, from}

-- The limits of channels 2 and 3
unfoldable pub within_limits : ℕ → ℕ → ℕ → ℕ → Bool
within_limits course ship apparent from_bow =
    inside degrees (pos course) && inside knots (pos ship) && inside metres_per_second (pos apparent) && inside degrees (pos from_bow)

-- A wind of v tenths of m/s from d degrees.
pub record Blowing (course s k r v d : ℕ) : Type 0 where
  pub speed : Nearest s k r v
  pub direction : d ≡ from course r (between s k r) v

-- "s = 0.5144 times ship speed, k = apparent speed"; "A direction of 360 is kept as 0."
abbrev pub IsWind : ℕ → ℕ → ℕ → ℕ → Option Wind → Type 0
IsWind course ship apparent from_bow (Some wind) =
    (within_limits course ship apparent from_bow ≡ true)
    × Blowing (kept_direction course) (parts_of_knots ship) (parts_of_metres apparent) (kept_direction from_bow) wind.speed.0 wind.direction.0
IsWind course ship apparent from_bow None = within_limits course ship apparent from_bow ≡ false
