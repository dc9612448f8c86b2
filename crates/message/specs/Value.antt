-- What a binary32 value is kept as: a whole number of tenths or degrees.
use Rattle.std.specs.Prelude.{Bool, cond, ℕ, ◌+◌, ◌*◌, ◌/◌, ◌%◌, eqb, ℤ, pos, Float}
use Rattle.std.specs.Float.{nan, inf, fin}
use Rattle.std.specs.Float.Ieee.{up, down}
use Rattle.number.specs.Whole.{signed}
use Rattle.number.specs.Round.{nearest}

-- Whether num / den, den above 0, lies in the middle between two whole numbers: what is left of num is half of den.
abbrev pub is_half : ℕ → ℕ → Bool
is_half num den = eqb (2 * (num % den)) den

-- Of n and n + 1 the even one.
abbrev pub even_from : ℕ → ℕ
even_from n = n + n % 2

-- "Rounding of a message's value goes to the even tenth or degree on an exact half"; any other goes to the nearest.
unfoldable pub to_whole : ℕ → ℕ → ℕ
to_whole num den = cond (is_half num den) (even_from (num / den)) (nearest num den)

-- n times a value, rounded. A finite value is plus or minus m * 2 ^ e, written as the fraction m * up e / down e. (A value
-- that is not finite is refused before, and stands here as 0.)
abbrev pub times_rounded : ℕ → Float → ℤ
times_rounded n nan = pos 0
times_rounded n (inf minus) = pos 0
times_rounded n (fin minus m e) = signed minus (to_whole (n * (m * up e)) (down e))

-- "Ten times a binary32 value is taken exactly before it is rounded to tenths"
abbrev pub tenths : Float → ℤ
tenths x = times_rounded 10 x

-- "degrees are rounded as they come"
abbrev pub degrees : Float → ℤ
degrees x = times_rounded 1 x
