-- Which values a message may carry: "infinite or not a number" is refused.
use Rattle.std.specs.Prelude.{Bool, true, false, T, Float}
use Rattle.std.specs.Float.{nan, inf, fin}

abbrev pub is_finite : Float → Bool
is_finite nan = false
is_finite (inf minus) = false
is_finite (fin minus m e) = true

abbrev pub Finite : Float → Type 0
Finite x = T (is_finite x)
