-- The sine and the cosine of x half degrees, x any number, in millionths.
-- "One table gives the sine at each half degree from 0 to 90 in millionths, 181 entries; other angles follow by symmetry."
use Rattle.std.specs.Prelude.{◌≡◌, Bool, cond, ℕ, suc, ◌+◌, ◌-◌, ◌%◌, leb, ltb, ℤ, pos, negsuc, get_or}
use Rattle.number.specs.Whole.{signed}
use Rattle.sine.specs.Sines.{sines}

abbrev pub entry : ℕ → ℕ
entry i = get_or sines i 0

-- The second quarter turn runs back over the first.
unfoldable pub fold : ℕ → ℕ
fold y = cond (leb y 180) y (360 - y)

-- Half a turn on the sine has the same size ..
unfoldable pub size : ℕ → ℕ
size x = entry (fold (x % 360))

-- .. and the other sign: it is minus in the second half turn.
abbrev pub is_minus : ℕ → Bool
is_minus x = ltb 360 (x % 720)

unfoldable pub sine : ℕ → ℤ
sine x = signed (is_minus x) (size x)

-- The cosine is the sine a quarter turn on.
unfoldable pub cosine : ℕ → ℤ
cosine x = sine (x + 180)

-- A number with a sign as code gives it: how far it lies above zero, and how far below.
abbrev pub above : ℤ → ℕ
above (pos n) = n
above (negsuc n) = 0

abbrev pub below : ℤ → ℕ
below (pos n) = 0
below (negsuc n) = suc n

pub record Parts (z : ℤ) (up down : ℕ) : Type 0 where
  pub up_is : up ≡ above z
  pub down_is : down ≡ below z
