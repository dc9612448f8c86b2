-- The rounding rule. (Only a message's value goes another way, on an exact half: `to_whole` in crate `message`.)
use Rattle.std.specs.Prelude.{ℕ, suc, ◌+◌, ◌*◌, ◌/◌, ℤ, pos, negsuc, neg_ℤ}

-- "Round" means to the nearest, halves away from zero: num / den, den above 0.
unfoldable pub nearest : ℕ → ℕ → ℕ
nearest num den = (2 * num + den) / (2 * den)

-- The same of a number with a sign: the sign stays, the size is rounded.
unfoldable pub rounded : ℤ → ℕ → ℤ
rounded (pos n) den = pos (nearest n den)
rounded (negsuc n) den = neg_ℤ (pos (nearest (suc n) den))
