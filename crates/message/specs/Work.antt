-- What the private functions compute. A reader of the promises needs nothing of this file.
use Rattle.std.specs.Prelude.{◌≡◌, Bool, true, false, ℕ, zero, suc, ◌+◌, ◌*◌, ◌^◌, min, ℤ, pos, Float, Option, MatchOption}
use Rattle.std.specs.Float.{nan, inf, fin}
use Rattle.std.specs.Float.Ieee.{up, down}
use Rattle.number.specs.Whole.{signed}
use Rattle.message.specs.Value.{to_whole}

-- The digits of a binary64 pattern, with the leading one that normal numbers leave out.
abbrev pub digits : ℕ → ℕ → ℕ
digits zero frac = frac
digits (suc field) frac = 2 ^ 52 + frac

-- A size above this is taken for this: far above every limit.
abbrev pub most : ℕ
most = 4294967295

abbrev pub capped : ℕ → Float → ℤ
capped n nan = pos 0
capped n (inf minus) = pos 0
capped n (fin minus m e) = signed minus (min (to_whole (n * (m * up e)) (down e)) most)

-- Something is kept exactly where a test holds, and P says what.
abbrev pub KeptIf : {A : Type 0} → Bool → (A → Type 0) → Option A → Type 0
KeptIf b P r = MatchOption r (b ≡ false) (λ a. (b ≡ true) × P a)
