-- Numerals: an optional `-` (2D) and then one or more digits (30 to 39), and nothing else. `-0` is 0, zeros may lead. A numeral that
-- does not fit what it stands for says no number, and is never cut.
use Rattle.std.specs.Prelude.{Bool, true, false, ◌&&◌, cond, List, [], ◌∷◌, ℕ, ◌+◌, ◌-◌, leb, eqb, drop, Option, Some, None}
use Rattle.text.specs.Text.{said}

abbrev pub digit : ℕ → Bool
digit b = leb 0x30 b && leb b 0x39

unfoldable pub every_digit : List ℕ → Bool
every_digit [] = true
every_digit (b ∷ s) = digit b && every_digit s

-- One or more digits.
abbrev pub digits : List ℕ → Bool
digits [] = false
digits (b ∷ s) = every_digit (b ∷ s)

-- The number that digits say, whatever its size.
abbrev pub natural : List ℕ → Option ℕ
natural s = cond (digits s) (Some (said 0 s)) None

-- A number that is no larger than `most`.
abbrev pub up_to : ℕ → Option ℕ → Option ℕ
up_to most (Some n) = cond (leb n most) (Some n) None
up_to most None = None

-- Whether a text begins with a minus.
abbrev pub minus : List ℕ → Bool
minus [] = false
minus (b ∷ s) = eqb b 0x2D

-- For a field without a sign: up to `most`, and behind a minus only 0.
unfoldable pub whole : ℕ → List ℕ → Option ℕ
whole most s = cond (minus s) (up_to 0 (natural (drop 1 s))) (up_to most (natural s))

-- For a field with a sign, of 32 bits: how far the number lies above the least one, -2147483648.
abbrev pub less : Option ℕ → Option ℕ
less (Some n) = Some (2147483648 - n)
less None = None

abbrev pub plus : Option ℕ → Option ℕ
plus (Some n) = Some (2147483648 + n)
plus None = None

unfoldable pub signed : List ℕ → Option ℕ
signed s = cond (minus s) (less (up_to 2147483648 (natural (drop 1 s)))) (plus (up_to 2147483647 (natural s)))
