-- Figures as people read them: the sign, the point, and the unit's letters.
use Rattle.std.specs.Prelude.{cond, List, [], ◌∷◌, ◌++◌, ℕ, suc, ◌/◌, ◌%◌, eqb, ℤ, pos, negsuc}
use Rattle.std.specs.Int.Signed.{lt_z}
use Rattle.text.specs.Letters.{letters}
use Rattle.text.specs.Text.{digit, decimal}

-- So many tenths: 10057 is `1005.7`.
abbrev pub tenths : ℕ → List ℕ
tenths n = decimal (n / 10) ++ (letters "." ++ (digit (n % 10) ∷ []))

-- So many hundredths: 910 is `9.10`.
abbrev pub hundredths : ℕ → List ℕ
hundredths n = decimal (n / 100) ++ (letters "." ++ (digit (n / 10 % 10) ∷ (digit (n % 10) ∷ [])))

-- Tenths with a minus, where they have one: `-0.1`.
abbrev pub tenths_of : ℤ → List ℕ
tenths_of (pos n) = tenths n
tenths_of (negsuc n) = letters "-" ++ tenths (suc n)

-- A change: a rise has a plus, `+0.4`.
abbrev pub change_of : ℤ → List ℕ
change_of z = cond (lt_z (pos 0) z) (letters "+" ++ tenths_of z) (tenths_of z)

-- The degree sign, two bytes of UTF-8, and the unit of temperatures.
abbrev pub degree : List ℕ
degree = 0xC2 ∷ 0xB0 ∷ []

abbrev pub celsius : List ℕ
celsius = letters " " ++ (degree ++ letters "C")

-- So many of something: `1 minute`, `11 minutes`.
abbrev pub minutes : ℕ → List ℕ
minutes n = decimal n ++ cond (eqb n 1) (letters " minute") (letters " minutes")
