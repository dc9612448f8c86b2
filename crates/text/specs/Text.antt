-- Numbers as text, fields and ends of lines, and text laid into a lent buffer.
use Rattle.std.specs.Prelude.{◌≡◌, cond, List, [], ◌∷◌, ◌++◌, ℕ, zero, suc, ◌+◌, ◌-◌, ◌*◌, ◌/◌, ◌%◌, min, ltb, ℤ, pos, negsuc, length}
use Rattle.std.proofs.lemmas.List.Edits.{sets}
use Rattle.std.specs.Borrow.{MutBor}
use Rattle.text.specs.Letters.{letters}
use Rattle.text.specs.declared.Page.{Page}

-- The byte of a digit: 48 is "0".
abbrev pub digit : ℕ → ℕ
digit d = 48 + d

-- The digits of n, no zero before them: those of its tenth part, then its last one. `most` of them at most.
unfoldable pub digits : ℕ → ℕ → List ℕ
digits zero n = []
digits (suc most) n = cond (ltb n 10) (digit n ∷ []) (digits most (n / 10) ++ (digit (n % 10) ∷ []))

-- A whole number as text: n has no more than n + 1 digits.
unfoldable pub decimal : ℕ → List ℕ
decimal n = digits (suc n) n

-- The number that digits say, read from the left behind a number n (`said 0 (decimal n)` is n: proofs/DecimalLaws).
abbrev pub said : ℕ → List ℕ → ℕ
said n [] = n
said n (x ∷ xs) = said (10 * n + (x - 48)) xs

-- A number with its sign.
unfoldable pub decimal_of : ℤ → List ℕ
decimal_of (pos n) = decimal n
decimal_of (negsuc n) = letters "-" ++ decimal (suc n)

-- A field of a line: a number behind a space.
abbrev pub field : ℕ → List ℕ
field n = letters " " ++ decimal n

abbrev pub field_of : ℤ → List ℕ
field_of z = letters " " ++ decimal_of z

-- "Each line ends with byte 0A."
abbrev pub end : List ℕ
end = letters "\n"

-- A buffer in which a text is laid, byte by byte, from a place on: as far as the buffer reaches, what lies beyond is cut off.
unfoldable pub put : List ℕ → ℕ → List ℕ → List ℕ
put buffer at text = sets buffer at text

-- The place behind the text: within the buffer, or at its end.
unfoldable pub behind : List ℕ → ℕ → List ℕ → ℕ
behind buffer at text = min (at + length text) (length buffer)

-- A text was put into a buffer, which is `after` then, and the place behind it given.
pub record Put (before after : List ℕ) (at : ℕ) (text : List ℕ) (place : ℕ) : Type 0 where
  pub laid : after ≡ put before at text
  pub next : place ≡ behind before at text

-- A page of these lent bytes, on which nothing is put yet.
pub record IsPage (page : Page) (lent : MutBor (List ℕ)) : Type 0 where
  pub text : page.text ≡ lent
  pub start : page.at ≡ 0

-- A text was put on a page behind what is there, in the bytes that it was lent.
pub record Puts (old new : Page) (text : List ℕ) : Type 0 where
  pub put : Put old.text.now new.text.now old.at text new.at
  pub lent : new.text.ghost_name ≡ old.text.ghost_name
