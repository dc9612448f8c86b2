-- Bytes in hex: two digits each. Read in either case, written in lower case.
use Rattle.std.specs.Prelude.{◌≡◌, Bool, true, false, ◌&&◌, cond, List, [], ◌∷◌, ◌++◌, ℕ, ◌+◌, ◌*◌, ◌-◌, ◌/◌, ◌%◌, leb, ltb, length, drop, Result, Ok, Err}
use Rattle.text.specs.Text.{digit as byte_of}
use Rattle.line.specs.Numeral.{digit}
use Rattle.hexadecimal.specs.Row.{row}
use Rattle.hexadecimal.specs.declared.HexRefusal.{HexRefusal}
use Rattle.hexadecimal.specs.declared.HexRefusal.TheVariants.{NotHex, NoRoom}

-- ---- from text

-- 0 to 9, A to F, a to f
abbrev pub upper_digit : ℕ → Bool
upper_digit b = leb 0x41 b && leb b 0x46

abbrev pub lower_digit : ℕ → Bool
lower_digit b = leb 0x61 b && leb b 0x66

-- What a hex digit stands for; any other byte for 16.
unfoldable pub hex_value : ℕ → ℕ
hex_value b = cond (digit b) (b - 0x30) (cond (upper_digit b) (b - 0x41 + 10) (cond (lower_digit b) (b - 0x61 + 10) 16))

abbrev pub hex_digit : ℕ → Bool
hex_digit b = ltb (hex_value b) 16

-- A word of an even number of hex digits.
unfoldable pub is_hex : List ℕ → Bool
is_hex [] = true
is_hex (a ∷ []) = false
is_hex (a ∷ b ∷ s) = hex_digit a && (hex_digit b && is_hex s)

-- Two digits a byte, the first worth sixteen.
unfoldable pub hex_bytes : List ℕ → List ℕ
hex_bytes [] = []
hex_bytes (a ∷ []) = []
hex_bytes (a ∷ b ∷ s) = (16 * hex_value a + hex_value b) ∷ hex_bytes s

-- A word in hex becomes bytes at the start of a lent buffer, and behind them stays what stood there. A word that is not hex, or
-- whose bytes have no room, leaves all of it.
pub record Unhexes (word before after : List ℕ) (r : Result ℕ HexRefusal) : Type 0 where
  pub answer : r ≡ cond (is_hex word) (cond (leb (length (hex_bytes word)) (length before)) (Ok (length (hex_bytes word))) (Err NoRoom)) (Err NotHex)
  pub bytes : after ≡ cond (is_hex word && leb (length (hex_bytes word)) (length before)) (hex_bytes word ++ drop (length (hex_bytes word)) before) before

-- ---- to text

-- The byte of a digit of sixteen: "0" to "9", then "a" (97) to "f".
abbrev pub digit16 : ℕ → ℕ
digit16 d = cond (ltb d 10) (byte_of d) (87 + d)

-- A byte: how many sixteens, and what is left.
abbrev pub hex_of : ℕ → List ℕ
hex_of b = digit16 (b / 16) ∷ digit16 (b % 16) ∷ []

-- Bytes, one behind the other.
abbrev pub hex : List ℕ → List ℕ
hex bytes = row hex_of bytes
