-- Numbers as bytes, "little endian".
use Rattle.std.specs.Prelude.{cond, List, [], ◌∷◌, ℕ, ◌+◌, ◌*◌, ◌/◌, ◌%◌, ◌<◌, ltb, ℤ, pos, nat_abs, ◌+ℤ◌, ◌-ℤ◌, get_or}

-- Bytes are below 256.
abbrev pub AreBytes : List ℕ → Type 0
AreBytes s = (i : ℕ) → get_or s i 0 < 256

-- The number in two and in four bytes from a place on.
abbrev pub le16 : List ℕ → ℕ → ℕ
le16 s k = get_or s k 0 + 256 * get_or s (k + 1) 0

abbrev pub le32 : List ℕ → ℕ → ℕ
le32 s k = get_or s k 0 + 256 * get_or s (k + 1) 0 + 65536 * get_or s (k + 2) 0 + 16777216 * get_or s (k + 3) 0

-- A number's two and four bytes.
abbrev pub bytes16 : ℕ → List ℕ
bytes16 n = n % 256 ∷ n / 256 ∷ []

abbrev pub bytes32 : ℕ → List ℕ
bytes32 n = n % 256 ∷ n / 256 % 256 ∷ n / 65536 % 256 ∷ n / 16777216 ∷ []

-- A signed number in two bytes (two's complement), and back.
abbrev pub signed16 : ℕ → ℤ
signed16 n = cond (ltb n 32768) (pos n) (pos n -ℤ pos 65536)

abbrev pub unsigned16 : ℤ → ℕ
unsigned16 z = nat_abs (z +ℤ pos 65536) % 65536

-- And in a word of 32 bits.
abbrev pub signed32 : ℕ → ℤ
signed32 w = cond (ltb w 2147483648) (pos w) (pos w -ℤ pos 4294967296)

abbrev pub word_of : ℤ → ℕ
word_of z = nat_abs (z +ℤ pos 4294967296) % 4294967296
