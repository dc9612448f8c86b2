-- The bytes of a message: "channel (1), state (1), two zero bytes, minute (4), first value (4), second value (4)", little endian.
use Rattle.std.specs.Prelude.{Bool, not, ◌&&◌, ◌||◌, List, ℕ, eqb, get_or, Float}
use Rattle.std.specs.Float.{binary32}
use Rattle.std.specs.Float.Ieee.{of_bits}
use Rattle.quantity.specs.States.{is_state}
use Rattle.octets.specs.Bytes.{le32}

abbrev pub byte : List ℕ → ℕ → ℕ
byte m at = get_or m at 0

abbrev pub channel : List ℕ → ℕ
channel m = byte m 0

abbrev pub state : List ℕ → ℕ
state m = byte m 1

abbrev pub minute : List ℕ → ℕ
minute m = le32 m 4

abbrev pub first : List ℕ → Float
first m = of_bits binary32 (le32 m 8)

abbrev pub second : List ℕ → Float
second m = of_bits binary32 (le32 m 12)

abbrev pub wet_bulb : List ℕ → Bool
wet_bulb m = eqb (channel m) 5

-- "Apparent wind and ship motion travel as a pair of binary32 values."
abbrev pub paired : List ℕ → Bool
paired m = eqb (channel m) 2 || eqb (channel m) 3

-- "a byte that must be zero isn't (state too, except on channel 5)"; "On other channels the second value's four bytes are zero."
abbrev pub stray : List ℕ → Bool
stray m =
    not (eqb (byte m 2) 0)
    || not (eqb (byte m 3) 0)
    || not (wet_bulb m || eqb (state m) 0)
    || not (paired m || eqb (le32 m 12) 0)

-- "4 now means a state above 2": of the wet bulb, which alone has one
abbrev pub no_state : List ℕ → Bool
no_state m = wet_bulb m && not (is_state (state m))
