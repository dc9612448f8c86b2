-- How a reading stands in a cell, and what a cell says: its first figure in the low half, its second in the high half of 32 bits, a
-- state by its number.
use Rattle.std.specs.Prelude.{Bool, true, false, ◌&&◌, ◌||◌, cond, ℕ, ◌+◌, ◌*◌, ◌/◌, ◌%◌, eqb, ltb, ℤ, pos, nat_abs, ◌+ℤ◌, ◌-ℤ◌, Option, Some, None}
use Rattle.quantity.specs.Limits.{Limits, inside, pressure_limits, wheelhouse, bulb, metres_per_second, knots, degrees}
use Rattle.quantity.specs.States.{state_number, is_state, state_of}
use Rattle.quantity.specs.declared.BarometerUnit.{BarometerUnit}
use Rattle.message.specs.Receive.{Figure, hPa, mmHg, °C, m/s, kn, deg, wick, none, by_unit, itself, nought, Entry, pressure, entry_of}
use Rattle.message.specs.declared.Reading.{Reading}

abbrev pub CHANNELS : ℕ
CHANNELS = 6

-- A number with a sign as 16 bits, and back.
abbrev pub biased : ℤ → ℕ
biased z = nat_abs (z +ℤ pos 32768)

abbrev pub unbiased : ℕ → ℤ
unbiased n = pos (n % 65536) -ℤ pos 32768

-- A figure as 16 bits.
abbrev pub half : Figure → ℕ
half (hPa z) = nat_abs z % 65536
half (mmHg z) = nat_abs z % 65536
half (°C z) = biased z % 65536
half (m/s z) = nat_abs z % 65536
half (kn z) = nat_abs z % 65536
half (deg z) = nat_abs z % 65536
half (wick s) = state_number s
half none = 0

abbrev pub cell_of : Entry → ℕ
cell_of e = half e.first + 65536 * half e.second

abbrev pub paired : ℕ → Bool
paired c = eqb c 2 || eqb c 3

-- What a cell of a channel says.
abbrev pub first_in : BarometerUnit → ℕ → ℕ → Figure
first_in u c v =
    cond (eqb c 0) (pressure u (pos (v % 65536)))
    (cond (eqb c 2) (m/s (pos (v % 65536)))
    (cond (eqb c 3) (kn (pos (v % 65536)))
    (°C (unbiased v))))

abbrev pub second_in : ℕ → ℕ → Figure
second_in c v =
    cond (paired c) (deg (pos (v / 65536 % 65536)))
    (cond (eqb c 5) (wick (state_of (v / 65536 % 65536)))
    none)

abbrev pub entry_in : BarometerUnit → ℕ → ℕ → ℕ → Entry
entry_in u c m v = record { channel = c; minute = m; first = first_in u c v; second = second_in c v }

-- Whether that lies within the channel's limits. (A cell that was heard does.)
abbrev pub number_in : ℕ → ℕ → ℤ
number_in c v = cond (eqb c 0 || paired c) (pos (v % 65536)) (unbiased v)

abbrev pub limits_of : BarometerUnit → ℕ → Limits
limits_of u c =
    cond (eqb c 0) (pressure_limits u)
    (cond (eqb c 1) wheelhouse
    (cond (eqb c 2) metres_per_second
    (cond (eqb c 3) knots
    bulb)))

-- Whether a direction lies within its limits, or a state is one.
abbrev pub sound_beside : ℕ → ℕ → Bool
sound_beside c v =
    cond (paired c) (inside degrees (pos (v / 65536 % 65536)))
    (cond (eqb c 5) (is_state (v / 65536 % 65536))
    true)

abbrev pub sound_in : BarometerUnit → ℕ → ℕ → Bool
sound_in u c v = inside (limits_of u c) (number_in c v) && sound_beside c v

-- ---- what is kept of a channel's minute

-- Nothing, or an entry.
pub data Recall : Type 0 where
  absent : Recall
  recalled : Entry → Recall

abbrev pub is_present : Recall → Bool
is_present absent = false
is_present (recalled e) = true

-- Its figures: an absent reading has none.
abbrev pub first : Recall → Figure
first absent = none
first (recalled e) = e.first

abbrev pub second : Recall → Figure
second absent = none
second (recalled e) = e.second

-- Whole degrees of a direction or a course; of any other figure 0, and no answer is worked from that.
abbrev pub in_degrees : Recall → ℕ
in_degrees x = nat_abs (by_unit nought nought nought nought nought itself (pos 0) (second x))

-- A cell that lies outside its channel's limits says nothing.
abbrev pub cell_says : BarometerUnit → ℕ → ℕ → ℕ → Recall
cell_says u c m v = cond (sound_in u c v) (recalled (entry_in u c m v)) absent

-- And so does a cell of no channel.
abbrev pub read_in : BarometerUnit → ℕ → ℕ → ℕ → Recall
read_in u c m v = cond (ltb c CHANNELS) (cell_says u c m v) absent

-- Document 01's values of each case.
abbrev pub recalled_as : ℕ → Option Reading → Recall
recalled_as m None = absent
recalled_as m (Some r) = recalled (entry_of m r)
