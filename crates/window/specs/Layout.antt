-- Where a window keeps what.
use Rattle.std.specs.Prelude.{ℕ, ◌+◌, ◌/◌, ◌%◌}

-- "Each channel keeps its newest accepted minute and the 255 minutes before it."
abbrev pub MINUTES : ℕ
MINUTES = 256

-- One word for the minute after the newest, "one presence bit a minute" in words of 64, one cell a minute.
abbrev pub CELLS : ℕ
CELLS = 1 + MINUTES / 64

abbrev pub WINDOW : ℕ
WINDOW = CELLS + MINUTES

-- The word that has a minute's presence bit, at place m % 64, and its cell.
abbrev pub word_of : ℕ → ℕ
word_of m = 1 + m % MINUTES / 64

abbrev pub cell_of : ℕ → ℕ
cell_of m = CELLS + m % MINUTES
