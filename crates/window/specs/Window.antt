-- What a window does, for any words whatever.
use Rattle.std.specs.Prelude.{◌≡◌, Bool, ◌&&◌, cond, List, ℕ, zero, suc, ◌+◌, ◌-◌, ◌%◌, min, eqb, ltb, leb, get_or, set, length, Option, Some, None}
use Rattle.window.specs.Layout.{MINUTES, WINDOW, word_of, cell_of}
use Rattle.window.specs.Bits.{bit, cleared, marked}

-- A slice of another length is no window.
abbrev pub whole : List ℕ → Bool
whole w = eqb (length w) WINDOW

-- The minute after the newest; 0 where nothing was heard.
abbrev pub next : List ℕ → ℕ
next w = get_or w 0 0

abbrev pub bit_of : List ℕ → ℕ → ℕ
bit_of w m = bit (get_or w (word_of m) 0) (m % 64)

-- A minute is present: it is the newest or one of the 255 before it, and its bit is set.
unfoldable pub present : List ℕ → ℕ → Bool
present w m = whole w && ltb m (next w) && leb (next w) (m + MINUTES) && eqb (bit_of w m) 1

-- What is kept of a minute.
unfoldable pub kept : List ℕ → ℕ → Option ℕ
kept w m = cond (present w m) (Some (get_or w (cell_of m) 0)) None

-- A minute's presence bit cleared or set.
unfoldable pub clear : List ℕ → ℕ → List ℕ
clear w m = set w (word_of m) (cleared (get_or w (word_of m) 0) (m % 64))

unfoldable pub mark : List ℕ → ℕ → List ℕ
mark w m = set w (word_of m) (marked (get_or w (word_of m) 0) (m % 64))

-- "A minute without an accepted message is absent": n minutes from m on, one after the other.
unfoldable pub wiped : List ℕ → ℕ → ℕ → List ℕ
wiped w m zero = w
wiped w m (suc n) = wiped (clear w m) (m + 1) n

-- A value kept for a minute, the minutes jumped over wiped (no more of them than the window has).
unfoldable pub accepted : List ℕ → ℕ → ℕ → List ℕ
accepted w m value =
    let n = min (m - next w) MINUTES in
    set (set (mark (wiped w (m - n) n) m) (cell_of m) value) 0 (m + 1)

-- "A message must be later than its channel's newest."
unfoldable pub takes : List ℕ → ℕ → Bool
takes w m = whole w && leb (next w) m

-- A value was offered for a minute, and answered by r.
pub record Taken (w w' : List ℕ) (m value : ℕ) (r : Bool) : Type 0 where
  pub answer : r ≡ takes w m
  pub words : w' ≡ cond (takes w m) (accepted w m value) w

-- How many of the n minutes before m are absent; before minute 0 all are.
unfoldable pub absents : (ℕ → Bool) → ℕ → ℕ → ℕ
absents is_present m zero = 0
absents is_present m (suc n) = cond (leb (suc n) m && is_present (m - suc n)) 0 1 + absents is_present m n
