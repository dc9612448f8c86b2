-- The bits of a word.
use Rattle.std.specs.Prelude.{cond, ℕ, zero, suc, ◌+◌, ◌-◌, ◌/◌, ◌%◌, ◌^◌, eqb}

-- The bit k of a word: 0 or 1.
unfoldable pub bit : ℕ → ℕ → ℕ
bit w k = w / 2 ^ k % 2

-- The word with that bit cleared, and with that bit set.
unfoldable pub cleared : ℕ → ℕ → ℕ
cleared w k = cond (eqb (bit w k) 0) w (w - 2 ^ k)

unfoldable pub marked : ℕ → ℕ → ℕ
marked w k = cond (eqb (bit w k) 0) (w + 2 ^ k) w

-- f a + f (a + 1) + .. over n numbers.
unfoldable pub total : (ℕ → ℕ) → ℕ → ℕ → ℕ
total f a zero = 0
total f a (suc n) = f a + total f (suc a) n
