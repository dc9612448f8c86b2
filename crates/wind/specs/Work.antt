-- The same in numbers that are never below zero, as the code works it. The laws of `proofs/` tie it to `Wind`: a reader of the
-- promises needs none of this.
use Rattle.std.specs.Prelude.{◌≡◌, Bool, true, false, ℕ, ◌+◌, ◌-◌, ◌*◌, ◌≤◌, ◌<◌, leb, nat_abs}
use Rattle.quantity.specs.Limits.{knots, metres_per_second, highest_wind}
use Rattle.quantity.specs.Convert.{parts_of_knots, parts_of_metres}
use Rattle.sine.specs.Sine.{entry}

-- The most that the ship's speed and the apparent wind's come to in parts, by their limits, and either side of a mark's test.
abbrev pub most_ship : ℕ
most_ship = parts_of_knots (nat_abs knots.high)

abbrev pub most_apparent : ℕ
most_apparent = parts_of_metres (nat_abs metres_per_second.high)

abbrev pub most_side : ℕ
most_side = 1000000 * (most_ship + most_apparent)

-- The squares of 0.05 m/s in the square of half a tenth more than the highest true wind: no sum has as many.
abbrev pub too_many : ℕ
too_many = (2 * highest_wind + 1) * (2 * highest_wind + 1)

-- v is the nearest tenth of m/s to the root of n squares of 0.05 m/s.
pub record Root (n v : ℕ) : Type 0 where
  pub low : 0 < v → (2 * v - 1) * (2 * v - 1) ≤ n
  pub high : n < (2 * v + 1) * (2 * v + 1)

-- Whether that root is i tenths and a half, or more.
unfoldable pub reaches : ℕ → ℕ → Bool
reaches n i = leb ((2 * i + 1) * (2 * i + 1)) n

-- Whether a cos h ≥ b sin h at mark i of the 90 in the first quarter turn.
unfoldable pub leans : ℕ → ℕ → ℕ → Bool
leans a b i = leb (b * entry (2 * i + 1)) (a * entry (179 - 2 * i))

-- A test may be asked of each number below n ..
abbrev pub Asked : (ℕ → Type 0) → ℕ → Type 0
Asked pre n = (i : ℕ) → i < n → pre i

-- .. and what it gives there is what p says.
abbrev pub Tells : (ℕ → Bool → Type 0) → (ℕ → Bool) → ℕ → Type 0
Tells gives p n = (i : ℕ) (r : Bool) → i < n → gives i r → r ≡ p i

-- Where p says yes of a number below n, it says yes of all before.
abbrev pub Falls : (ℕ → Bool) → ℕ → Type 0
Falls p n = (i j : ℕ) → i ≤ j → j < n → p j ≡ true → p i ≡ true

-- Below n, p says yes of the first c, and no of the others.
pub record Parted (p : ℕ → Bool) (n c : ℕ) : Type 0 where
  pub within : c ≤ n
  pub yes : (i : ℕ) → i < c → p i ≡ true
  pub no : (i : ℕ) → c ≤ i → i < n → p i ≡ false
