-- Whole numbers with a sign.
use Rattle.std.specs.Prelude.{◌≡◌, Bool, true, false, ◌&&◌, ℕ, ◌≤◌, ℤ, pos, neg_ℤ, nat_abs}
use Rattle.std.specs.Int.Signed.{le_z}

-- The number of a size, with a minus (true) or without.
abbrev pub signed : Bool → ℕ → ℤ
signed false n = pos n
signed true n = neg_ℤ (pos n)

-- Whether low ≤ z ≤ high.
abbrev pub within : ℤ → ℤ → ℤ → Bool
within low high z = le_z low z && le_z z high

-- r is the number z, and no larger than n.
pub record Is (r z : ℤ) (n : ℕ) : Type 0 where
  pub value : r ≡ z
  pub size : nat_abs r ≤ n
