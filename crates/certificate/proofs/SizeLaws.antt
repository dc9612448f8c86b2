-- How large a certificate's figures can be: no larger than 16 bits and a scale of 16 bits allow, and what is worked of them no larger
-- than they are. Assumes nothing.
use mathlib.Core.Path.{◌≡◌, refl}
use mathlib.Core.Bool.{Bool, true, false, not}
use Prim.Native.Nat.{ℕ, zero, suc, ◌+◌, ◌*◌, ◌/◌, ◌%◌, ◌≤◌, ◌<◌, zero-le}
use native.Mathlib.Omega.{arith}
use native.Mathlib.Nat.{le_trans, mul-le-mul_left, mul-le-mul_right}
use lib.Dec.{ltb}
use lib.IntN.{ℤ, pos, nat_abs}
use Rattle.number.proofs.Sizes.{impossible, size_mul}
use Rattle.settings.specs.Settings.{every}
use Rattle.cell.specs.Cells.{unbiased}
use Rattle.certificate.specs.declared.Corner.{Corner}
use Rattle.certificate.specs.Line.{stands, value_from, none_round, corner_in}
use Rattle.certificate.specs.Stored.{Stored}
use Rattle.certificate.proofs.LineLaws.{between_size, reading_size}

pub product : {a b m n : ℕ} → a ≤ m → b ≤ n → a * b ≤ m * n
product {a} {b} {m} {n} h k = le_trans (mul-le-mul_left a k) (mul-le-mul_right n h)

-- ---- what a word can hold

pub unbiased_size : (w : ℕ) → nat_abs (unbiased w) ≤ 32768
unbiased_size w = go (ltb (w % 65536) 32768) refl
  where
    go : (t : Bool) → ltb (w % 65536) 32768 ≡ t → nat_abs (unbiased w) ≤ 32768
    go true e = rw e (omega arith)
    go false e = rw e (omega arith)

pub stored : (scale w : ℕ) → scale < 65536 → Stored (corner_in scale w)
stored scale w h =
    record {
      reads = omega (arith, size_mul (unbiased w) (pos scale), product {b = scale} {n = 65535} (unbiased_size w) (omega arith));
      gives = unbiased_size (w / 65536);
    }

-- ---- what is worked of it

-- a value: the points up to the last one used bound it
pub value_size : (corner : ℕ → Corner) (x : ℤ) (k i n : ℕ) → ((j : ℕ) → j ≤ i + n → nat_abs (corner j).gives.v ≤ k) → nat_abs (value_from corner x i n) ≤ k
unfolding value_from
value_size corner x k i zero f = zero-le
value_size corner x k i (suc n) f =
    go (stands (corner i) (corner (i + 1)) x) refl (value_size corner x k (i + 1) n (λ j h. f j (omega arith)))
  where
    go : (t : Bool) → stands (corner i) (corner (i + 1)) x ≡ t → nat_abs (value_from corner x (i + 1) n) ≤ k → nat_abs (value_from corner x i (suc n)) ≤ k
    go true e rest = rw e (between_size (corner i) (corner (i + 1)) x k e (f i (omega arith)) (f (i + 1) (omega arith)))
    go false e rest = rw e rest

-- an x that a pair stands round is no larger than what the points read
round_from : (corner : ℕ → Corner) (x : ℤ) (k i n : ℕ) → ((j : ℕ) → nat_abs (corner j).reads.v ≤ k)
    → every (λ j. not (stands (corner j) (corner (j + 1)) x)) i n ≡ false → nat_abs x ≤ k
unfolding every
round_from corner x k i zero f e = impossible (cc)
round_from corner x k i (suc n) f e = by (stands (corner i) (corner (i + 1)) x) refl (round_from corner x k (suc i) n f)
  where
    by : (t : Bool) → stands (corner i) (corner (i + 1)) x ≡ t → (every (λ j. not (stands (corner j) (corner (j + 1)) x)) (suc i) n ≡ false → nat_abs x ≤ k) → nat_abs x ≤ k
    by true a rest = reading_size (corner i) (corner (i + 1)) x k a (f i) (f (i + 1))
    by false a rest = rest (rw a at e)

pub round_size : (corner : ℕ → Corner) (x : ℤ) (k n : ℕ) → ((j : ℕ) → nat_abs (corner j).reads.v ≤ k) → none_round corner x n ≡ false → nat_abs x ≤ k
unfolding none_round
round_size corner x k n f e = round_from corner x k 0 n f e
