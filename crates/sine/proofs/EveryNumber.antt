-- A test that is computed at each number below a bound holds at each of them; of two numbers one is at most the other.
-- Assumes nothing.
use mathlib.Core.Path.{◌≡◌, refl, ap, ◌∙◌}
use mathlib.Core.Bool.{Bool, true, false, ◌&&◌}
use mathlib.Core.Logic.{◌⊎◌, inl, inr, ⊎_elim}
use Prim.Native.Nat.{ℕ, zero, suc, ◌≤◌, ◌<◌}
use native.Mathlib.Nat.{not-suc-le-zero}
use native.Mathlib.Omega.{arith}
use lib.Dec.{leb}
use borrow.Author.Tests.{leb-true, leb-false}
use Rattle.number.proofs.Sizes.{and_true}

pub le_or_lt : (a b : ℕ) → (a ≤ b) ⊎ (b < a)
le_or_lt a b = go (leb a b) refl
  where
    go : (t : Bool) → leb a b ≡ t → (a ≤ b) ⊎ (b < a)
    go true e = inl (leb-true a b e)
    go false e = inr (leb-false a b e)

-- the test passes at each number below n
abbrev pub below : (ℕ → Bool) → ℕ → Bool
below passes zero = true
below passes (suc n) = passes n && below passes n

pub below_at : (passes : ℕ → Bool) (n : ℕ) → below passes n ≡ true → (i : ℕ) → i < n → passes i ≡ true
below_at passes zero e i h = absurd (not-suc-le-zero h)
below_at passes (suc n) e i h =
    ⊎_elim
    (λ last. ap passes (omega arith) ∙ (and_true (passes n) (below passes n) e).0)
    (λ earlier. below_at passes n (and_true (passes n) (below passes n) e).1 i earlier)
    (le_or_lt n i)
