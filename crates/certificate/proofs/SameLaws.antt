-- Certificates that agree at their points give the same, whatever stands behind them. Assumes nothing.
use mathlib.Core.Path.{◌≡◌, refl}
use mathlib.Core.Bool.{not}
use Prim.Native.Nat.{ℕ, zero, suc, ◌+◌, ◌-◌, ◌≤◌, ◌<◌}
use native.Mathlib.Omega.{arith}
use lib.IntN.{ℤ}
use Rattle.settings.specs.Settings.{every}
use Rattle.certificate.specs.declared.Corner.{Corner}
use Rattle.certificate.specs.Line.{stands, value_from, none_round, valued}

module _ (f h : ℕ → Corner) (x : ℤ) where
  value_from_lem : (i n : ℕ) → ((k : ℕ) → 0 < n → k ≤ i + n → f k ≡ h k) → value_from f x i n ≡ value_from h x i n
  unfolding value_from
  value_from_lem i zero e = refl
  value_from_lem i (suc n) e =
      rw (e i (omega arith) (omega arith), e (i + 1) (omega arith) (omega arith), value_from_lem (i + 1) n (λ k z l. e k (omega arith) (omega arith)))

  none_from : (i n : ℕ) → ((k : ℕ) → 0 < n → k ≤ i + n → f k ≡ h k)
      → every (λ k. not (stands (f k) (f (k + 1)) x)) i n ≡ every (λ k. not (stands (h k) (h (k + 1)) x)) i n
  unfolding every
  none_from i zero e = refl
  none_from i (suc n) e =
      rw (e i (omega arith) (omega arith), e (i + 1) (omega arith) (omega arith), none_from (suc i) n (λ k z l. e k (omega arith) (omega arith)))

  -- n points that agree
  module _ (n : ℕ) (e : (k : ℕ) → k < n → f k ≡ h k) where
    pub same_value : value_from f x 0 (n - 1) ≡ value_from h x 0 (n - 1)
    same_value = value_from_lem 0 (n - 1) (λ k z l. e k (omega arith))

    pub same_none : none_round f x (n - 1) ≡ none_round h x (n - 1)
    unfolding none_round
    same_none = none_from 0 (n - 1) (λ k z l. e k (omega arith))

    pub same_valued : valued f n x ≡ valued h n x
    unfolding valued
    same_valued = rw (same_none, same_value)
