-- The series fact, once for every fraction and every number of terms: where 2 y ≤ N + 1, each partial sum of exp y is at most the
-- sum of the terms 0 to N plus the term N once more. By induction on the distance from N, up and down. Assumes nothing.
use mathlib.Core.Path.{◌≡◌, subst}
use mathlib.Core.Bool.{Bool, true, false, not}
use Prim.Native.Nat.{ℕ, zero, suc, ◌+◌, ◌*◌, ◌^◌, ◌≤◌, suc-le-suc}
use native.Mathlib.Nat.{add-zero, add-suc, pow-suc, le_refl, le_trans, le_of_lt, le-add_right, le_dest, mul-le-mul_left, mul-le-mul_right}
use native.Mathlib.Omega.{arith}
use lib.Dec.{T, leb, leb→le, nleb→lt}
use Rattle.vapour.specs.Exp.{top, bottom}

rise_step : (s b s' b' k w : ℕ) → s * b' ≤ s' * b → s * (b' * k) ≤ (s' * k + w) * b
rise_step s b s' b' k w h = omega (arith, mul-le-mul_right k h)

-- the partial sums rise
pub rise : (p q n d : ℕ) → top p q n * bottom q (n + d) ≤ top p q (n + d) * bottom q n
unfolding top bottom
rise p q n zero = rw add-zero (le_refl _)
rise p q n (suc d) = rw add-suc (rise_step (top p q n) (bottom q n) (top p q (n + d)) (bottom q (n + d)) (q * suc (n + d)) (p ^ suc (n + d)) (rise p q n d))

fall_step : (s w u b b' k p : ℕ) → 2 * p ≤ k → (s + w) * b' ≤ u * b → ((s * k + w * p) + w * p) * b' ≤ u * (b * k)
fall_step s w u b b' k p hk h = omega (arith, mul-le-mul_right k h, mul-le-mul_left (w * b') hk)

module _ (p q N : ℕ) (small : 2 * p ≤ q * suc N) where
  -- a partial sum plus its last term falls, from N on
  fall : (d : ℕ) → (top p q (N + d) + p ^ (N + d)) * bottom q N ≤ (top p q N + p ^ N) * bottom q (N + d)
  unfolding top bottom
  fall zero = rw add-zero (le_refl _)
  fall (suc d) =
      rw (add-suc, pow-suc)
      (fall_step (top p q (N + d)) (p ^ (N + d)) (top p q N + p ^ N) (bottom q (N + d)) (bottom q N) (q * suc (N + d)) p
      (le_trans small (mul-le-mul_left q (suc-le-suc (le-add_right N d)))) (fall d))

  pub over : (n : ℕ) → top p q n * bottom q N ≤ (top p q N + p ^ N) * bottom q n
  over n = by (leb n N) (λ t. t) (λ t. t)
    where
      early : (d : ℕ) → n + d ≡ N → top p q n * bottom q N ≤ (top p q N + p ^ N) * bottom q n
      early d e =
          let h : top p q n * bottom q N ≤ top p q N * bottom q n = subst (λ (m : ℕ). top p q n * bottom q m ≤ top p q m * bottom q n) e (rise p q n d)
          in omega arith

      late : (d : ℕ) → N + d ≡ n → top p q n * bottom q N ≤ (top p q N + p ^ N) * bottom q n
      late d e = subst (λ (m : ℕ). top p q m * bottom q N ≤ (top p q N + p ^ N) * bottom q m) e (let h = fall d in omega arith)

      by : (b : Bool) → (T b → T (leb n N)) → (T (not b) → T (not (leb n N))) → top p q n * bottom q N ≤ (top p q N + p ^ N) * bottom q n
      by true f g = let e = le_dest (leb→le n N (f tt)) in early e.0 e.1
      by false f g = let e = le_dest (le_of_lt (nleb→lt n N (g tt))) in late e.0 e.1
