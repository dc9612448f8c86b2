-- The curves that the thresholds lie on: their size, and one test over a row's 64 places, carried to each. Assumes nothing.
use mathlib.Core.Path.{◌≡◌, refl, sym, subst}
use mathlib.Core.Bool.{Bool, true, ◌&&◌}
use mathlib.Core.List.{List}
use Prim.Native.Nat.{ℕ, zero, suc, ◌+◌, ◌*◌, ◌/◌, ◌<◌, ◌≤◌}
use native.Mathlib.Nat.{not-suc-le-zero, le_of_lt, mul-le-mul_right}
use native.Mathlib.Omega.{arith}
use native.Mathlib.Decide.{dec_lt}
use lib.Dec.{T}
use lib.Ieee.Fits.{and_l, and_r}
use lib.ListN.{length}
use Rattle.vapour.specs.Tables.{Least, IsRow, gone_of, threshold_of}
use Rattle.vapour.specs.declared.Curve.{Curve}
use Rattle.vapour.proofs.EachEntry.{entry, every, at}
use Rattle.vapour.proofs.DewLaws.{least_test, least_by_test}

-- ---- sizes

-- w 65536ths of a number are at most the number
pub share : (w x : ℕ) → w < 65536 → w * x / 65536 ≤ x
share w x h = omega (arith, mul-le-mul_right x (le_of_lt h))

pub product : (w x : ℕ) → w < 65536 → w * x ≤ 65536 * x
product w x h = mul-le-mul_right x (le_of_lt h)

pub gone_most : (c : Curve) (w : ℕ) → w < 65536 → gone_of c w ≤ c.1 + c.2 + c.3
gone_most c w h =
    let turned = w * c.3 / 65536 in
    let bent = w * (c.2 + turned) / 65536 in
    omega (arith, share w c.3 h, share w (c.2 + turned) h, share w (c.1 + bent) h)

-- ---- the rows

module _ (n : ℕ) (c : Curve) where
  -- the first m places of the row
  unfoldable tested : ℕ → Bool
  unfolding least_test
  tested zero = true
  tested (suc m) = least_test (64 * n + m) (threshold_of c m) && tested m

  each : (m k : ℕ) → T (tested m) → k < m → Least (64 * n + k) (threshold_of c k)
  unfolding tested
  each zero k t h = absurd (not-suc-le-zero h)
  each (suc m) k t h =
      elim (dec_lt k m) [
        | yes l ↦ each m k (and_r (least_test (64 * n + m) (threshold_of c m)) (tested m) t) l
        | no l ↦
            let e : k ≡ m = omega arith in
            rw e (least_by_test (64 * n + m) (threshold_of c m) (and_l (least_test (64 * n + m) (threshold_of c m)) (tested m) t))
      ]

unfoldable pub row_test : ℕ → Curve → Bool
unfolding tested
row_test n c = tested n c 64

pub row_by_test : {n : ℕ} {c : Curve} (m : ℕ) → n ≡ m → T (row_test m c) → IsRow n c
unfolding row_test
row_by_test {n} {c} m e t = subst (λ (x : ℕ). IsRow x c) (sym e) (record { least = λ k h. each m c 64 k t h })

pub rows_by_test : (d : Curve) (xs : List Curve) (n : ℕ) → T (every row_test 0 xs) → n < length xs → IsRow n (entry xs n d)
rows_by_test d xs n t h = row_by_test n refl (at d row_test xs t n h)
