-- The one test of the tables: lo / v < exact saturation ≤ hi / v hundredths, by the series' terms 0 to 20 and the series fact, and
-- that it shows what it tests, for every formula and every temperature. Assumes nothing.
use mathlib.Core.Bool.{Bool, ◌&&◌}
use Prim.Native.Nat.{ℕ, suc, ◌+◌, ◌*◌, ◌-◌, ◌^◌, ◌<◌, ◌≤◌}
use native.Mathlib.Nat.{zero-add, mul-le-mul_left, mul-le-mul_right, mul-lt-mul_of_pos_right}
use native.Mathlib.Omega.{arith}
use lib.Dec.{T, leb, ltb, leb→le, ltb→lt}
use lib.Ieee.Fits.{and_l, and_r}
use lib.IntN.{ℤ, pos, negsuc}
use Rattle.vapour.specs.Exp.{top, bottom, BelowExp, BelowReciprocal}
use Rattle.vapour.specs.Vapour.{Formula, Below}
use Rattle.vapour.proofs.Series.{rise, over}

-- ---- exp (p / q) and its reciprocal, between two fractions by their sums to N

module _ (p q N : ℕ) (small : 2 * p ≤ q * suc N) (some : 0 < bottom q N) (l h x : ℕ) where
  above_low : l * bottom q N < x * top p q N → BelowExp p q l x
  above_low t = (N, t)

  above_high : x * (top p q N + p ^ N) ≤ h * bottom q N → BelowExp p q h x → ⊥
  above_high t (n, e) =
      omega (arith, mul-lt-mul_of_pos_right e some, mul-le-mul_left x (over p q N small n), mul-le-mul_right (bottom q n) t)

  under_low : l * (top p q N + p ^ N) < x * bottom q N → BelowReciprocal p q l x
  under_low t = (bottom q N, top p q N + p ^ N, t, λ n. let e = over p q N small n in omega arith)

  top_some : 0 < top p q N
  unfolding top bottom
  top_some = let e = rw zero-add at (rise p q 0 N) in omega arith

  under_high : x * bottom q N ≤ h * top p q N → BelowReciprocal p q h x → ⊥
  under_high t (a, b, e, f) =
      omega (arith, mul-lt-mul_of_pos_right e top_some, mul-le-mul_left x (f N), mul-le-mul_right b t)

-- ---- the test

-- the series fact holds at 20 terms, and a < b, c ≤ d
abbrev test : ℕ → ℕ → ℕ → ℕ → ℕ → ℕ → Bool
test p q a b c d = leb (2 * p) (q * 21) && ltb 0 (bottom q 20) && ltb a b && leb c d

unfoldable above : ℕ → ℕ → ℕ → ℕ → ℕ → Bool
unfolding top bottom
above l h x p q = test p q (l * bottom q 20) (x * top p q 20) (x * (top p q 20 + p ^ 20)) (h * bottom q 20)

unfoldable under : ℕ → ℕ → ℕ → ℕ → ℕ → Bool
unfolding top bottom
under l h x p q = test p q (l * (top p q 20 + p ^ 20)) (x * bottom q 20) (x * bottom q 20) (h * top p q 20)

unfoldable pub bracket : Formula → ℕ → ℕ → ℕ → ℤ → Bool
unfolding above under
bracket f lo hi v (pos m) = above (100 * lo) (100 * hi) (f.scale * v) (f.factor * m) (10000 * (f.offset + m))
bracket f lo hi v (negsuc n) = under (100 * lo) (100 * hi) (f.scale * v) (f.factor * suc n) (10000 * (f.offset - suc n))

-- ---- what it shows

passed : (p q a b c d : ℕ) → T (test p q a b c d) → (2 * p ≤ q * 21) × (0 < bottom q 20) × (a < b) × (c ≤ d)
passed p q a b c d t =
    let small = leb (2 * p) (q * 21) in
    let some = ltb 0 (bottom q 20) in
    let front = and_l (small && some && ltb a b) (leb c d) t in
    let fits = and_l (small && some) (ltb a b) front in (
      leb→le (2 * p) (q * 21) (and_l small some fits),
      ltb→lt 0 (bottom q 20) (and_r small some fits),
      ltb→lt a b (and_r (small && some) (ltb a b) front),
      leb→le c d (and_r (small && some && ltb a b) (leb c d) t),
    )

pub record Between (f : Formula) (t : ℤ) (lo hi v : ℕ) : Type 0 where
  pub low : Below f t lo v
  pub high : Below f t hi v → ⊥

module _ (l h x p q : ℕ) where
  above_shows : T (above l h x p q) → BelowExp p q l x × (BelowExp p q h x → ⊥)
  unfolding above
  above_shows t =
      let r = passed p q (l * bottom q 20) (x * top p q 20) (x * (top p q 20 + p ^ 20)) (h * bottom q 20) t in
      (above_low p q 20 r.0 r.1 l h x r.2, above_high p q 20 r.0 r.1 l h x r.3)

  under_shows : T (under l h x p q) → BelowReciprocal p q l x × (BelowReciprocal p q h x → ⊥)
  unfolding under
  under_shows t =
      let r = passed p q (l * (top p q 20 + p ^ 20)) (x * bottom q 20) (x * bottom q 20) (h * top p q 20) t in
      (under_low p q 20 r.0 r.1 l h x r.2, under_high p q 20 r.0 r.1 l h x r.3)

pub shows : (f : Formula) (lo hi v : ℕ) (t : ℤ) → T (bracket f lo hi v t) → Between f t lo hi v
unfolding bracket Below
shows f lo hi v (pos m) t =
    let r = above_shows (100 * lo) (100 * hi) (f.scale * v) (f.factor * m) (10000 * (f.offset + m)) t in record { low = r.0; high = r.1 }
shows f lo hi v (negsuc n) t =
    let r = under_shows (100 * lo) (100 * hi) (f.scale * v) (f.factor * suc n) (10000 * (f.offset - suc n)) t in record { low = r.0; high = r.1 }
