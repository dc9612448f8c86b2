-- The count of the marks, by quarter turns. Where N > 0 only marks of the first quarter count; where N ≤ 0 all of these do, and the
-- second is the first with sine and cosine exchanged. In a quarter turn the marks that count come first. Assumes nothing.
use mathlib.Core.Path.{◌≡◌, refl, sym, ap, ◌∙◌}
use mathlib.Core.Bool.{true, false}
use Prim.Native.Nat.{ℕ, zero, suc, ◌+◌, ◌-◌, ◌*◌, ◌≤◌, ◌<◌}
use native.Mathlib.Nat.{mul-le-mul_left, mul-pos, zero-mul, mul-zero}
use native.Mathlib.Omega.{arith}
use lib.Dec.{leb, leb-suc-suc, leb-suc-zero}
use lib.IntN.{pos, neg_ℤ, sub_ℕ, ◌*ℤ◌}
use lib.Signed.{le_z}
use borrow.Author.Tests.{le-leb, lt-leb, leb-true}
use Rattle.sine.specs.Sine.{entry, size, sine, cosine, Parts}
use Rattle.sine.proofs.TableLaws.{mounts, positive}
use Rattle.sine.proofs.SineLaws.{sine_low, sine_high, cosine_low, cosine_high, sine_size}
use Rattle.wind.specs.Wind.{N, M, meets, count, between}
use Rattle.wind.specs.Work.{leans, Falls}
use Rattle.wind.proofs.BisectionLaws.{count_same, count_is, count_split}
use Rattle.wind.proofs.DifferenceLaws.{difference, sub_up, sub_down}

-- ---- in a quarter turn the marks that count come first

pub leans_falls : (a b : ℕ) → Falls (leans a b) 90
unfolding leans
leans_falls a b i j h k e =
    le-leb (b * entry (2 * i + 1)) (a * entry (179 - 2 * i))
    (omega (arith, mul-le-mul_left b (mounts (2 * i + 1) (2 * j + 1) (omega arith) (omega arith)), mul-le-mul_left a (mounts (179 - 2 * j) (179 - 2 * i) (omega arith) (omega arith)), leb-true (b * entry (2 * j + 1)) (a * entry (179 - 2 * j)) e))

-- ---- signs

minus_pos : (n a : ℕ) → neg_ℤ (pos n) *ℤ pos a ≡ neg_ℤ (pos (n * a))
minus_pos zero a = rw zero-mul
minus_pos (suc n) a = refl

pos_minus : (m b : ℕ) → pos m *ℤ neg_ℤ (pos b) ≡ neg_ℤ (pos (m * b))
pos_minus m zero = rw mul-zero
pos_minus m (suc b) = refl

under : (x y : ℕ) → le_z (neg_ℤ (pos x)) (pos y) ≡ true
under zero y = le-leb 0 y (omega arith)
under (suc x) y = refl

over : (x y : ℕ) → 0 < x → le_z (pos x) (neg_ℤ (pos y)) ≡ false
over x zero h = lt-leb x 0 h
over x (suc y) h = refl

turned_round : (x y : ℕ) → le_z (neg_ℤ (pos x)) (neg_ℤ (pos y)) ≡ leb y x
turned_round zero zero = refl
turned_round zero (suc y) = sym (leb-suc-zero y)
turned_round (suc x) zero = sym (le-leb 0 (suc x) (omega arith))
turned_round (suc x) (suc y) = sym (leb-suc-suc y x)

-- ---- the marks by their sines and cosines

at : {i j : ℕ} → i ≡ j → pos (entry i) ≡ pos (entry j)
at e = ap (λ (i : ℕ). pos (entry i)) e

sine_first : (i : ℕ) → i < 90 → sine (2 * i + 1) ≡ pos (entry (2 * i + 1))
sine_first i h = sine_low (2 * i + 1) (omega arith)

cosine_first : (i : ℕ) → i < 90 → cosine (2 * i + 1) ≡ pos (entry (179 - 2 * i))
cosine_first i h = cosine_low (2 * i + 1) (omega arith) ∙ at (omega arith)

sine_second : (i : ℕ) → i < 90 → sine (2 * (90 + i) + 1) ≡ pos (entry (179 - 2 * i))
sine_second i h = sine_high (2 * (90 + i) + 1) (omega arith) (omega arith) ∙ at (omega arith)

cosine_second : (i : ℕ) → i < 90 → cosine (2 * (90 + i) + 1) ≡ neg_ℤ (pos (entry (2 * i + 1)))
cosine_second i h = cosine_high (2 * (90 + i) + 1) (omega arith) (omega arith) ∙ ap neg_ℤ (at (omega arith))

-- ---- the angle

module _ (s k r n m : ℕ) (across : M s r ≡ pos m) where
  -- N > 0
  module _ (ahead : N s k r ≡ pos n) (some : 0 < n) where
    first_ahead : (i : ℕ) → i < 90 → meets s k r i ≡ leans m n i
    unfolding meets leans
    first_ahead i h = rw (ahead, across, sine_first i h, cosine_first i h)

    second_ahead : (i : ℕ) → i < 90 → meets s k r (90 + i) ≡ false
    unfolding meets
    second_ahead i h =
        rw (ahead, across, sine_second i h, cosine_second i h, pos_minus m (entry (2 * i + 1)))
        (over (n * entry (179 - 2 * i)) (m * entry (2 * i + 1)) (mul-pos some (positive (179 - 2 * i) (omega arith) (omega arith))))

    pub angle_ahead : between s k r ≡ count (leans m n) 90
    unfolding between
    angle_ahead =
        let none : count (λ i. meets s k r (90 + i)) 90 ≡ 0 = count_is (λ i. meets s k r (90 + i)) 90 0 (omega arith) (λ i h. absurd (omega arith)) (λ i h l. second_ahead i l) in
        let first = count_same (meets s k r) (leans m n) 90 first_ahead in
        omega (arith, count_split (meets s k r) 90 90)

  -- N ≤ 0
  module _ (astern : N s k r ≡ neg_ℤ (pos n)) where
    first_astern : (i : ℕ) → i < 90 → meets s k r i ≡ true
    unfolding meets
    first_astern i h =
        rw (astern, across, sine_first i h, cosine_first i h, minus_pos n (entry (2 * i + 1)))
        (under (n * entry (2 * i + 1)) (m * entry (179 - 2 * i)))

    second_astern : (i : ℕ) → i < 90 → meets s k r (90 + i) ≡ leans n m i
    unfolding meets leans
    second_astern i h =
        rw (astern, across, sine_second i h, cosine_second i h, minus_pos n (entry (179 - 2 * i)), pos_minus m (entry (2 * i + 1)))
        (turned_round (n * entry (179 - 2 * i)) (m * entry (2 * i + 1)))

    pub angle_astern : between s k r ≡ 90 + count (leans n m) 90
    unfolding between
    angle_astern =
        let all : count (meets s k r) 90 ≡ 90 = count_is (meets s k r) 90 90 (omega arith) first_astern (λ i h l. absurd (omega arith)) in
        let second = count_same (λ i. meets s k r (90 + i)) (leans n m) 90 second_astern in
        omega (arith, count_split (meets s k r) 90 90)

-- ---- N and M as the code has them

module _ (s k r : ℕ) {up down : ℕ} (p : Parts (cosine (2 * r)) up down) where
  N_is : N s k r ≡ sub_ℕ (1000000 * k + s * down) (s * up)
  unfolding N
  N_is = difference (1000000 * k) s (cosine (2 * r)) ∙ rw (← p.up_is, ← p.down_is)

  pub N_ahead : s * up ≤ 1000000 * k + s * down → N s k r ≡ pos (1000000 * k + s * down - s * up)
  N_ahead h = N_is ∙ sub_up (1000000 * k + s * down) (s * up) h

  pub N_astern : 1000000 * k + s * down ≤ s * up → N s k r ≡ neg_ℤ (pos (s * up - (1000000 * k + s * down)))
  N_astern h = N_is ∙ sub_down (1000000 * k + s * down) (s * up) h

pub M_is : (s r : ℕ) {n : ℕ} → n ≡ size (2 * r) → M s r ≡ pos (s * n)
unfolding M
M_is s r e = ap (λ (n : ℕ). pos (s * n)) (sine_size (2 * r) ∙ sym e)
