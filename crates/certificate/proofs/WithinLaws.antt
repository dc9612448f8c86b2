-- What a line gives lies between what its two corners give: the fraction does, and rounding keeps the order. So a certificate whose points
-- all give values within limits gives none outside them. Assumes nothing.
use mathlib.Core.Path.{◌≡◌, refl, subst}
use mathlib.Core.Bool.{Bool, true, false, not}
use Prim.Native.Nat.{ℕ, zero, suc, ◌+◌, ◌-◌, ◌≤◌, ◌<◌}
use native.Mathlib.Omega.{arith}
use native.Mathlib.Nat.{mul-le-mul_right}
use native.Mathlib.Numerals.{add-one}
use lib.Dec.{T}
use lib.IntN.{ℤ, pos, ◌*ℤ◌}
use lib.Signed.{le_z}
use Rattle.number.specs.Round.{rounded}
use Rattle.number.specs.Whole.{within}
use Rattle.number.proofs.RoundLaws.{rounded_monotone, rounded_whole}
use Rattle.number.proofs.Sizes.{impossible, and_true, both}
use Rattle.settings.specs.Settings.{every}
use Rattle.certificate.specs.declared.Corner.{Corner}
use Rattle.certificate.specs.Line.{stands, between, value_from, none_round}
use Rattle.certificate.proofs.OrderLaws.{at_most, is_at_most, up_times, down_times, sum_is, times_at_most}
use Rattle.certificate.proofs.LineLaws.{distances, weighed, between_is}

-- a test that holds, in its two forms
told : {b : Bool} → b ≡ true → T b
told e = rw e tt

held : (b : Bool) → T b → b ≡ true
held true t = refl
held false t = absurd t

-- ---- the fraction

module _ (z c d : ℤ) (a b : ℕ) where
  above : le_z z c ≡ true → le_z z d ≡ true → le_z (z *ℤ pos (a + b)) (weighed c d a b) ≡ true
  unfolding weighed
  above hc hd =
      is_at_most (z *ℤ pos (a + b)) (weighed c d a b)
      (omega (
        arith,
        up_times z (a + b),
        down_times z (a + b),
        sum_is (c *ℤ pos b) (d *ℤ pos a),
        up_times c b,
        down_times c b,
        up_times d a,
        down_times d a,
        mul-le-mul_right b (at_most z c hc),
        mul-le-mul_right a (at_most z d hd),
      ))

  below : le_z c z ≡ true → le_z d z ≡ true → le_z (weighed c d a b) (z *ℤ pos (a + b)) ≡ true
  unfolding weighed
  below hc hd =
      is_at_most (weighed c d a b) (z *ℤ pos (a + b))
      (omega (
        arith,
        up_times z (a + b),
        down_times z (a + b),
        sum_is (c *ℤ pos b) (d *ℤ pos a),
        up_times c b,
        down_times c b,
        up_times d a,
        down_times d a,
        mul-le-mul_right b (at_most c z hc),
        mul-le-mul_right a (at_most d z hd),
      ))

-- ---- rounded

-- a whole number at most a fraction is at most what that rounds to, and so above
rounded_above : (z w : ℤ) (d : ℕ) → 0 < d → le_z (z *ℤ pos d) w ≡ true → le_z z (rounded w d) ≡ true
rounded_above z w d h e =
    held (le_z z (rounded w d))
    (subst (λ (k : ℤ). T (le_z k (rounded w d))) (rounded_whole z d h)
    (rounded_monotone (z *ℤ pos d) w d d h h (record { le = told (times_at_most (z *ℤ pos d) w d e) })).le)

rounded_below : (z w : ℤ) (d : ℕ) → 0 < d → le_z w (z *ℤ pos d) ≡ true → le_z (rounded w d) z ≡ true
rounded_below z w d h e =
    held (le_z (rounded w d) z)
    (subst (λ (k : ℤ). T (le_z (rounded w d) k)) (rounded_whole z d h)
    (rounded_monotone w (z *ℤ pos d) d d h h (record { le = told (times_at_most w (z *ℤ pos d) d e) })).le)

pub between_within : (p q : Corner) (x lo hi : ℤ) → stands p q x ≡ true → within lo hi p.gives.v ≡ true → within lo hi q.gives.v ≡ true
    → within lo hi (between p q x) ≡ true
between_within p q x lo hi e hp hq =
    let w = distances p q x e in
    let c = p.gives.v in
    let d = q.gives.v in
    let low = and_true (le_z lo c) (le_z c hi) hp in
    let high = and_true (le_z lo d) (le_z d hi) hq in
    rw (between_is p q x w.0 w.1 w.2)
    (both
    (rounded_above lo (weighed c d w.0 w.1) (w.0 + w.1) w.2.some (above lo c d w.0 w.1 low.0 high.0))
    (rounded_below hi (weighed c d w.0 w.1) (w.0 + w.1) w.2.some (below hi c d w.0 w.1 low.1 high.1)))

-- ---- a certificate

module _ (corner : ℕ → Corner) (x lo hi : ℤ) where
  from_within : (i n : ℕ) → ((j : ℕ) → 0 < n → j ≤ i + n → within lo hi (corner j).gives.v ≡ true)
      → every (λ j. not (stands (corner j) (corner (j + 1)) x)) i n ≡ false → within lo hi (value_from corner x i n) ≡ true
  unfolding every value_from
  from_within i zero f e = impossible (cc)
  from_within i (suc n) f e = go (stands (corner i) (corner (i + 1)) x) refl (from_within (suc i) n (λ j z h. f j (omega arith) (omega arith)))
    where
      go : (t : Bool) → stands (corner i) (corner (i + 1)) x ≡ t
          → (every (λ j. not (stands (corner j) (corner (j + 1)) x)) (suc i) n ≡ false → within lo hi (value_from corner x (suc i) n) ≡ true)
          → within lo hi (value_from corner x i (suc n)) ≡ true
      go true a rest = rw a (between_within (corner i) (corner (i + 1)) x lo hi a (f i (omega arith) (omega arith)) (f (i + 1) (omega arith) (omega arith)))
      go false a rest = rw (a, add-one i) (rest (rw a at e))

  -- n points, each of which gives a value within lo and hi
  module _ (n : ℕ) (f : (j : ℕ) → j < n → within lo hi (corner j).gives.v ≡ true) where
    pub value_within : none_round corner x (n - 1) ≡ false → within lo hi (value_from corner x 0 (n - 1)) ≡ true
    unfolding none_round
    value_within e = from_within 0 (n - 1) (λ j z h. f j (omega arith)) e
