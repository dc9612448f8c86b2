-- A rate is a fraction, and a certificate gives the same for it however it is written: what the points read and x, both times k, come to
-- the same value. Assumes nothing.
use mathlib.Core.Path.{◌≡◌, refl, sym, ap, ap₂, ◌∙◌}
use mathlib.Core.Bool.{Bool, true, false, not}
use Prim.Native.Nat.{ℕ, zero, suc, ◌+◌, ◌-◌, ◌*◌, ◌<◌}
use native.Mathlib.Omega.{arith}
use native.Mathlib.Nat.{mul-le-mul_right, mul-pos}
use lib.IntN.{ℤ, pos, negsuc, neg_ℤ, ◌+ℤ◌, ◌*ℤ◌}
use lib.Signed.{le_z}
use Rattle.number.specs.Round.{rounded}
use Rattle.number.proofs.RoundLaws.{nearest_same, rounded_odd}
use Rattle.settings.specs.Settings.{every}
use Rattle.certificate.specs.declared.Corner.{Corner}
use Rattle.certificate.specs.Line.{stands, between, value_from, none_round, valued}
use Rattle.certificate.proofs.OrderLaws.{up, down, at_most, above, same, up_times, down_times, sum_is, times_at_most}
use Rattle.certificate.proofs.LineLaws.{Distances, distances, weighed, between_is}

-- A corner that reads k times as much and gives the same.
abbrev pub stretched : ℕ → Corner → Corner
stretched k p = record { reads = record { v = p.reads.v *ℤ pos k }; gives = p.gives }

-- ---- rounding

rounded_fraction : (z : ℤ) (d k : ℕ) → 0 < d → 0 < k → rounded (z *ℤ pos k) (d * k) ≡ rounded z d
unfolding rounded
rounded_fraction (pos n) d k h l = ap pos (nearest_same (n * k) (d * k) n d (mul-pos h l) h (omega arith))
rounded_fraction (negsuc n) d k h l =
    rounded_odd (pos (suc n * k)) (d * k) (mul-pos h l)
    ∙ ap (λ (m : ℕ). neg_ℤ (pos m)) (nearest_same (suc n * k) (d * k) (suc n) d (mul-pos h l) h (omega arith))

-- ---- products with k

pub times_times : (c : ℤ) (b k : ℕ) → c *ℤ pos (b * k) ≡ c *ℤ pos b *ℤ pos k
times_times c b k =
    let high = up_times (c *ℤ pos b) k ∙ ap (λ (m : ℕ). m * k) (up_times c b) in
    let low = down_times (c *ℤ pos b) k ∙ ap (λ (m : ℕ). m * k) (down_times c b) in
    same (c *ℤ pos (b * k)) (c *ℤ pos b *ℤ pos k) (omega (arith, up_times c (b * k), down_times c (b * k)))

sum_times : (x y : ℤ) (k : ℕ) → x *ℤ pos k +ℤ y *ℤ pos k ≡ (x +ℤ y) *ℤ pos k
sum_times x y k =
    let all = ap (λ (m : ℕ). m * k) (sum_is x y) in
    same (x *ℤ pos k +ℤ y *ℤ pos k) ((x +ℤ y) *ℤ pos k)
    (omega (
      arith,
      sum_is (x *ℤ pos k) (y *ℤ pos k),
      up_times x k,
      down_times x k,
      up_times y k,
      down_times y k,
      up_times (x +ℤ y) k,
      down_times (x +ℤ y) k,
    ))

weighed_times : (c d : ℤ) (a b k : ℕ) → weighed c d (a * k) (b * k) ≡ weighed c d a b *ℤ pos k
unfolding weighed
weighed_times c d a b k = ap₂ ◌+ℤ◌ (times_times c b k) (times_times d a k) ∙ sum_times (c *ℤ pos b) (d *ℤ pos a) k

-- ---- two corners

module _ (k : ℕ) (some : 0 < k) where
  order : (x y : ℤ) → le_z (x *ℤ pos k) (y *ℤ pos k) ≡ le_z x y
  order x y = go (le_z x y) (le_z (x *ℤ pos k) (y *ℤ pos k)) refl refl
    where
      go : (s t : Bool) → le_z x y ≡ s → le_z (x *ℤ pos k) (y *ℤ pos k) ≡ t → le_z (x *ℤ pos k) (y *ℤ pos k) ≡ le_z x y
      go true t e f = times_at_most x y k e ∙ sym e
      go false false e f = f ∙ sym e
      go false true e f =
          let far = mul-le-mul_right k (above x y e) in
          absurd (omega (arith, at_most (x *ℤ pos k) (y *ℤ pos k) f, up_times x k, down_times x k, up_times y k, down_times y k))

  module _ (p q : Corner) (x : ℤ) where
    stands_stretched : stands (stretched k p) (stretched k q) (x *ℤ pos k) ≡ stands p q x
    stands_stretched = rw (order q.reads.v p.reads.v, order p.reads.v x, order x q.reads.v)

    between_stretched : stands p q x ≡ true → between (stretched k p) (stretched k q) (x *ℤ pos k) ≡ between p q x
    between_stretched e =
        let w = distances p q x e in
        let v = distances (stretched k p) (stretched k q) (x *ℤ pos k) (stands_stretched ∙ e) in
        go w.0 w.1 v.0 v.1 w.2 v.2 (far w.0 v.0 w.2.low v.2.low) (near w.1 v.1 w.2.high v.2.high)
      where
        r : ℤ
        r = p.reads.v

        s : ℤ
        s = q.reads.v

        far : (a a' : ℕ) → a + (up r + down x) ≡ up x + down r → a' + (up (r *ℤ pos k) + down (x *ℤ pos k)) ≡ up (x *ℤ pos k) + down (r *ℤ pos k) → a' ≡ a * k
        far a a' h l = let all = ap (λ (m : ℕ). m * k) h in omega (arith, up_times r k, down_times r k, up_times x k, down_times x k)

        near : (b b' : ℕ) → b + (up x + down s) ≡ up s + down x → b' + (up (x *ℤ pos k) + down (s *ℤ pos k)) ≡ up (s *ℤ pos k) + down (x *ℤ pos k) → b' ≡ b * k
        near b b' h l = let all = ap (λ (m : ℕ). m * k) h in omega (arith, up_times s k, down_times s k, up_times x k, down_times x k)

        go : (a b a' b' : ℕ) → Distances p q x a b → Distances (stretched k p) (stretched k q) (x *ℤ pos k) a' b' → a' ≡ a * k → b' ≡ b * k
            → between (stretched k p) (stretched k q) (x *ℤ pos k) ≡ between p q x
        go a b a' b' w v f n =
            let c = p.gives.v in
            let d = q.gives.v in
            let sum : a * k + b * k ≡ (a + b) * k = omega arith in
            between_is (stretched k p) (stretched k q) (x *ℤ pos k) a' b' v
            ∙ ap₂ (λ (m n : ℕ). rounded (weighed c d m n) (m + n)) f n
            ∙ ap₂ rounded (weighed_times c d a b k) sum
            ∙ rounded_fraction (weighed c d a b) (a + b) k w.some some
            ∙ sym (between_is p q x a b w)

  -- ---- a certificate

  module _ (corner : ℕ → Corner) (x : ℤ) where
    value_stretched : (i n : ℕ) → value_from (λ j. stretched k (corner j)) (x *ℤ pos k) i n ≡ value_from corner x i n
    unfolding value_from
    value_stretched i zero = refl
    value_stretched i (suc n) = go (stands (corner i) (corner (i + 1)) x) refl (value_stretched (i + 1) n)
      where
        go : (t : Bool) → stands (corner i) (corner (i + 1)) x ≡ t → value_from (λ j. stretched k (corner j)) (x *ℤ pos k) (i + 1) n ≡ value_from corner x (i + 1) n
            → value_from (λ j. stretched k (corner j)) (x *ℤ pos k) i (suc n) ≡ value_from corner x i (suc n)
        go true e rest = rw (stands_stretched (corner i) (corner (i + 1)) x ∙ e, e) (between_stretched (corner i) (corner (i + 1)) x e)
        go false e rest = rw (stands_stretched (corner i) (corner (i + 1)) x ∙ e, e) rest

    none_stretched : (i n : ℕ)
        → every (λ j. not (stands (stretched k (corner j)) (stretched k (corner (j + 1))) (x *ℤ pos k))) i n ≡ every (λ j. not (stands (corner j) (corner (j + 1)) x)) i n
    unfolding every
    none_stretched i zero = refl
    none_stretched i (suc n) = rw (stands_stretched (corner i) (corner (i + 1)) x, none_stretched (suc i) n)

    pub none_of_rate : (n : ℕ) → none_round (λ i. stretched k (corner i)) (x *ℤ pos k) n ≡ none_round corner x n
    unfolding none_round
    none_of_rate n = none_stretched 0 n

    pub value_of_rate : (n : ℕ) → value_from (λ i. stretched k (corner i)) (x *ℤ pos k) 0 n ≡ value_from corner x 0 n
    value_of_rate n = value_stretched 0 n

    pub same_rate : (n : ℕ) → valued (λ i. stretched k (corner i)) n (x *ℤ pos k) ≡ valued corner n x
    unfolding valued
    same_rate n = rw (none_of_rate (n - 1), value_of_rate (n - 1))
