-- The straight line between two points: at a point it gives what that point gives, and nowhere between them more than the larger of
-- both or less than the smaller. With a and b the distances of x from the two points it is (c·b + d·a) / (a + b). Assumes nothing.
use mathlib.Core.Path.{◌≡◌, refl, ap, ap₂, ◌∙◌}
use mathlib.Core.Bool.{true, false, ◌&&◌}
use Prim.Native.Nat.{ℕ, zero, suc, ◌+◌, ◌*◌, ◌≤◌, ◌<◌}
use native.Mathlib.Omega.{arith}
use native.Mathlib.Nat.{le_trans, le_of_eq, zero-add, add-zero, mul-le-mul_right}
use lib.IntN.{ℤ, pos, negsuc, nat_abs, ◌+ℤ◌, ◌-ℤ◌, ◌*ℤ◌, +ℤ_idl, +ℤ_idr, *ℤ-zero}
use lib.Signed.{le_z}
use borrow.Author.Tests.{not-true}
use Rattle.number.specs.Round.{nearest, rounded}
use Rattle.number.proofs.Sizes.{size_neg, size_sum, size_mul, and_true, within_size}
use Rattle.number.proofs.RoundLaws.{nearest_whole, nearest_monotone, rounded_whole}
use Rattle.certificate.specs.declared.Corner.{Corner}
use Rattle.certificate.specs.Line.{rises, stands, between}
use Rattle.certificate.proofs.OrderLaws.{up, down, level, above, is_at_most, Apart, apart}

-- ---- sizes after rounding

rounded_size : (z : ℤ) (d : ℕ) → nat_abs (rounded z d) ≡ nearest (nat_abs z) d
unfolding rounded
rounded_size (pos n) d = refl
rounded_size (negsuc n) d = size_neg (pos (nearest (suc n) d))

-- a fraction no larger than k rounds to no more
pub rounded_at_most : (z : ℤ) (d k : ℕ) → 0 < d → nat_abs z ≤ k * d → nat_abs (rounded z d) ≤ k
rounded_at_most z d k h l =
    le_trans (le_of_eq (rounded_size z d))
    (le_trans (nearest_monotone (nat_abs z) d (k * d) d h h (mul-le-mul_right d l)) (le_of_eq (nearest_whole k d h)))

-- ---- where x stands

-- The distances of x from the lower and from the higher of two points round it.
pub record Distances (p q : Corner) (x : ℤ) (a b : ℕ) : Type 0 where
  pub from_low : x -ℤ p.reads.v ≡ pos a
  pub to_high : q.reads.v -ℤ x ≡ pos b
  pub distance : q.reads.v -ℤ p.reads.v ≡ pos (a + b)
  pub some : 0 < a + b
  pub low : a + (up p.reads.v + down x) ≡ up x + down p.reads.v
  pub high : b + (up x + down q.reads.v) ≡ up q.reads.v + down x

-- What it takes to stand round x.
pub record Round (p q : Corner) (x : ℤ) : Type 0 where
  pub rise : le_z q.reads.v p.reads.v ≡ false
  pub low : le_z p.reads.v x ≡ true
  pub high : le_z x q.reads.v ≡ true

pub round : (p q : Corner) (x : ℤ) → stands p q x ≡ true → Round p q x
round p q x e =
    let a = and_true (rises p q && le_z p.reads.v x) (le_z x q.reads.v) e in
    let b = and_true (rises p q) (le_z p.reads.v x) a.0 in
    record { rise = not-true _ b.0; low = b.1; high = a.1 }

pub round_back : (p q : Corner) (x : ℤ) → Round p q x → stands p q x ≡ true
round_back p q x s = rw (s.rise, s.low, s.high)

pub distances : (p q : Corner) (x : ℤ) → stands p q x ≡ true → (a : ℕ) × (b : ℕ) × Distances p q x a b
distances p q x e = (
  a.0,
  b.0,
  record {
    from_low = a.1.less;
    to_high = b.1.less;
    distance = c.1.less ∙ ap pos (omega (arith, far));
    some = omega (arith, far, c.1.far, above q.reads.v p.reads.v s.rise);
    low = a.1.far;
    high = b.1.far;
  },
)
  where
    s : Round p q x
    s = round p q x e

    a : (n : ℕ) × Apart p.reads.v x n
    a = apart p.reads.v x s.low

    b : (n : ℕ) × Apart x q.reads.v n
    b = apart x q.reads.v s.high

    c : (n : ℕ) × Apart p.reads.v q.reads.v n
    c =
        apart p.reads.v q.reads.v
        (is_at_most p.reads.v q.reads.v (omega (arith, above q.reads.v p.reads.v s.rise)))

    far : c.0 ≡ a.0 + b.0
    far = omega (arith, a.1.far, b.1.far, c.1.far)

-- ---- the line by these distances

-- the fraction that is rounded
unfoldable pub weighed : ℤ → ℤ → ℕ → ℕ → ℤ
weighed c d a b = c *ℤ pos b +ℤ d *ℤ pos a

pub between_is : (p q : Corner) (x : ℤ) (a b : ℕ) → Distances p q x a b
    → between p q x ≡ rounded (weighed p.gives.v q.gives.v a b) (a + b)
unfolding weighed
between_is p q x a b s =
    ap₂ rounded
    (ap₂ (λ (x y : ℤ). p.gives.v *ℤ x +ℤ q.gives.v *ℤ y) s.to_high s.from_low)
    (ap nat_abs s.distance)

at_low_end : (c d : ℤ) (b : ℕ) → 0 < b → rounded (weighed c d 0 b) (0 + b) ≡ c
unfolding weighed
at_low_end c d b h = rw (*ℤ-zero d, +ℤ_idr (c *ℤ pos b), zero-add b) (rounded_whole c b h)

at_high_end : (c d : ℤ) (a : ℕ) → 0 < a → rounded (weighed c d a 0) (a + 0) ≡ d
unfolding weighed
at_high_end c d a h = rw (*ℤ-zero c, +ℤ_idl (d *ℤ pos a), add-zero a) (rounded_whole d a h)

-- "at a point, that point's correction": the lower point, and the higher
pub at_low : (p q : Corner) (x : ℤ) → stands p q x ≡ true → x ≡ p.reads.v → between p q x ≡ p.gives.v
at_low p q x e h =
    let w = distances p q x e in
    let here = level x p.reads.v h in
    go w.0 w.1 w.2 (omega (arith, w.2.low, here))
  where
    go : (a b : ℕ) → Distances p q x a b → a ≡ 0 → between p q x ≡ p.gives.v
    go zero b s z = between_is p q x 0 b s ∙ at_low_end p.gives.v q.gives.v b (omega (arith, s.some))
    go (suc a) b s z = absurd (omega arith)

pub at_high : (p q : Corner) (x : ℤ) → stands p q x ≡ true → x ≡ q.reads.v → between p q x ≡ q.gives.v
at_high p q x e h =
    let w = distances p q x e in
    let here = level x q.reads.v h in
    go w.0 w.1 w.2 (omega (arith, w.2.high, here))
  where
    go : (a b : ℕ) → Distances p q x a b → b ≡ 0 → between p q x ≡ q.gives.v
    go a zero s z = between_is p q x a 0 s ∙ at_high_end p.gives.v q.gives.v a (omega (arith, s.some))
    go a (suc b) s z = absurd (omega arith)

-- ---- how large it can be

weighed_size : (c d : ℤ) (a b k : ℕ) → nat_abs c ≤ k → nat_abs d ≤ k → nat_abs (weighed c d a b) ≤ k * (a + b)
unfolding weighed
weighed_size c d a b k hc hd =
    omega (
      arith,
      size_sum (c *ℤ pos b) (d *ℤ pos a),
      size_mul c (pos b),
      size_mul d (pos a),
      mul-le-mul_right b hc,
      mul-le-mul_right a hd,
    )

pub between_size : (p q : Corner) (x : ℤ) (k : ℕ) → stands p q x ≡ true → nat_abs p.gives.v ≤ k → nat_abs q.gives.v ≤ k
    → nat_abs (between p q x) ≤ k
between_size p q x k e hp hq =
    let w = distances p q x e in
    rw (between_is p q x w.0 w.1 w.2)
    (rounded_at_most (weighed p.gives.v q.gives.v w.0 w.1) (w.0 + w.1) k w.2.some
    (weighed_size p.gives.v q.gives.v w.0 w.1 k hp hq))

-- ---- what the machine has to know

pub reading_size : (p q : Corner) (x : ℤ) (k : ℕ) → stands p q x ≡ true → nat_abs p.reads.v ≤ k → nat_abs q.reads.v ≤ k → nat_abs x ≤ k
reading_size p q x k e hp hq =
    let s = round p q x e in
    within_size p.reads.v q.reads.v x k hp hq (rw (s.low, s.high))

pub distance_some : (p q : Corner) (x : ℤ) → stands p q x ≡ true → 0 < nat_abs (q.reads.v -ℤ p.reads.v)
distance_some p q x e = let w = distances p q x e in rw w.2.distance w.2.some
