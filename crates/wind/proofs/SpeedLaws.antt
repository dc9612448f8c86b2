-- The sum of squares is never below zero, so it is a plain number; and its root to the nearest tenth of a m/s is one in squares of
-- 0.05 m/s. Assumes nothing.
use mathlib.Core.Path.{◌≡◌, subst, ◌∙◌}
use mathlib.Core.Logic.{⊎_elim}
use Prim.Native.Nat.{ℕ, zero, suc, ◌+◌, ◌-◌, ◌*◌, ◌/◌, ◌≤◌, ◌<◌}
use native.Mathlib.Nat.{mul-le-mul, mul-le-mul_left}
use native.Mathlib.Omega.{arith}
use lib.Dec.{leb→le, ltb→lt, le→leb, lt→ltb}
use lib.IntN.{pos}
use borrow.Author.Tests.{le-leb, leb-true, leb-false}
use Rattle.quantity.specs.Limits.{highest_wind}
use Rattle.quantity.specs.Convert.{parts_of_metres}
use Rattle.sine.specs.Sine.{cosine, Parts}
use Rattle.sine.proofs.EveryNumber.{le_or_lt}
use Rattle.sine.proofs.SineLaws.{parts_size, cosine_small}
use Rattle.wind.specs.Wind.{sum, half_tenth, Nearest}
use Rattle.wind.specs.Work.{most_ship, most_apparent, too_many, Root, reaches, Falls, Parted}
use Rattle.wind.proofs.DifferenceLaws.{difference, sub_up}

-- ---- the sum

pub square : {m n : ℕ} → m ≤ n → m * m ≤ n * n
square h = mul-le-mul h h

-- 2sk ≤ s² + k², the smaller first
twice_from : (s e : ℕ) → 2 * (s * (s + e)) ≤ s * s + (s + e) * (s + e)
twice_from s e = omega arith

pub twice : (s k : ℕ) → 2 * (s * k) ≤ s * s + k * k
twice s k =
    ⊎_elim
    (λ h. subst (λ (x : ℕ). 2 * (s * x) ≤ s * s + x * x) {x = s + (k - s)} (omega arith) (twice_from s (k - s)))
    (λ h. subst (λ (x : ℕ). 2 * (x * k) ≤ x * x + k * k) {x = k + (s - k)} (omega arith) (omega (arith, twice_from k (s - k))))
    (le_or_lt s k)

-- the sum, a million times, by a cosine given as up - down
unfoldable pub million : ℕ → ℕ → ℕ → ℕ → ℕ
million s k up down = 1000000 * (s * s + k * k) + 2 * (s * k) * down - 2 * (s * k) * up

-- what is taken off is no more than what is there
pub enough : (s k up : ℕ) → up ≤ 1000000 → 2 * (s * k) * up ≤ 1000000 * (s * s + k * k)
enough s k up h = omega (arith, mul-le-mul_left (2 * (s * k)) h, mul-le-mul_left 1000000 (twice s k))

-- what the code multiplies and adds, in its limits
pub record Products (s k up down : ℕ) : Type 0 where
  pub ships : s * s ≤ most_ship * most_ship
  pub winds : k * k ≤ most_apparent * most_apparent
  pub both : s * k ≤ most_ship * most_apparent
  pub plus : 2 * (s * k) * down ≤ 2 * (most_ship * most_apparent) * 1000000
  pub minus : 2 * (s * k) * up ≤ 1000000 * (s * s + k * k)

pub products : (s k up down : ℕ) → s ≤ most_ship → k ≤ most_apparent → up + down ≤ 1000000 → Products s k up down
products s k up down hs hk h =
    let both : s * k ≤ most_ship * most_apparent = mul-le-mul hs hk in
    record {
      ships = square hs;
      winds = square hk;
      both = both;
      plus = mul-le-mul {n₂ = 2 * (most_ship * most_apparent)} {m₂ = 1000000} (omega arith) (omega arith);
      minus = enough s k up (omega arith);
    }

-- and no more than the square of both speeds together
pub million_most : (s k up down : ℕ) → down ≤ 1000000 → million s k up down ≤ 1000000 * ((s + k) * (s + k))
unfolding million
million_most s k up down h = omega (arith, mul-le-mul_left (2 * (s * k)) h)

-- ---- the root

-- 0.05 m/s is 625 parts: 625² · 1000000 = 390625000000
in_squares : (e m : ℕ) → e * e ≤ m / 390625000000 → 1000000 * ((625 * e) * (625 * e)) ≤ m
in_squares e m h = omega arith

under_squares : (e m : ℕ) → m / 390625000000 < e * e → m < 1000000 * ((625 * e) * (625 * e))
under_squares e m h = omega arith

of_squares : (e m : ℕ) → 1000000 * ((625 * e) * (625 * e)) ≤ m → e * e ≤ m / 390625000000
of_squares e m h = omega arith

below_squares : (e m : ℕ) → m < 1000000 * ((625 * e) * (625 * e)) → m / 390625000000 < e * e
below_squares e m h = omega arith

lower : (v : ℕ) → 0 < v → parts_of_metres v - half_tenth ≡ 625 * (2 * v - 1)
lower v h = omega arith

upper : (v : ℕ) → parts_of_metres v + half_tenth ≡ 625 * (2 * v + 1)
upper v = omega arith

module _ (s k r : ℕ) {up down : ℕ} (p : Parts (cosine (2 * r)) up down) where
  pub cosine_most : up + down ≤ 1000000
  cosine_most = omega (arith, parts_size (cosine (2 * r)) p, cosine_small (2 * r))

  pub sum_is : sum s k r ≡ pos (million s k up down)
  unfolding sum million
  sum_is =
      difference (1000000 * (s * s + k * k)) (2 * (s * k)) (cosine (2 * r))
      ∙ rw (← p.up_is, ← p.down_is) (sub_up (1000000 * (s * s + k * k) + 2 * (s * k) * down) (2 * (s * k) * up) (omega (arith, enough s k up (omega (arith, cosine_most)))))

  pub nearest : (v : ℕ) → Root (million s k up down / 390625000000) v → Nearest s k r v
  nearest v a =
      let m = million s k up down in
      record {
        low = λ h. record { le = rw (sum_is, lower v h) (le→leb (1000000 * (625 * (2 * v - 1) * (625 * (2 * v - 1)))) m (in_squares (2 * v - 1) m (a.low h))) };
        high = record { lt = rw (sum_is, upper v) (lt→ltb m (1000000 * (625 * (2 * v + 1) * (625 * (2 * v + 1)))) (under_squares (2 * v + 1) m a.high)) };
      }

  pub root_of : (v : ℕ) → Nearest s k r v → Root (million s k up down / 390625000000) v
  root_of v a =
      let m = million s k up down in
      record {
        low = λ h. of_squares (2 * v - 1) m (leb→le (1000000 * (625 * (2 * v - 1) * (625 * (2 * v - 1)))) m (rw (sum_is, lower v h) at (a.low h).le));
        high = below_squares (2 * v + 1) m (ltb→lt m (1000000 * (625 * (2 * v + 1) * (625 * (2 * v + 1)))) (rw (sum_is, upper v) at a.high.lt));
      }

-- there is one root only
not_less : (n v w : ℕ) → Root n v → Root n w → v < w → ⊥
not_less n v w a b h = omega (arith, a.high, b.low (omega arith), square {m = 2 * v + 1} {n = 2 * w - 1} (omega arith))

pub one_root : (n v w : ℕ) → Root n v → Root n w → v ≡ w
one_root n v w a b =
    ⊎_elim (λ x. ⊎_elim (λ y. omega arith) (λ y. absurd (not_less n v w a b y)) (le_or_lt w v)) (λ y. absurd (not_less n w v b a y))
    (le_or_lt v w)

-- "speed 2, 0 to 956": a root of fewer squares than would take it above
pub root_most : (n v : ℕ) → n < too_many → Root n v → v ≤ highest_wind
root_most n v h a =
    ⊎_elim (λ x. x) (λ y. absurd (omega (arith, a.low (omega arith), square {m = 2 * highest_wind + 1} {n = 2 * v - 1} (omega arith)))) (le_or_lt v highest_wind)

pub million_small : (s k up down : ℕ) → s ≤ most_ship → k ≤ most_apparent → down ≤ 1000000 → million s k up down / 390625000000 < too_many
million_small s k up down hs hk h =
    omega (arith, million_most s k up down h, square {m = s + k} {n = most_ship + most_apparent} (omega arith))

-- ---- the root by bisection

pub reaches_falls : (n m : ℕ) → Falls (reaches n) m
unfolding reaches
reaches_falls n m i j h k e =
    le-leb ((2 * i + 1) * (2 * i + 1)) n (omega (arith, square {m = 2 * i + 1} {n = 2 * j + 1} (omega arith), leb-true ((2 * j + 1) * (2 * j + 1)) n e))

pub root_parted : (n v : ℕ) → n < too_many → Parted (reaches n) highest_wind v → Root n v
unfolding reaches
root_parted n zero h s =
    record { low = λ some. absurd (omega arith); high = leb-false ((2 * 0 + 1) * (2 * 0 + 1)) n (s.no 0 (omega arith) (omega arith)) }
root_parted n (suc u) h s =
    let edge : 2 * suc u - 1 ≡ 2 * u + 1 = omega arith in
    record {
      low = λ some. rw edge (leb-true ((2 * u + 1) * (2 * u + 1)) n (s.yes u (omega arith)));
      high =
          ⊎_elim (λ most. omega (arith, square {m = 2 * highest_wind + 1} {n = 2 * suc u + 1} (omega arith)))
          (λ less. leb-false ((2 * suc u + 1) * (2 * suc u + 1)) n (s.no (suc u) (omega arith) less))
          (le_or_lt highest_wind (suc u));
    }
