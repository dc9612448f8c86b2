-- The laws of the rounding of a message's value, of its size m / c: it is to the nearest, a whole number stays, a half goes to the even
-- neighbour, what is no half rounds as everywhere else; it is IEEE 754's, and so monotone. But for worked examples only this file looks
-- into `to_whole`. Assumes nothing.
use mathlib.Core.Path.{◌≡◌, refl, sym, ap, ◌∙◌, subst}
use Prim.Native.Nat.{ℕ, ◌+◌, ◌*◌, ◌/◌, ◌%◌, ◌^◌, ◌≤◌, ◌<◌, compare, Ordering}
use lib.Pow.{pow_pos}
use native.Mathlib.Nat.{div-add-mod', div-eq_of_lt-le, mod-lt, mod-le, add-mul, mul_assoc, mul_left_comm, mul-le-mul_right}
use native.Mathlib.Decide.{dec_le}
use native.Mathlib.Omega.{arith}
use lib.Arith.{lt_of_le-ne}
use lib.Dec.{is_le, compare_is_eq}
use lib.Ieee as ieee
use lib.Ieee.Nearest.{closest, closest_mono, closest_same}
use borrow.Author.Tests.{leb-true, leb-false, eqb-true, eqb-false, eq-eqb, ne_eqb}
use Rattle.number.specs.Round.{nearest}
use Rattle.number.proofs.RoundLaws.{nearest_only, nearest_whole}
use Rattle.message.specs.Value.{even_from, to_whole}

-- ---- products that are no more than sums

odd_times : (q c : ℕ) → (2 * q + 1) * c ≡ 2 * (q * c) + c
odd_times q c = omega (arith, add-mul (2 * q) 1 c, mul_assoc 2 q c)

next_times : (q c : ℕ) → (q + 1) * (2 * c) ≡ 2 * (q * c) + 2 * c
next_times q c = omega (arith, add-mul q 1 (2 * c), mul_left_comm q 2 c)

-- ---- on a half, and off it

module _ (m c : ℕ) where
  on_half : 2 * (m % c) ≡ c → to_whole m c ≡ even_from (m / c)
  unfolding to_whole
  on_half h = rw (eq-eqb (2 * (m % c)) c h)

  off_half : (2 * (m % c) ≡ c → ⊥) → to_whole m c ≡ nearest m c
  unfolding to_whole
  off_half h = rw (ne_eqb (2 * (m % c)) c h)

  -- what is no half rounds as everywhere else
  pub no_half_as_ever : ((q : ℕ) → 2 * m ≡ (2 * q + 1) * c → ⊥) → to_whole m c ≡ nearest m c
  no_half_as_ever none = off_half (λ e. none (m / c) (omega (arith, div-add-mod' m c, odd_times (m / c) c)))

-- ---- by twice the remainder, as the code has it

module _ (m c : ℕ) (C : 0 < c) where
  under : m % c * 2 < c → to_whole m c ≡ m / c
  under h =
      off_half m c (λ e. omega arith)
      ∙ nearest_only m c (m / c)
      (omega (arith, div-add-mod' m c, mul_left_comm (m / c) 2 c))
      (omega (arith, div-add-mod' m c, next_times (m / c) c))

  over : c < m % c * 2 → to_whole m c ≡ m / c + 1
  over h =
      off_half m c (λ e. omega arith)
      ∙ nearest_only m c (m / c + 1)
      (omega (arith, div-add-mod' m c, next_times (m / c) c))
      (omega (arith, mod-lt m C, div-add-mod' m c, next_times (m / c + 1) c, add-mul (m / c) 1 c))

  pub less : m % c * 2 + m / c % 2 ≤ c → m / c ≡ to_whole m c
  less h = go (dec_le c (m % c * 2))
    where
      go : Dec (c ≤ m % c * 2) → m / c ≡ to_whole m c
      go (yes k) = sym (on_half m c (omega arith) ∙ omega arith)
      go (no k) = sym (under (omega arith))

  pub more : c < m % c * 2 + m / c % 2 → m / c + 1 ≡ to_whole m c
  more h = go (dec_le (m % c * 2) c)
    where
      go : Dec (m % c * 2 ≤ c) → m / c + 1 ≡ to_whole m c
      go (yes k) = sym (on_half m c (omega arith) ∙ omega arith)
      go (no k) = sym (over (omega arith))

  -- no whole number is nearer: m / c lies within a half of it, both ends included
  pub whole_nearest : (to_whole m c * (2 * c) ≤ 2 * m + c) × (2 * m + c ≤ (to_whole m c + 1) * (2 * c))
  whole_nearest = go (dec_le (m % c * 2 + m / c % 2) c)
    where
      go : Dec (m % c * 2 + m / c % 2 ≤ c) → (to_whole m c * (2 * c) ≤ 2 * m + c) × (2 * m + c ≤ (to_whole m c + 1) * (2 * c))
      go (yes h) = rw (sym (less h)) (omega (arith, div-add-mod' m c, mul_left_comm (m / c) 2 c), omega (arith, div-add-mod' m c, next_times (m / c) c))
      go (no h) = rw (sym (more (omega arith))) (
        omega (arith, div-add-mod' m c, next_times (m / c) c),
        omega (arith, mod-lt m C, div-add-mod' m c, next_times (m / c + 1) c, add-mul (m / c) 1 c),
      )

-- ---- whole numbers and halves

-- a whole number stays
pub whole_stays : (q c : ℕ) → 0 < c → to_whole (q * c) c ≡ q
whole_stays q c C =
    let w : q * c / c ≡ q = div-eq_of_lt-le c (omega arith) (omega (arith, add-mul q 1 c)) in
    off_half (q * c) c (λ e. omega (arith, C, div-add-mod' (q * c) c, ap (λ (x : ℕ). x * c) w)) ∙ nearest_whole q c C

-- q + 1/2 goes to the even one of q and q + 1
half_goes : (m c q : ℕ) → 0 < c → 2 * m ≡ (2 * q + 1) * c → to_whole m c ≡ even_from q
half_goes m c q C e =
    let w : m / c ≡ q = div-eq_of_lt-le c (omega (arith, odd_times q c)) (omega (arith, odd_times q c, add-mul q 1 c)) in
    on_half m c (omega (arith, e, odd_times q c, div-add-mod' m c, ap (λ (x : ℕ). x * c) w)) ∙ ap even_from w

-- so 2k + 1/2 goes to 2k, and 2k + 3/2 to 2k + 2
pub half_to_even : (k c : ℕ) → 0 < c → (to_whole ((4 * k + 1) * c) (2 * c) ≡ 2 * k) × (to_whole ((4 * k + 3) * c) (2 * c) ≡ 2 * k + 2)
half_to_even k c C = (
  half_goes ((4 * k + 1) * c) (2 * c) (2 * k) (omega arith) (omega (arith, add-mul (4 * k) 1 c, mul_assoc 4 k c, odd_times (2 * k) (2 * c), mul_assoc 2 k (2 * c), mul_left_comm k 2 c)) ∙ omega arith,
  half_goes ((4 * k + 3) * c) (2 * c) (2 * k + 1) (omega arith) (omega (arith, add-mul (4 * k) 3 c, mul_assoc 4 k c, odd_times (2 * k + 1) (2 * c), odd_times k (2 * c), mul_left_comm k 2 c)) ∙ omega arith,
)

-- below a half: 0
pub low : (a c : ℕ) → 2 * a < c → to_whole a c ≡ 0
low a c h = off_half a c (λ e. omega (arith, mod-le a c)) ∙ nearest_only a c 0 (omega arith) (omega arith)

-- ---- order

-- it is the rounding of IEEE 754, to the nearest and ties to even, as the logic of floats has it
pub as_ieee : (m c : ℕ) → 0 < c → to_whole m c ≡ closest m c
as_ieee m c C = go (compare (m % c * 2) c) refl
  where
    go : (o : Ordering) → compare (m % c * 2) c ≡ o → to_whole m c ≡ ieee.nearest (m / c) o
    go Ordering.lt e = under m c C (lt_of_le-ne (leb-true (m % c * 2) c (ap is_le e)) (eqb-false (m % c * 2) c (ap compare_is_eq e)))
    go Ordering.eq e = on_half m c (omega (arith, eqb-true (m % c * 2) c (ap compare_is_eq e)))
    go Ordering.gt e = over m c C (leb-false (m % c * 2) c (ap is_le e)) ∙ omega arith

-- a / b ≤ c / d: the larger fraction rounds to no less
pub monotone : (a b c d : ℕ) → 0 < b → 0 < d → a * d ≤ c * b → to_whole a b ≤ to_whole c d
monotone a b c d B D h = omega (arith, as_ieee a b B, as_ieee c d D, closest_mono a b c d B D h)

-- equal fractions round alike
pub same : (a b c d : ℕ) → 0 < b → 0 < d → a * d ≡ c * b → to_whole a b ≡ to_whole c d
same a b c d B D e = as_ieee a b B ∙ closest_same a b c d B D e ∙ sym (as_ieee c d D)

-- at least n: at least n
pub high : (n a c : ℕ) → 0 < c → n * c ≤ a → n ≤ to_whole a c
high n a c C h = omega (arith, whole_stays n c C, monotone (n * c) c a c C C (mul-le-mul_right c h))

-- ---- as the code finds it, at a power of two

at_power : (m k : ℕ) {c n : ℕ} → c ≡ 2 ^ k → n ≡ to_whole m c → n ≡ to_whole m (2 ^ k)
at_power m k e f = f ∙ ap (to_whole m) e

above_zero : (k : ℕ) {c : ℕ} → c ≡ 2 ^ k → 0 < c
above_zero k e = subst (λ (x : ℕ). 0 < x) (sym e) (pow_pos k)

pub goes_down : (m k c : ℕ) → c ≡ 2 ^ k → m % c * 2 + m / c % 2 ≤ c → m / c ≡ to_whole m (2 ^ k)
goes_down m k c e h = at_power m k e (less m c (above_zero k e) h)

pub goes_up : (m k c : ℕ) → c ≡ 2 ^ k → c < m % c * 2 + m / c % 2 → m / c + 1 ≡ to_whole m (2 ^ k)
goes_up m k c e h = at_power m k e (more m c (above_zero k e) h)
