-- The laws of the rounding with its sign, of tenths (n is 10) and of degrees (n is 1): it is odd, and it is monotone. Assumes nothing.
use mathlib.Core.Path.{◌≡◌, refl, sym, ap, ◌∙◌}
use mathlib.Core.Bool.{Bool, true, false, ◌&&◌, ◌||◌}
use Prim.Native.Nat.{ℕ, ◌*◌, ◌≤◌, ◌<◌, zero-le}
use native.Mathlib.Nat.{le_of_eq, le_antisymm, le_of_mul-le-mul_right, mul_assoc, mul-le-mul_left, mul-zero, zero-mul}
use native.Mathlib.Omega.{arith}
use lib.Dec.{T, ltb, eqb, ltb→lt, eqb→eq, le→leb}
use lib.IntN.{pos, neg_ℤ, neg_ℤ-neg_ℤ}
use lib.Signed.{◌≤ℤ◌, ≤ℤ_refl}
use lib.Ieee.{Float, nan, inf, fin, up, down, neg, le, lt, eq}
use lib.Ieee.Fits.{and_l, and_r, down_pos}
use Rattle.number.proofs.RoundLaws.{minus_le, minus_minus}
use Rattle.wire.specs.Finite.{Finite}
use Rattle.message.specs.Value.{to_whole, times_rounded}
use Rattle.message.proofs.Rule as Rule

-- rounding -x gives minus what rounding x gives
pub value_odd : (n : ℕ) (x : Float) → times_rounded n (neg x) ≡ neg_ℤ (times_rounded n x)
unfolding neg
value_odd n nan = refl
value_odd n (inf minus) = refl
value_odd n (fin false m e) = refl
value_odd n (fin true m e) = sym (neg_ℤ-neg_ℤ (pos (to_whole (n * (m * up e)) (down e))))

-- ---- order

-- what `le` says of the sizes of two values with the same sign, a and b: one is less, or both, in some order x and y, are equal
at_most : (a b x y : ℕ) (u : Bool) → (x ≡ y → a ≡ b) → T (ltb a b || (eqb x y && u)) → a ≤ b
at_most a b x y u same t = go (ltb a b) (ltb→lt a b) t
  where
    go : (less : Bool) → (T less → a < b) → T (less || (eqb x y && u)) → a ≤ b
    go true f t = omega (arith, f tt)
    go false f t = le_of_eq (same (eqb→eq x y (and_l (eqb x y) u t)))

-- n times either of two fractions
scaled : (n a b c d : ℕ) → 0 < b → 0 < d → a * d ≤ c * b → to_whole (n * a) b ≤ to_whole (n * c) d
scaled n a b c d B D h = Rule.monotone (n * a) b (n * c) d B D (omega (arith, mul_assoc n a d, mul_assoc n c b, mul-le-mul_left n h))

-- zero rounds to zero
none : (n a b c : ℕ) → 0 < b → 0 < c → a * b ≡ 0 → to_whole (n * a) c ≡ 0
none n a b c B C e =
    let zero : a ≤ 0 = le_of_mul-le-mul_right {k = b} (omega (arith, e, zero-mul b)) B in
    Rule.low (n * a) c (omega (arith, C, ap (λ (x : ℕ). n * x) (le_antisymm zero zero-le), mul-zero n))

-- the larger value rounds to no less
pub value_monotone : (n : ℕ) (x y : Float) → Finite x → Finite y → T (le x y) → times_rounded n x ≤ℤ times_rounded n y
unfolding le lt eq
value_monotone n nan y hx hy t = absurd hx
value_monotone n (inf s) y hx hy t = absurd hx
value_monotone n (fin s m e) nan hx hy t = absurd hy
value_monotone n (fin s m e) (inf u) hx hy t = absurd hy
value_monotone n (fin false m e) (fin false k d) hx hy t =
    let a = m * up e * down d in
    let b = k * up d * down e in
    record { le = le→leb _ _ (scaled n (m * up e) (down e) (k * up d) (down d) (down_pos e) (down_pos d) (at_most a b a b _ (λ q. q) t)) }
value_monotone n (fin false m e) (fin true k d) hx hy t =
    let a = m * up e * down d in
    let b = k * up d * down e in
    let nought : a ≡ 0 = eqb→eq a 0 (and_r (eqb a b) (eqb a 0) t) in
    let alike : a ≡ b = eqb→eq a b (and_l (eqb a b) (eqb a 0) t) in
    rw (none n (m * up e) (down d) (down e) (down_pos d) (down_pos e) nought, none n (k * up d) (down e) (down d) (down_pos e) (down_pos d) (sym alike ∙ nought)) (≤ℤ_refl (pos 0))
value_monotone n (fin true m e) (fin false k d) hx hy t = record { le = minus_le (to_whole (n * (m * up e)) (down e)) (to_whole (n * (k * up d)) (down d)) }
value_monotone n (fin true m e) (fin true k d) hx hy t =
    let a = m * up e * down d in
    let b = k * up d * down e in
    let falls = scaled n (k * up d) (down d) (m * up e) (down e) (down_pos d) (down_pos e) (at_most b a a b _ sym t) in
    record { le = minus_minus (to_whole (n * (m * up e)) (down e)) (to_whole (n * (k * up d)) (down d)) falls }
