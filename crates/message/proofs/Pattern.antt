-- What a float's bit pattern says of its value. Assumes nothing.
use mathlib.Core.Path.{◌≡◌, refl, sym, ap, ◌∙◌, subst}
use mathlib.Core.Bool.{Bool, true, false, not, cond}
use Prim.Native.Nat.{ℕ, zero, suc, ◌+◌, ◌-◌, ◌*◌, ◌/◌, ◌%◌, ◌^◌, ◌≤◌, ◌<◌, min}
use native.Mathlib.Nat.{lt_of_lt_of_le, mul_assoc, mul-le-mul, le-add_right, one-mul}
use native.Mathlib.Omega.{arith}
use lib.Dec.{T, leb, eqb}
use lib.Pow.{pow-add, pow_pos, pow_mono, shl_lt}
use lib.Ieee.{Float, nan, inf, fin, binary64, up, down, odd, of_fields, fits, to_bits, of_bits, is_nan}
use lib.Ieee.Bits.{of_bits-to_bits}
use lib.Ieee.Fits.{down_pos}
use lib.Ieee.Exact.{HasValue, odd_sign}
use Rattle.number.specs.Whole.{signed}
use Rattle.message.specs.Value.{to_whole}
use Rattle.wire.specs.Finite.{Finite}
use Rattle.message.specs.Work.{digits, most, capped}
use Rattle.message.proofs.Rule as Rule

-- ---- a finite value by the fraction that it equals

pub value_whole : (x : Float) (s : Bool) (a c : ℕ) → 0 < c → HasValue x s a c → capped 1 x ≡ signed s (min (to_whole a c) most)
value_whole nan s a c C v = absurd v
value_whole (inf t) s a c C v = absurd v
value_whole (fin t m e) s a c C v =
    ap (λ (n : ℕ). signed t (min (to_whole n (down e)) most)) (one-mul (m * up e))
    ∙ ap (λ (u : Bool). signed u (min (to_whole (m * up e) (down e)) most)) v.0
    ∙ ap (λ (n : ℕ). signed s (min n most)) (Rule.same (m * up e) (down e) a c (down_pos e) C v.1)

-- ---- the fields

pick_value : (b c s : Bool) (v : Float) (a l : ℕ) → Finite (cond b (cond c (inf s) nan) v) → HasValue v s a l → HasValue (cond b (cond c (inf s) nan) v) s a l
pick_value true true s v a l h k = absurd h
pick_value true false s v a l h k = absurd h
pick_value false c s v a l h k = k

pred_suc : (x : ℕ) → x ≡ suc x - 1
pred_suc x = omega arith

fields_value : (s : Bool) (x t : ℕ) → Finite (of_fields binary64 s x t) → HasValue (of_fields binary64 s x t) s (digits x t * 2 ^ (x - 1)) (2 ^ 1074)
unfolding of_fields
fields_value s zero t h = odd_sign 53 s t 0 1074
fields_value s (suc x) t h =
    pick_value (eqb (suc x) 2047) (eqb t 0) s (odd 53 s (2 ^ 52 + t) x 1074) ((2 ^ 52 + t) * 2 ^ (suc x - 1)) (2 ^ 1074) h
    (subst (λ (y : ℕ). HasValue (odd 53 s (2 ^ 52 + t) x 1074) s ((2 ^ 52 + t) * 2 ^ y) (2 ^ 1074)) (pred_suc x) (odd_sign 53 s (2 ^ 52 + t) x 1074))

-- the value of a finite f64, by the fields of its pattern
pub bits_value : (b : ℕ) → Finite (of_bits binary64 b) → HasValue (of_bits binary64 b) (leb (2 ^ 63) b) (digits (b % 2 ^ 63 / 2 ^ 52) (b % 2 ^ 52) * 2 ^ (b % 2 ^ 63 / 2 ^ 52 - 1)) (2 ^ 1074)
unfolding of_bits
bits_value b h = fields_value (leb (2 ^ 63) b) (b % 2 ^ 63 / 2 ^ 52) (b % 2 ^ 52) h

pub finite_no_nan : (x : Float) → Finite x → T (not (is_nan x))
unfolding is_nan
finite_no_nan nan h = absurd h
finite_no_nan (inf s) h = absurd h
finite_no_nan (fin s m e) h = tt

-- ---- by the exponent's field

digits_lead : (x t : ℕ) → 0 < x → digits x t ≡ 2 ^ 52 + t
digits_lead zero t h = absurd (no h)
  where
    no : 0 < 0 → ⊥
    no h = omega arith
digits_lead (suc x) t h = refl

digits_lt : (x t : ℕ) → t < 2 ^ 52 → digits x t < 2 ^ 53
digits_lt zero t h = omega arith
digits_lt (suc x) t h = omega arith

-- below 1/2
pub small : (x t : ℕ) → t < 2 ^ 52 → x < 1022 → to_whole (digits x t * 2 ^ (x - 1)) (2 ^ 1074) ≡ 0
small x t h l = Rule.low (digits x t * 2 ^ (x - 1)) (2 ^ 1074) (double (digits x t * 2 ^ (x - 1)) (2 ^ 1073) (lt_of_lt_of_le (shl_lt 53 (x - 1) (digits_lt x t h)) (pow_mono (room x l))))
  where
    double : (a c : ℕ) → a < c → 2 * a < 2 * c
    double a c h = omega arith

    room : (x : ℕ) → x < 1022 → 53 + (x - 1) ≤ 1073
    room x l = omega arith

-- the digits are a whole number of 2 ^ (x - 1075)
pub middle : (x t : ℕ) → 1022 ≤ x → x < 1075 → to_whole (2 ^ 52 + t) (2 ^ (1075 - x)) ≡ to_whole (digits x t * 2 ^ (x - 1)) (2 ^ 1074)
middle x t l h =
    Rule.same (2 ^ 52 + t) (2 ^ (1075 - x)) (digits x t * 2 ^ (x - 1)) (2 ^ 1074) (pow_pos (1075 - x)) (pow_pos 1074)
    (sym (ap (λ (d : ℕ). d * 2 ^ (x - 1) * 2 ^ (1075 - x)) (digits_lead x t (positive x l))
    ∙ mul_assoc (2 ^ 52 + t) (2 ^ (x - 1)) (2 ^ (1075 - x))
    ∙ ap (λ (y : ℕ). (2 ^ 52 + t) * y) (sym (pow-add 2 (x - 1) (1075 - x)) ∙ ap (λ (y : ℕ). 2 ^ y) (whole x l h))))
  where
    positive : (x : ℕ) → 1022 ≤ x → 0 < x
    positive x l = omega arith

    whole : (x : ℕ) → 1022 ≤ x → x < 1075 → x - 1 + (1075 - x) ≡ 1074
    whole x l h = omega arith

-- 2 ^ 32 at least
pub large : (x t : ℕ) → 1055 ≤ x → 2 ^ 32 ≤ to_whole (digits x t * 2 ^ (x - 1)) (2 ^ 1074)
large x t l =
    Rule.high (2 ^ 32) (digits x t * 2 ^ (x - 1)) (2 ^ 1074) (pow_pos 1074)
    (subst (λ (d : ℕ). 2 ^ 32 * 2 ^ 1074 ≤ d * 2 ^ (x - 1)) (sym (digits_lead x t (positive x l))) (mul-le-mul (le-add_right (2 ^ 52) t) (pow_mono (room x l))))
  where
    positive : (x : ℕ) → 1055 ≤ x → 0 < x
    positive x l = omega arith

    room : (x : ℕ) → 1055 ≤ x → 1054 ≤ x - 1
    room x l = omega arith

-- a finite f64, by the fields of its pattern
pub by_fields : (x : Float) → T (fits binary64 x) → Finite x → let b = to_bits binary64 x in
    capped 1 x ≡ signed (leb (2 ^ 63) b) (min (to_whole (digits (b % 2 ^ 63 / 2 ^ 52) (b % 2 ^ 52) * 2 ^ (b % 2 ^ 63 / 2 ^ 52 - 1)) (2 ^ 1074)) most)
by_fields x f h =
    let b = to_bits binary64 x in
    let back : of_bits binary64 b ≡ x = of_bits-to_bits binary64 x f in
    let a = digits (b % 2 ^ 63 / 2 ^ 52) (b % 2 ^ 52) * 2 ^ (b % 2 ^ 63 / 2 ^ 52 - 1) in
    value_whole x (leb (2 ^ 63) b) a (2 ^ 1074) (pow_pos 1074)
    (subst (λ (y : Float). HasValue y (leb (2 ^ 63) b) a (2 ^ 1074)) back (bits_value b (subst Finite (sym back) h)))
