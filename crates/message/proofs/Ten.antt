-- Ten times a binary32 is a binary64 exactly: m * 2 ^ e * 10 is (m * 10) * 2 ^ j of the binary64's smallest values, 2 ^ -1074, and
-- m * 10 has at most 53 binary digits. Assumes nothing.
use mathlib.Core.Path.{◌≡◌, refl, sym, ap, ◌∙◌, subst}
use mathlib.Core.Bool.{Bool, true, false, not, ◌&&◌}
use Prim.Native.Nat.{ℕ, zero, suc, ◌+◌, ◌-◌, ◌*◌, ◌%◌, ◌^◌, ◌≤◌, ◌<◌}
use native.Mathlib.Nat.{lt_of_lt_of_le, lt_of_not-le, lt_irrefl, mul_assoc, mul_comm, mul-one, mul_right_comm, mul-lt-mul_of_pos_right, zero-mul, mul-pos, le_of_suc-le-suc}
use native.Mathlib.Omega.{arith}
use lib.IntN.{ℤ, pos, negsuc}
use lib.Dec.{T, leb, ltb, eqb, leb→le, ltb→lt, lit≤, lit<}
use lib.Pow.{pow-add, pow_pos, pow_mono, pow-lt, shl_lt}
use lib.Ieee.{Float, nan, inf, fin, binary32, binary64, up, down, unlike, round, mul, fits, of_bits, is_nan}
use lib.Ieee.Fits.{and_i, and_l, and_r, down_pos, fits_widens}
use lib.Ieee.Exact.{HasValue, round_exact}
use Rattle.wire.specs.Finite.{Finite}
use Rattle.message.specs.Work.{capped}
use Rattle.message.proofs.Pattern.{value_whole, finite_no_nan}

-- y is exactly ten times x.
abbrev TenTimes : Float → Float → Type 0
TenTimes nan y = ⊥
TenTimes (inf minus) y = ⊥
TenTimes (fin minus m e) y = HasValue y minus (10 * (m * up e)) (down e)

-- what `fits` says of an f32 that is not zero
fits_says : (s : Bool) (m : ℕ) (e : ℤ) → T (fits binary32 (fin s (suc m) e)) → (suc m < 2 ^ 24) × (down e ≤ 2 ^ 149) × (suc m * up e < 2 ^ 128 * down e)
unfolding fits
fits_says s m e t =
    let a : Bool = eqb (suc m % 2) 1 in
    let b : Bool = ltb (suc m) (2 ^ 24) in
    let c : Bool = leb (down e) (2 ^ 149) in
    let d : Bool = ltb (suc m * up e) (2 ^ 128 * down e) in (
      ltb→lt (suc m) (2 ^ 24) (and_r a b (and_l (a && b) c (and_l (a && b && c) d t))),
      leb→le (down e) (2 ^ 149) (and_r (a && b) c (and_l (a && b && c) d t)),
      ltb→lt (suc m * up e) (2 ^ 128 * down e) (and_r (a && b && c) d t),
    )

tenfold_lt : (m : ℕ) → m < 2 ^ 24 → m * 10 < 2 ^ 53
tenfold_lt m h = omega arith

pow_le_back : (a l : ℕ) → 2 ^ a ≤ 2 ^ l → a ≤ l
pow_le_back a l h = le_of_suc-le-suc (lt_of_not-le (λ (g : suc l ≤ a). lt_irrefl (2 ^ l) (lt_of_lt_of_le (pow-lt g) h)))

exact : (s : Bool) (m : ℕ) (e : ℤ) → m < 2 ^ 24 → down e ≤ 2 ^ 149 → m * up e < 2 ^ 128 * down e → HasValue (round binary64 s (m * up e * 10) (down e * 1)) s (m * up e * 10) (down e * 1)
exact s m (pos k) a b c =
    round_exact binary64 s (m * 2 ^ k * 10) 1 (m * 10) (k + 1074) (lit< tt) (tenfold_lt m a)
    (subst (λ (y : ℕ). y < 2 ^ 2098) (sym grouped) (lt_of_lt_of_le (mul-lt-mul_of_pos_right c (lit< tt)) (lit≤ tt)))
    (mul_assoc (m * 2 ^ k) 10 (2 ^ 1074) ∙ sym grouped ∙ sym (mul-one (m * 10 * 2 ^ (k + 1074))))
  where
    grouped : m * 10 * 2 ^ (k + 1074) ≡ m * 2 ^ k * (10 * 2 ^ 1074)
    grouped =
        ap (λ (y : ℕ). m * 10 * y) (pow-add 2 k 1074)
        ∙ sym (mul_assoc (m * 10) (2 ^ k) (2 ^ 1074))
        ∙ ap (λ (y : ℕ). y * 2 ^ 1074) (mul_right_comm m 10 (2 ^ k))
        ∙ mul_assoc (m * 2 ^ k) 10 (2 ^ 1074)
exact s m (negsuc k) a b c =
    round_exact binary64 s (m * 1 * 10) (2 ^ suc k * 1) (m * 10) (1074 - suc k) (mul-pos (pow_pos (suc k)) (lit< tt)) (tenfold_lt m a)
    (lt_of_lt_of_le (shl_lt 53 (1074 - suc k) (tenfold_lt m a)) (pow_mono (room k)))
    (ap (λ (y : ℕ). y * 10 * 2 ^ 1074) (mul-one m)
    ∙ ap (λ (y : ℕ). m * 10 * y) (ap (λ (y : ℕ). 2 ^ y) (sym (split k (pow_le_back (suc k) 149 b))) ∙ pow-add 2 (1074 - suc k) (suc k))
    ∙ sym (mul_assoc (m * 10) (2 ^ (1074 - suc k)) (2 ^ suc k))
    ∙ ap (λ (y : ℕ). m * 10 * 2 ^ (1074 - suc k) * y) (sym (mul-one (2 ^ suc k))))
  where
    room : (k : ℕ) → 53 + (1074 - suc k) ≤ 2098
    room k = omega arith

    split : (k : ℕ) → suc k ≤ 149 → 1074 - suc k + suc k ≡ 1074
    split k h = omega arith

exact_zero : (s : Bool) (e : ℤ) → HasValue (round binary64 s (zero * up e * 10) (down e * 1)) s (zero * up e * 10) (down e * 1)
exact_zero s e =
    round_exact binary64 s (zero * up e * 10) (down e * 1) 0 0 (mul-pos (down_pos e) (lit< tt)) (lit< tt) (lit< tt)
    (ap (λ (y : ℕ). y * 10 * 2 ^ 1074) (zero-mul (up e)) ∙ sym (zero-mul (down e * 1)))

like : (s : Bool) → unlike s false ≡ s
like true = refl
like false = refl

tidy : (s : Bool) (y : Float) (u d : ℕ) → HasValue y (unlike s false) (u * 10) (d * 1) → HasValue y s (10 * u) d
tidy s y u d v = subst (λ (t : Bool). HasValue y t (10 * u) d) (like s) (subst (λ (n : ℕ). HasValue y (unlike s false) n d) (mul_comm u 10) (subst (λ (n : ℕ). HasValue y (unlike s false) (u * 10) n) (mul-one d) v))

pub ten_exact : (x : Float) → T (fits binary32 x) → Finite x → TenTimes x (mul binary64 x (of_bits binary64 0x4024_0000_0000_0000))
unfolding mul of_bits
ten_exact nan f h = absurd h
ten_exact (inf s) f h = absurd h
ten_exact (fin s zero e) f h = tidy s (mul binary64 (fin s zero e) (fin false 5 (pos 1))) (zero * up e) (down e) (exact_zero (unlike s false) e)
ten_exact (fin s (suc m) e) f h =
    let b = fits_says s m e f in
    tidy s (mul binary64 (fin s (suc m) e) (fin false 5 (pos 1))) (suc m * up e) (down e) (exact (unlike s false) (suc m) e b.0 b.1 b.2)

-- ---- what follows for the tenths

pub ten_finite : (x y : Float) → TenTimes x y → Finite y
ten_finite nan y h = absurd h
ten_finite (inf s) y h = absurd h
ten_finite (fin s m e) nan h = absurd h
ten_finite (fin s m e) (inf t) h = absurd h
ten_finite (fin s m e) (fin t n d) h = tt

pub ten_times : (x y : Float) → TenTimes x y → capped 1 y ≡ capped 10 x
ten_times nan y h = absurd h
ten_times (inf s) y h = absurd h
ten_times (fin s m e) y h = value_whole y s (10 * (m * up e)) (down e) (down_pos e) h

-- a finite binary32 as a binary64
pub widens : (x : Float) → T (fits binary32 x) → Finite x → T (fits binary64 x && not (is_nan x))
widens x f h = and_i (fits binary64 x) (not (is_nan x)) (fits_widens x f) (finite_no_nan x h)
