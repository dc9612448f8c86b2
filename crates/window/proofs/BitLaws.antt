-- What clearing or setting a bit does to each bit of a word. Both put a digit between the digits above it and those below it
-- (`put`), and every other bit is read from those alone. Assumes nothing.
use mathlib.Core.Path.{◌≡◌, refl, sym, ap, ◌∙◌, subst}
use Prim.Native.Nat.{ℕ, zero, suc, ◌+◌, ◌-◌, ◌*◌, ◌/◌, ◌%◌, ◌^◌, ◌≤◌, ◌<◌}
use native.Mathlib.Nat.{mod-lt, pow-suc, le_refl}
use native.Mathlib.Numerals.{add-one}
use native.Mathlib.Omega.{arith}
use native.Mathlib.Decide.{ℕ_discrete, dec_lt}
use borrow.Author.Tests.{eq-eqb, ne_eqb}
use lib.Arith.{digits_lt, digits_mod, digits_div}
use lib.Dec.{lit<}
use lib.Pow.{pow_pos, pow_mono, pow-add, shr_lt, shr-shr, split, high, low, field, mod-mod-pow}
use Rattle.window.specs.Bits.{bit, cleared, marked}

pub bit_lt : (w k : ℕ) → bit w k < 2
unfolding bit
bit_lt w k = mod-lt (w / 2 ^ k) (lit< tt)

-- ---- a digit is put at the place k

abbrev pub put : ℕ → ℕ → ℕ → ℕ
put w k b = (w / 2 ^ k / 2 * 2 + b) * 2 ^ k + w % 2 ^ k

-- the bits below k are those of the rest by 2 ^ k
bit_below : (v k d j : ℕ) → k ≡ d + 1 + j → bit (v % 2 ^ k) j ≡ bit v j
unfolding bit
bit_below v k d j e =
    ap (λ (x : ℕ). v % 2 ^ x / 2 ^ j % 2) e ∙ ap (λ (x : ℕ). x % 2) (field v (d + 1) j) ∙ mod-mod-pow (v / 2 ^ j) d 1

-- and those above it the bits of the quotient
bit_above : (v k d j : ℕ) → j ≡ k + 1 + d → bit v j ≡ bit (v / 2 ^ (k + 1)) d
unfolding bit
bit_above v k d j e = ap (λ (x : ℕ). v / 2 ^ x % 2) e ∙ ap (λ (x : ℕ). x % 2) (sym (shr-shr v (k + 1) d))

module _ (w k b : ℕ) (l : b < 2) where
  put_high : put w k b / 2 ^ k ≡ w / 2 ^ k / 2 * 2 + b
  put_high = high (w / 2 ^ k / 2 * 2 + b) k (mod-lt w (pow_pos k))

  pub put_above : put w k b / 2 ^ (k + 1) ≡ w / 2 ^ (k + 1)
  put_above =
      sym (shr-shr (put w k b) k 1) ∙ ap (λ (x : ℕ). x / 2) put_high ∙ digits_div (w / 2 ^ k / 2) l ∙ shr-shr w k 1

  pub put_below : put w k b % 2 ^ k ≡ w % 2 ^ k
  put_below = low (w / 2 ^ k / 2 * 2 + b) k (mod-lt w (pow_pos k))

  pub put_same : bit (put w k b) k ≡ b
  unfolding bit
  put_same = ap (λ (x : ℕ). x % 2) put_high ∙ digits_mod (w / 2 ^ k / 2) l

  pub put_other : (j : ℕ) → (j ≡ k → ⊥) → bit (put w k b) j ≡ bit w j
  put_other j ne = go (dec_lt j k)
    where
      go : Dec (j < k) → bit (put w k b) j ≡ bit w j
      go (yes p) =
          let e : k ≡ k - j - 1 + 1 + j = omega arith in
          sym (bit_below (put w k b) k (k - j - 1) j e) ∙ ap (λ (x : ℕ). bit x j) put_below ∙ bit_below w k (k - j - 1) j e
      go (no p) =
          let e : j ≡ k + 1 + (j - k - 1) = omega arith in
          bit_above (put w k b) k (j - k - 1) j e ∙ ap (λ (x : ℕ). bit x (j - k - 1)) put_above ∙ sym (bit_above w k (j - k - 1) j e)

-- ---- clearing and setting, by the machine's test

even : (h : ℕ) → h % 2 ≡ 0 → h ≡ h / 2 * 2 + 0
even h e = omega arith

odd : (h : ℕ) → (h % 2 ≡ 0 → ⊥) → h ≡ h / 2 * 2 + 1
odd h ne = omega arith

-- the word by its digit at k
put_own : (w k b : ℕ) → w / 2 ^ k ≡ w / 2 ^ k / 2 * 2 + b → w ≡ put w k b
put_own w k b e = sym (split w k) ∙ ap (λ (x : ℕ). x * 2 ^ k + w % 2 ^ k) e

-- p is the power that the code divides by
module _ (w k p : ℕ) (e : p ≡ 2 ^ k) where
  pub power_pos : 0 < p
  power_pos = rw e (pow_pos k)

  pub bit_by : w / p % 2 ≡ bit w k
  unfolding bit
  bit_by = rw e

  module _ (z : w / p % 2 ≡ 0) where
    pub unset_cleared : w ≡ cleared w k
    unfolding cleared
    unset_cleared = rw (← bit_by, eq-eqb (w / p % 2) 0 z)

    pub unset_marked : w + p ≡ marked w k
    unfolding marked
    unset_marked = rw (← bit_by, eq-eqb (w / p % 2) 0 z, e)

  module _ (s : w / p % 2 ≡ 0 → ⊥) where
    pub set_cleared : w - p ≡ cleared w k
    unfolding cleared
    set_cleared = rw (← bit_by, ne_eqb (w / p % 2) 0 s, e)

    pub set_marked : w ≡ marked w k
    unfolding marked
    set_marked = rw (← bit_by, ne_eqb (w / p % 2) 0 s)

-- ---- clearing and setting put a digit

take_one : (w q p r : ℕ) → w ≡ (q * 2 + 1) * p + r → w - p ≡ (q * 2 + 0) * p + r
take_one w q p r e = omega arith

add_one_to : (w q p r : ℕ) → w ≡ (q * 2 + 0) * p + r → w + p ≡ (q * 2 + 1) * p + r
add_one_to w q p r e = omega arith

module _ (w k : ℕ) where
  pub cleared_put : cleared w k ≡ put w k 0
  cleared_put = go (ℕ_discrete (w / 2 ^ k % 2) 0)
    where
      go : Dec (w / 2 ^ k % 2 ≡ 0) → cleared w k ≡ put w k 0
      go (yes z) = sym (unset_cleared w k (2 ^ k) refl z) ∙ put_own w k 0 (even (w / 2 ^ k) z)
      go (no s) =
          sym (set_cleared w k (2 ^ k) refl s)
          ∙ take_one w (w / 2 ^ k / 2) (2 ^ k) (w % 2 ^ k) (put_own w k 1 (odd (w / 2 ^ k) s))

  pub marked_put : marked w k ≡ put w k 1
  marked_put = go (ℕ_discrete (w / 2 ^ k % 2) 0)
    where
      go : Dec (w / 2 ^ k % 2 ≡ 0) → marked w k ≡ put w k 1
      go (yes z) =
          sym (unset_marked w k (2 ^ k) refl z)
          ∙ add_one_to w (w / 2 ^ k / 2) (2 ^ k) (w % 2 ^ k) (put_own w k 0 (even (w / 2 ^ k) z))
      go (no s) = sym (set_marked w k (2 ^ k) refl s) ∙ put_own w k 1 (odd (w / 2 ^ k) s)

-- ---- a word with its bit k set that keeps no bits below k but those below o

abbrev pub over : ℕ → ℕ → ℕ → ℕ
over w o k = (w / 2 ^ k / 2 * 2 + 1) * 2 ^ k + w % 2 ^ o

module _ (w o k : ℕ) (l : o ≤ k) where
  pub rest_below : w % 2 ^ o < 2 ^ k
  rest_below = omega (arith, mod-lt w (pow_pos o), pow_mono l)

  pub over_lt : k < 64 → w < 2 ^ 64 → over w o k < 2 ^ 64
  over_lt h f =
      let back : 63 - k + 1 + k ≡ 64 = omega arith in
      let two : 2 ^ (63 - k + 1) ≡ 2 ^ (63 - k) * 2 = ap (λ (x : ℕ). 2 ^ x) (add-one (63 - k)) ∙ pow-suc 2 (63 - k) in
      let top : w / 2 ^ k < 2 ^ (63 - k) * 2 =
      rw two at (shr_lt (63 - k + 1) k (subst (λ (x : ℕ). w < 2 ^ x) (sym back) f)) in
      subst (λ (x : ℕ). over w o k < 2 ^ x) back
      (rw (pow-add 2 (63 - k + 1) k, two) (digits_lt (odd_lt (w / 2 ^ k) (2 ^ (63 - k)) top) rest_below))
    where
      odd_lt : (h p : ℕ) → h < p * 2 → h / 2 * 2 + 1 < p * 2
      odd_lt h p a = omega arith

-- each step of the code's sum fits a word
pub record Room (w p q : ℕ) : Type 0 where
  pub even : w / p / 2 * 2 < 2 ^ 64
  pub odd : w / p / 2 * 2 + 1 < 2 ^ 64
  pub high : (w / p / 2 * 2 + 1) * p < 2 ^ 64
  pub all : (w / p / 2 * 2 + 1) * p + w % q < 2 ^ 64

pub over_fits : (w o k p q : ℕ) → p ≡ 2 ^ k → q ≡ 2 ^ o → o ≤ k → k < 64 → w < 2 ^ 64 → Room w p q
over_fits w o k p q ep eq l h f =
    let whole : (w / p / 2 * 2 + 1) * p + w % q < 2 ^ 64 = rw (ep, eq) (over_lt w o k l h f) in
    let times : w / p / 2 * 2 + 1 ≤ (w / p / 2 * 2 + 1) * p = le_times (w / p / 2 * 2 + 1) p (power_pos w k p ep) in
    record { even = omega arith; odd = omega arith; high = omega arith; all = whole }
  where
    le_times : (x y : ℕ) → 0 < y → x ≤ x * y
    le_times x zero g = elim g [ ]
    le_times x (suc y) g = omega arith

-- before what is below o is known
pub over_alone : (w k p : ℕ) → p ≡ 2 ^ k → k < 64 → w < 2 ^ 64 → Room w p p
over_alone w k p e l h = over_fits w k k p p e e (le_refl k) l h
