-- Sums of bits: the ones of a masked word are the sum of the bits that the mask leaves, and a window's sum is made of such runs.
-- Assumes nothing.
use mathlib.Core.Path.{◌≡◌, refl, sym, ap, ap₂, ◌∙◌}
use mathlib.Core.List.{List}
use Prim.Native.Nat.{ℕ, zero, suc, ◌+◌, ◌-◌, ◌/◌, ◌%◌, ◌^◌, ◌≤◌, ◌<◌}
use native.Mathlib.Nat.{mod-lt, zero-lt-suc, suc-add, add_assoc, add-zero, zero-add}
use native.Mathlib.Numerals.{add-one}
use native.Mathlib.Omega.{arith}
use lib.Arith.{lt-one, le-zero}
use lib.Pow.{pow_pos, shr-shr, high, field, mod-mod-pow, ones_split, ones_lt}
use lib.Bits.{bit_and, and_mask}
use lib.Count.{ones, ones_step}
use lib.ListN.{get_or}
use Rattle.window.specs.Layout.{word_of}
use Rattle.window.specs.Bits.{bit, total}
use Rattle.window.specs.Window.{bit_of}

-- ---- the ones of a word

ones_none : ones 0 ≡ 0
unfolding ones
ones_none = refl

lowest : (n w a : ℕ) → w / 2 ^ a % 2 ^ suc n % 2 ≡ bit w a
unfolding bit
lowest n w a = ap (λ (x : ℕ). w / 2 ^ a % 2 ^ x % 2) (sym (add-one n)) ∙ mod-mod-pow (w / 2 ^ a) n 1

rest : (n w a : ℕ) → w / 2 ^ a % 2 ^ suc n / 2 ≡ w / 2 ^ suc a % 2 ^ n
rest n w a =
    ap (λ (x : ℕ). w / 2 ^ a % 2 ^ x / 2) (sym (add-one n))
    ∙ field (w / 2 ^ a) n 1
    ∙ ap (λ (x : ℕ). x % 2 ^ n) (shr-shr w a 1)
    ∙ ap (λ (x : ℕ). w / 2 ^ x % 2 ^ n) (add-one a)

-- the ones among the n digits from a on are the sum of those bits
ones_field : (n w a : ℕ) → ones (w / 2 ^ a % 2 ^ n) ≡ total (bit w) a n
unfolding total
ones_field zero w a = ap ones (lt-one (mod-lt (w / 2 ^ a) (pow_pos 0))) ∙ ones_none
ones_field (suc n) w a =
    ones_step (w / 2 ^ a % 2 ^ suc n)
    ∙ ap₂ (λ (x y : ℕ). x + ones y) (lowest n w a) (rest n w a)
    ∙ ap (λ (y : ℕ). bit w a + y) (ones_field n w (suc a))

-- `(w >> a) & (!0 >> (64 - n))`, counted
pub ones_masked : (w a n : ℕ) → n ≤ 64 → ones (bit_and (w / 2 ^ a) ((2 ^ 64 - 1) / 2 ^ (64 - n))) ≡ total (bit w) a n
ones_masked w a n h =
    ap (λ (x : ℕ). ones (bit_and (w / 2 ^ a) x)) mask ∙ ap ones (and_mask (w / 2 ^ a) n) ∙ ones_field n w a
  where
    back : n + (64 - n) ≡ 64
    back = omega arith

    mask : (2 ^ 64 - 1) / 2 ^ (64 - n) ≡ 2 ^ n - 1
    mask =
        ap (λ (x : ℕ). (2 ^ x - 1) / 2 ^ (64 - n)) (sym back)
        ∙ ap (λ (x : ℕ). x / 2 ^ (64 - n)) (ones_split n (64 - n))
        ∙ high (2 ^ n - 1) (64 - n) (ones_lt (64 - n))

-- ---- sums

moved : (a n : ℕ) → suc a + n ≡ a + suc n
moved a n = omega arith

total_add : (f : ℕ → ℕ) (a n m : ℕ) → total f a (n + m) ≡ total f a n + total f (a + n) m
unfolding total
total_add f a zero m =
    ap₂ (λ (x y : ℕ). total f x y) (sym (add-zero a)) (zero-add m) ∙ sym (zero-add (total f (a + 0) m))
total_add f a (suc n) m =
    ap (total f a) (suc-add n m)
    ∙ ap (λ (x : ℕ). f a + x) (total_add f (suc a) n m)
    ∙ ap (λ (x : ℕ). f a + (total f (suc a) n + total f x m)) (moved a n)
    ∙ sym (add_assoc (f a) (total f (suc a) n) (total f (a + suc n) m))

total_alike : (f g : ℕ → ℕ) (n a b : ℕ) → ((k : ℕ) → k < n → f (a + k) ≡ g (b + k)) → total f a n ≡ total g b n
unfolding total
total_alike f g zero a b h = refl
total_alike f g (suc n) a b h =
    ap₂ (λ (x y : ℕ). x + y)
    (ap f (sym (add-zero a)) ∙ h 0 (zero-lt-suc n) ∙ ap g (add-zero b))
    (total_alike f g n (suc a) (suc b) (λ k l. ap f (moved a k) ∙ h (suc k) (omega arith) ∙ ap g (sym (moved b k))))

pub total_le : (f : ℕ → ℕ) (n a : ℕ) → ((k : ℕ) → f k < 2) → total f a n ≤ n
unfolding total
total_le f zero a h = omega arith
total_le f (suc n) a h = omega (arith, h a, total_le f n (suc a) h)

pub total_none : (f : ℕ → ℕ) (a n : ℕ) → n ≤ 0 → total f a n ≡ 0
unfolding total
total_none f a n h = ap (total f a) (le-zero h)

-- ---- in a window

-- minutes that share a word
pub total_word : (w : List ℕ) (at n : ℕ) → at % 64 + n ≤ 64
    → total (bit (get_or w (word_of at) 0)) (at % 64) n ≡ total (bit_of w) at n
total_word w at n l =
    total_alike (bit (get_or w (word_of at) 0)) (bit_of w) n (at % 64) at
    (λ k lt. ap₂ (λ (x y : ℕ). bit (get_or w x 0) y) (word k lt) (place k lt))
  where
    word : (k : ℕ) → k < n → word_of at ≡ word_of (at + k)
    word k lt = omega arith

    place : (k : ℕ) → k < n → at % 64 + k ≡ (at + k) % 64
    place k lt = omega arith

-- a turn of the count, n minutes on
pub total_on : (f : ℕ → ℕ) (from at n sum r : ℕ) → from ≤ at → sum ≡ total f from (at - from) → r ≡ total f at n
    → sum + r ≡ total f from (at + n - from)
total_on f from at n sum r l e h =
    let there : from + (at - from) ≡ at = omega arith in
    let on : at + n - from ≡ at - from + n = omega arith in
    let s : total f from (at + n - from) ≡ total f from (at - from) + total f at n =
    ap (total f from) on ∙ total_add f from (at - from) n ∙ ap (λ (x : ℕ). total f from (at - from) + total f x n) there in
    omega arith
