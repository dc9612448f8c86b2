-- How many of the minutes before a minute are absent: the count by its parts, and that what `missed` computes is it. Outside of
-- what the window reaches every minute is absent; within, absent minutes and bits that are set make up all. Assumes nothing.
use mathlib.Core.Path.{◌≡◌, refl, sym, ap, ap₂, ◌∙◌}
use mathlib.Core.Bool.{Bool, true, false, ◌&&◌, cond}
use mathlib.Core.List.{List}
use Prim.Native.Nat.{ℕ, zero, suc, ◌+◌, ◌-◌, ◌%◌, ◌≤◌, ◌<◌, min, max}
use native.Mathlib.Nat.{suc-add, zero-add, add-zero}
use native.Mathlib.Omega.{arith}
use native.Mathlib.Decide.{ℕ_discrete, dec_le, dec_lt}
use borrow.Author.Tests.{le-leb, lt-leb}
use lib.Dec.{leb}
use lib.ListN.{get_or, length}
use Rattle.window.specs.Layout.{MINUTES, WINDOW, word_of}
use Rattle.window.specs.Bits.{total}
use Rattle.window.specs.Window.{next, bit_of, present, absents}
use Rattle.window.proofs.BitLaws.{bit_lt}
use Rattle.window.proofs.PresentLaws.{and_no, present_else, present_late, present_gone, present_unset, present_set}

-- 1 for an absent minute, 0 for a present one
abbrev one : (ℕ → Bool) → ℕ → ℕ → ℕ
one p m k = cond (leb k m && p (m - k)) 0 1

one_le : (b : Bool) → cond b 0 1 ≤ 1
one_le true = omega arith
one_le false = omega arith

pub absents_le : (p : ℕ → Bool) (m n : ℕ) → absents p m n ≤ n
unfolding absents
absents_le p m zero = omega arith
absents_le p m (suc n) = omega (arith, one_le (leb (suc n) m && p (m - suc n)), absents_le p m n)

one_alike : (p q : ℕ → Bool) (m k : ℕ) → (k ≤ m → p (m - k) ≡ q (m - k)) → one p m k ≡ one q m k
one_alike p q m k same = go (dec_le k m)
  where
    go : Dec (k ≤ m) → one p m k ≡ one q m k
    go (yes l) = rw (le-leb k m l, same l)
    go (no l) = rw (lt-leb k m (omega arith))

pub absents_alike : (p q : ℕ → Bool) (m n : ℕ) → ((j : ℕ) → j < m → m ≤ j + n → p j ≡ q j) → absents p m n ≡ absents q m n
unfolding absents
absents_alike p q m zero same = refl
absents_alike p q m (suc n) same =
    ap₂ (λ (x y : ℕ). x + y)
    (one_alike p q m (suc n) (λ l. same (m - suc n) (omega arith) (omega arith)))
    (absents_alike p q m n (λ j a b. same j a (omega arith)))

-- ---- the count by its parts

one_absent : (p : ℕ → Bool) (m k : ℕ) → (k ≤ m → p (m - k) ≡ false) → one p m k ≡ 1
one_absent p m k out = one_alike p (λ j. false) m k out ∙ ap (λ (b : Bool). cond b 0 1) (and_no (leb k m))

-- n minutes more that are absent
absents_more : (p : ℕ → Bool) (m c n : ℕ) → ((j : ℕ) → j + c < m → m ≤ j + (n + c) → p j ≡ false)
    → absents p m (n + c) ≡ n + absents p m c
unfolding absents
absents_more p m c zero out = ap (absents p m) (zero-add c) ∙ sym (zero-add (absents p m c))
absents_more p m c (suc n) out =
    let here : one p m (suc (n + c)) ≡ 1 =
    one_absent p m (suc (n + c)) (λ l. out (m - suc (n + c)) (omega arith) (omega arith)) in
    let rest : absents p m (n + c) ≡ n + absents p m c = absents_more p m c n (λ j a b. out j a (omega arith)) in
    rw (suc-add n c) (omega arith)

pub absents_all : (p : ℕ → Bool) (m n : ℕ) → ((j : ℕ) → j < m → m ≤ j + n → p j ≡ false) → absents p m n ≡ n
unfolding absents
absents_all p m n out =
    ap (absents p m) (sym (add-zero n)) ∙ absents_more p m 0 n (λ j a b. out j (omega arith) (omega arith)) ∙ add-zero n

-- n minutes more, from a on, of which each is absent where f is 0
absents_by : (p : ℕ → Bool) (f : ℕ → ℕ) (m c n a : ℕ) → a + n + c ≡ m
    → ((j : ℕ) → a ≤ j → j < a + n → cond (p j) 0 1 + f j ≡ 1) → absents p m (n + c) + total f a n ≡ n + absents p m c
unfolding absents total
absents_by p f m c zero a e each = ap (λ (x : ℕ). absents p m x + 0) (zero-add c) ∙ omega arith
absents_by p f m c (suc n) a e each =
    let back : m - suc (n + c) ≡ a = omega arith in
    let here : one p m (suc (n + c)) + f a ≡ 1 =
    rw (le-leb (suc (n + c)) m (omega arith), back) (each a (omega arith) (omega arith)) in
    let rest : absents p m (n + c) + total f (suc a) n ≡ n + absents p m c =
    absents_by p f m c n (suc a) (omega arith) (λ j x y. each j (omega arith) (omega arith)) in
    rw (suc-add n c) (omega arith)

-- n minutes before m: e that are absent, d from lo on as f says, and c that are absent
absents_parts : (p : ℕ → Bool) (f : ℕ → ℕ) (m n lo d c e : ℕ) → m ≡ lo + d + c → n ≡ e + (d + c)
    → ((j : ℕ) → j < lo → m ≤ j + n → p j ≡ false)
    → ((j : ℕ) → lo ≤ j → j < lo + d → cond (p j) 0 1 + f j ≡ 1)
    → ((j : ℕ) → lo + d ≤ j → j < m → p j ≡ false)
    → absents p m n + total f lo d ≡ n
absents_parts p f m n lo d c e em en below each above =
    let first : absents p m n ≡ e + absents p m (d + c) =
    ap (absents p m) en ∙ absents_more p m (d + c) e (λ j a b. below j (omega arith) (omega arith)) in
    let within : absents p m (d + c) + total f lo d ≡ d + absents p m c = absents_by p f m c d lo (sym em) each in
    let last : absents p m c ≡ c = absents_all p m c (λ j a b. above j (omega arith) a) in
    omega arith

-- ---- what `missed` computes

module _ (lo hi m n : ℕ) (l : lo < hi) (h : hi ≤ m) (b : m ≤ lo + n) where
  to_hi : lo + (hi - lo) ≡ hi
  to_hi = omega arith

  to_m : m ≡ lo + (hi - lo) + (m - hi)
  to_m = omega arith

  to_n : n ≡ (lo + n - m) + ((hi - lo) + (m - hi))
  to_n = omega arith

gone : (lo m n t j : ℕ) → lo ≡ max (m - n) (t - MINUTES) → j < lo → m ≤ j + n → t ≤ j + MINUTES → ⊥
gone lo m n t j e p q r = omega arith

late : (hi m t j : ℕ) → hi ≡ min m t → hi ≤ j → j < m → j < t → ⊥
late hi m t j e p q r = omega arith

module _ (w : List ℕ) (m n : ℕ) where
  pub missed_else : (length w ≡ WINDOW → ⊥) → n ≡ absents (present w) m n
  missed_else ne = sym (absents_all (present w) m n (λ j a b. present_else w j ne))

  -- a minute that the window does not reach
  unreached : (j : ℕ) → (j < next w → next w ≤ j + MINUTES → ⊥) → present w j ≡ false
  unreached j out = go (dec_lt j (next w)) (dec_le (next w) (j + MINUTES))
    where
      go : Dec (j < next w) → Dec (next w ≤ j + MINUTES) → present w j ≡ false
      go (yes l) (yes g) = absurd (out l g)
      go (yes l) (no g) = present_gone w j (omega arith)
      go (no l) g = present_late w j (omega arith)

  -- and within its reach the bit says what the minute is
  by_bit : (j : ℕ) → length w ≡ WINDOW → j < next w → next w ≤ j + MINUTES → cond (present w j) 0 1 + bit_of w j ≡ 1
  by_bit j e l g = go (ℕ_discrete (bit_of w j) 0)
    where
      go : Dec (bit_of w j ≡ 0) → cond (present w j) 0 1 + bit_of w j ≡ 1
      go (yes z) = rw (present_unset w j e l g z) (omega arith)
      go (no s) = rw (present_set w j e l g s) (omega (arith, bit_lt (get_or w (word_of j) 0) (j % 64)))

  module _ (lo hi : ℕ) (el : lo ≡ max (m - n) (next w - MINUTES)) (eh : hi ≡ min m (next w)) where
    pub missed_apart : hi ≤ lo → n ≡ absents (present w) m n
    missed_apart l = sym (absents_all (present w) m n (λ j a b. unreached j (λ p q. omega arith)))

    pub missed_some : length w ≡ WINDOW → lo < hi → (r : ℕ) → r ≡ total (bit_of w) lo (hi - lo) → n - r ≡ absents (present w) m n
    missed_some e l r er = rest r (absents (present w) m n) (ap (λ (x : ℕ). absents (present w) m n + x) er ∙ all)
      where
        h : hi ≤ m
        h = omega arith

        b : m ≤ lo + n
        b = omega arith

        all : absents (present w) m n + total (bit_of w) lo (hi - lo) ≡ n
        all =
            absents_parts (present w) (bit_of w) m n lo (hi - lo) (m - hi) (lo + n - m) (to_m lo hi m n l h b) (to_n lo hi m n l h b)
            (λ j p q. unreached j (λ x y. gone lo m n (next w) j el p q y))
            (λ j p q. let q' : j < hi = rw (to_hi lo hi m n l h b) at q in by_bit j e (omega arith) (omega arith))
            (λ j p q. unreached j (λ x y. late hi m (next w) j eh (rw (to_hi lo hi m n l h b) at p) q x))

        rest : (r x : ℕ) → x + r ≡ n → n - r ≡ x
        rest r x s = omega arith
