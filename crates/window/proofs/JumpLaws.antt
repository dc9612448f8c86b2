-- What jumping over minutes leaves: where as many are wiped as the window has, all its bits are cleared, from whatever minute on, and
-- whether the minute that is heard was among them does not matter. Assumes nothing.
use mathlib.Core.Path.{◌≡◌, refl, sym, ap, ap₂, ◌∙◌, subst}
use mathlib.Core.List.{List}
use Prim.Native.Nat.{ℕ, zero, suc, ◌+◌, ◌-◌, ◌*◌, ◌/◌, ◌%◌, ◌^◌, ◌≤◌, ◌<◌, min, max}
use native.Mathlib.Nat.{mod-lt}
use native.Mathlib.Omega.{arith}
use native.Mathlib.Decide.{ℕ_discrete, dec_lt}
use lib.Arith.{lt-one}
use lib.Pow.{pow_pos, shr_lt, shr-shr, split}
use lib.ListN.{get_or, set, length}
use lib.Seq.{ext_get_or}
use Rattle.window.specs.Layout.{MINUTES, CELLS, WINDOW, word_of}
use Rattle.window.specs.Bits.{bit, cleared, marked}
use Rattle.window.specs.Window.{clear, mark, wiped}
use Rattle.window.proofs.BitLaws.{put, put_above, put_below, cleared_put, marked_put, unset_cleared, set_cleared}
use Rattle.window.proofs.WordLaws.{Aside, clear_turns, wiped_long, wiped_rest, wiped_in, wiped_none}
use Rattle.window.proofs.StretchLaws.{wiped_on, wiped_last, cleared_there, other_word, set_there}
use Rattle.window.proofs.WipeLaws.{Fits}

-- a minute is heard, whether it was marked absent before or not
mark_clear : (w : List ℕ) (m : ℕ) → length w ≡ WINDOW → mark (clear w m) m ≡ mark w m
unfolding mark
mark_clear w m e =
    ap (λ (x : ℕ). set (clear w m) (word_of m) (marked x (m % 64))) (cleared_there w m e)
    ∙ set_there w m e (marked (cleared x (m % 64)) (m % 64))
    ∙ ap (set w (word_of m)) (again x (m % 64))
  where
    x : ℕ
    x = get_or w (word_of m) 0

    again : (v k : ℕ) → marked (cleared v k) k ≡ marked v k
    again v k =
        ap (λ (y : ℕ). marked y k) (cleared_put v k)
        ∙ marked_put (put v k 0) k
        ∙ ap₂ (λ (a b : ℕ). (a * 2 + 1) * 2 ^ k + b)
        (shr-shr (put v k 0) k 1 ∙ put_above v k 0 (omega arith) ∙ sym (shr-shr v k 1))
        (put_below v k 0 (omega arith))
        ∙ sym (marked_put v k)

-- ---- as many minutes as the window has

zero_word : (n x : ℕ) → x < 2 ^ n → ((k : ℕ) → k < n → bit x k ≡ 0) → x ≡ 0
unfolding bit
zero_word zero x l z = lt-one l
zero_word (suc n) x l z = zero_word n x less (λ k p. z k (omega arith))
  where
    top : x / 2 ^ n < 2
    top = shr_lt 1 n (subst (λ (y : ℕ). x < 2 ^ y) (omega arith) l)

    even : x / 2 ^ n % 2 ≡ 0
    even = z n (omega arith)

    none : x / 2 ^ n ≡ 0
    none = omega (arith, top, even)

    own : x ≡ x % 2 ^ n
    own = sym (split x n) ∙ ap (λ (y : ℕ). y * 2 ^ n + x % 2 ^ n) none ∙ omega arith

    less : x < 2 ^ n
    less = omega (arith, own, mod-lt x (pow_pos n))

cleared_le : (w k : ℕ) → cleared w k ≤ w
cleared_le w k = go (ℕ_discrete (w / 2 ^ k % 2) 0)
  where
    go : Dec (w / 2 ^ k % 2 ≡ 0) → cleared w k ≤ w
    go (yes z) = omega (arith, unset_cleared w k (2 ^ k) refl z)
    go (no s) = omega (arith, set_cleared w k (2 ^ k) refl s)

clear_fits : (w : List ℕ) (m : ℕ) → length w ≡ WINDOW → Fits w → Fits (clear w m)
clear_fits w m e f i = go (ℕ_discrete i (word_of m))
  where
    go : Dec (i ≡ word_of m) → get_or (clear w m) i 0 < 2 ^ 64
    go (yes p) =
        rw p (omega (arith, cleared_there w m e, cleared_le (get_or w (word_of m) 0) (m % 64), f (word_of m)))
    go (no p) = rw (other_word w m e i p) (f i)

wiped_fits : (n : ℕ) (w : List ℕ) (m : ℕ) → length w ≡ WINDOW → Fits w → Fits (wiped w m n)
unfolding wiped
wiped_fits zero w m e f = f
wiped_fits (suc n) w m e f = wiped_fits n (clear w m) (m + 1) ((clear_turns w m e).long ∙ e) (clear_fits w m e f)

module _ (w : List ℕ) (e : length w ≡ WINDOW) (f : Fits w) where
  -- no bit is left, from whatever minute on
  none_left : (a i : ℕ) → 0 < i → i < CELLS → get_or (wiped w a MINUTES) i 0 ≡ 0
  none_left a i p q =
      zero_word 64 (get_or (wiped w a MINUTES) i 0) (wiped_fits MINUTES w a e f i)
      (λ k l.
      sym (ap₂ (λ (x y : ℕ). bit (get_or (wiped w a MINUTES) x 0) y) (word k l) (place k l))
      ∙ wiped_in MINUTES w a (minute k) e (omega arith) (omega arith))
    where
      -- the minute of the bit k, among those wiped
      minute : ℕ → ℕ
      minute k = a + (64 * (i - 1) + k + (MINUTES - a % MINUTES)) % MINUTES

      word : (k : ℕ) → k < 64 → word_of (minute k) ≡ i
      word k l = omega arith

      place : (k : ℕ) → k < 64 → minute k % 64 ≡ k
      place k l = omega arith

  wiped_all : (a b : ℕ) → wiped w a MINUTES ≡ wiped w b MINUTES
  wiped_all a b =
      ext_get_or 0 (wiped w a MINUTES) (wiped w b MINUTES) (wiped_long MINUTES w a e ∙ sym (wiped_long MINUTES w b e))
      (λ i l. go i (dec_lt 0 i) (dec_lt i CELLS))
    where
      aside : (i : ℕ) → (0 < i → i < CELLS → ⊥) → get_or (wiped w a MINUTES) i 0 ≡ get_or (wiped w b MINUTES) i 0
      aside i out =
          let no : Aside i = λ j q. out (omega arith) (omega arith) in
          wiped_rest MINUTES w a i e no ∙ sym (wiped_rest MINUTES w b i e no)

      go : (i : ℕ) → Dec (0 < i) → Dec (i < CELLS) → get_or (wiped w a MINUTES) i 0 ≡ get_or (wiped w b MINUTES) i 0
      go i (yes p) (yes q) = none_left a i p q ∙ sym (none_left b i p q)
      go i (no p) d = aside i (λ x y. p x)
      go i (yes p) (no q) = aside i (λ x y. q y)

-- ---- what a minute leaves that is heard behind them

-- a minute is heard, and the n before it are absent
abbrev pub heard_after : List ℕ → ℕ → ℕ → List ℕ
heard_after w m n = mark (wiped w (m - n) n) m

module _ (w : List ℕ) (t m : ℕ) (l : t ≤ m) where
  jumped_some : m - t < MINUTES → mark (wiped w t (m - t)) m ≡ heard_after w m (min (m - t) MINUTES)
  jumped_some h = ap₂ (λ (x n : ℕ). mark (wiped w x n) m) (omega arith) (omega arith)

  -- those before `start`, if any, and then those from there on
  pub jumped_on : (start : ℕ) → start ≤ m → m - t < MINUTES
      → mark (wiped (wiped w t (start - t)) (max t start) (m - max t start)) m ≡ heard_after w m (min (m - t) MINUTES)
  jumped_on start q h = go (dec_lt start t)
    where
      go : Dec (start < t) → mark (wiped (wiped w t (start - t)) (max t start) (m - max t start)) m ≡ heard_after w m (min (m - t) MINUTES)
      go (yes p) =
          let from : max t start ≡ t = omega arith in
          ap₂ (λ (x : List ℕ) (f : ℕ). mark (wiped x f (m - f)) m) (wiped_none w t start (omega arith)) from ∙ jumped_some h
      go (no p) =
          let from : max t start ≡ start = omega arith in
          ap (λ (f : ℕ). mark (wiped (wiped w t (start - t)) f (m - f)) m) from
          ∙ ap (λ (x : List ℕ). mark x m) (sym (wiped_on w t start m (omega arith) q))
          ∙ jumped_some h

  pub jumped_all : length w ≡ WINDOW → Fits w → MINUTES ≤ m - t + 1 → mark (wiped w 0 MINUTES) m ≡ heard_after w m (min (m - t) MINUTES)
  jumped_all e f h = go (ℕ_discrete (m - t + 1) MINUTES)
    where
      behind : (n : ℕ) → n + 1 ≡ MINUTES → m - n + n ≡ m → mark (wiped w 0 MINUTES) m ≡ heard_after w m n
      behind n s b =
          ap (λ (x : List ℕ). mark x m)
          (wiped_all w e f 0 (m - n)
          ∙ ap (wiped w (m - n)) (sym s)
          ∙ wiped_last w (m - n) n
          ∙ ap (clear (wiped w (m - n) n)) b)
          ∙ mark_clear (wiped w (m - n) n) m (wiped_long n w (m - n) e ∙ e)

      go : Dec (m - t + 1 ≡ MINUTES) → mark (wiped w 0 MINUTES) m ≡ heard_after w m (min (m - t) MINUTES)
      go (yes s) = behind (m - t) s (omega arith) ∙ ap (heard_after w m) (omega arith)
      go (no s) = ap (λ (x : List ℕ). mark x m) (wiped_all w e f 0 (m - MINUTES)) ∙ ap (heard_after w m) (omega arith)
