-- Minutes in a row marked absent: those that share a word have their bits cleared at once, and what is wiped in two steps is wiped.
-- Assumes nothing.
use mathlib.Core.Path.{◌≡◌, sym, ap, ap₂, ◌∙◌}
use mathlib.Core.List.{List}
use Prim.Native.Nat.{ℕ, zero, suc, ◌+◌, ◌-◌, ◌*◌, ◌/◌, ◌%◌, ◌^◌, ◌≤◌, ◌<◌}
use native.Mathlib.Nat.{add-zero, zero-add, suc-add}
use native.Mathlib.Omega.{arith}
use lib.Pow.{shr-shr, split, mod-pow-add}
use lib.ListN.{get_or, set, length}
use lib.Seq.{get_or-set_same, get_or-set_other, set-get_or, set-set}
use Rattle.window.specs.Layout.{WINDOW, word_of}
use Rattle.window.specs.Bits.{bit, cleared}
use Rattle.window.specs.Window.{clear, wiped}
use Rattle.window.proofs.BitLaws.{put, put_same, put_above, put_below, cleared_put}
use Rattle.window.proofs.WordLaws.{clear_turns}

-- ---- in a word

-- the bits from o up to e cleared
abbrev pub without : ℕ → ℕ → ℕ → ℕ
without w o e = w / 2 ^ e * 2 ^ e + w % 2 ^ o

without_none : (w o : ℕ) → without w o o ≡ w
without_none w o = split w o

module _ (w o : ℕ) where
  -- the lowest of them first
  above : (d : ℕ) → cleared w o / 2 ^ (o + 1 + d) ≡ w / 2 ^ (o + 1 + d)
  above d =
      ap (λ (x : ℕ). x / 2 ^ (o + 1 + d)) (cleared_put w o)
      ∙ sym (shr-shr (put w o 0) (o + 1) d)
      ∙ ap (λ (x : ℕ). x / 2 ^ d) (put_above w o 0 (omega arith))
      ∙ shr-shr w (o + 1) d

  below : cleared w o % 2 ^ (o + 1) ≡ w % 2 ^ o
  unfolding bit
  below =
      ap₂ (λ (x y : ℕ). x % 2 ^ y) (cleared_put w o) (omega arith)
      ∙ mod-pow-add (put w o 0) 1 o
      ∙ ap₂ (λ (x y : ℕ). x * 2 ^ o + y) (put_same w o 0 (omega arith)) (put_below w o 0 (omega arith))
      ∙ omega arith

  without_first : (e : ℕ) → o < e → without (cleared w o) (o + 1) e ≡ without w o e
  without_first e l =
      let there : o + 1 + (e - o - 1) ≡ e = omega arith in
      ap₂ (λ (x y : ℕ). x * 2 ^ e + y)
      (ap (λ (x : ℕ). cleared w o / 2 ^ x) (sym there) ∙ above (e - o - 1) ∙ ap (λ (x : ℕ). w / 2 ^ x) there)
      below

-- ---- minutes that share a word

module _ (w : List ℕ) (m : ℕ) (e : length w ≡ WINDOW) where
  pub cleared_there : get_or (clear w m) (word_of m) 0 ≡ cleared (get_or w (word_of m) 0) (m % 64)
  unfolding clear
  cleared_there = get_or-set_same w (word_of m) (cleared (get_or w (word_of m) 0) (m % 64)) 0 (omega arith)

  pub other_word : (i : ℕ) → (i ≡ word_of m → ⊥) → get_or (clear w m) i 0 ≡ get_or w i 0
  unfolding clear
  other_word i p = get_or-set_other w (word_of m) i (cleared (get_or w (word_of m) 0) (m % 64)) 0 p

  pub set_there : (x : ℕ) → set (clear w m) (word_of m) x ≡ set w (word_of m) x
  unfolding clear
  set_there x = set-set w (word_of m) (cleared (get_or w (word_of m) 0) (m % 64)) x

pub wiped_word : (n : ℕ) (w : List ℕ) (m : ℕ) → length w ≡ WINDOW → m % 64 + n ≤ 64
    → wiped w m n ≡ set w (word_of m) (without (get_or w (word_of m) 0) (m % 64) (m % 64 + n))
unfolding wiped
wiped_word zero w m e l =
    sym (
    ap (set w (word_of m))
    (ap (without (get_or w (word_of m) 0) (m % 64)) (add-zero (m % 64)) ∙ without_none (get_or w (word_of m) 0) (m % 64))
    ∙ set-get_or w (word_of m) 0
    )
wiped_word (suc zero) w m e l =
    sym (set-get_or (clear w m) (word_of m) 0)
    ∙ ap (set (clear w m) (word_of m)) (cleared_there w m e ∙ sym one)
    ∙ set_there w m e (without (get_or w (word_of m) 0) (m % 64) (m % 64 + 1))
  where
    x : ℕ
    x = get_or w (word_of m) 0

    one : without x (m % 64) (m % 64 + 1) ≡ cleared x (m % 64)
    one = sym (without_first x (m % 64) (m % 64 + 1) (omega arith)) ∙ without_none (cleared x (m % 64)) (m % 64 + 1)
wiped_word (suc (suc n)) w m e l =
    wiped_word (suc n) (clear w m) (m + 1) ((clear_turns w m e).long ∙ e) (omega arith)
    ∙ ap₂ (λ (i o : ℕ). set (clear w m) i (without (get_or (clear w m) i 0) o (o + suc n))) word place
    ∙ ap (set (clear w m) (word_of m)) (
    ap (λ (y : ℕ). without y (m % 64 + 1) (m % 64 + 1 + suc n)) (cleared_there w m e)
    ∙ ap (without (cleared x (m % 64)) (m % 64 + 1)) more
    ∙ without_first x (m % 64) (m % 64 + suc (suc n)) (omega arith)
    )
    ∙ set_there w m e (without x (m % 64) (m % 64 + suc (suc n)))
  where
    x : ℕ
    x = get_or w (word_of m) 0

    word : word_of (m + 1) ≡ word_of m
    word = omega arith

    place : (m + 1) % 64 ≡ m % 64 + 1
    place = omega arith

    more : m % 64 + 1 + suc n ≡ m % 64 + suc (suc n)
    more = omega arith

-- ---- in steps

wiped_add : (a b : ℕ) (w : List ℕ) (m : ℕ) → wiped w m (a + b) ≡ wiped (wiped w m a) (m + a) b
unfolding wiped
wiped_add zero b w m = ap₂ (wiped w) (sym (add-zero m)) (zero-add b)
wiped_add (suc a) b w m =
    ap (wiped w m) (suc-add a b)
    ∙ wiped_add a b (clear w m) (m + 1)
    ∙ ap (λ (x : ℕ). wiped (wiped (clear w m) (m + 1) a) x b) on
  where
    on : m + 1 + a ≡ m + suc a
    on = omega arith

pub wiped_on : (w : List ℕ) (at mid to : ℕ) → at ≤ mid → mid ≤ to
    → wiped w at (to - at) ≡ wiped (wiped w at (mid - at)) mid (to - mid)
wiped_on w at mid to p q =
    ap (wiped w at) all ∙ wiped_add (mid - at) (to - mid) w at ∙ ap (λ (x : ℕ). wiped (wiped w at (mid - at)) x (to - mid)) there
  where
    all : to - at ≡ mid - at + (to - mid)
    all = omega arith

    there : at + (mid - at) ≡ mid
    there = omega arith

pub wiped_last : (w : List ℕ) (m n : ℕ) → wiped w m (n + 1) ≡ clear (wiped w m n) (m + n)
unfolding wiped
wiped_last w m n = wiped_add n 1 w m
