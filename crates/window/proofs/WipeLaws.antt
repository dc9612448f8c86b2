-- What the words are that `wipe` leaves, and `mark_after`: words of 64 bits, of which the first is masked and the others are cleared.
-- Assumes nothing.
use mathlib.Core.Path.{◌≡◌, sym, ap, ap₂, ◌∙◌}
use mathlib.Core.List.{List}
use Prim.Native.Nat.{ℕ, ◌+◌, ◌-◌, ◌*◌, ◌/◌, ◌%◌, ◌^◌, ◌≤◌, ◌<◌}
use native.Mathlib.Nat.{mod-lt, zero-add}
use native.Mathlib.Omega.{arith}
use native.Mathlib.Decide.{ℕ_discrete}
use lib.Arith.{lt-one}
use lib.Pow.{pow_pos, high, low}
use lib.ListN.{get_or, set, length}
use lib.Seq.{get_or-set_same, get_or-set_other, set-set}
use Rattle.window.specs.Layout.{WINDOW, word_of}
use Rattle.window.specs.Bits.{marked}
use Rattle.window.specs.Window.{mark, wiped}
use Rattle.window.proofs.BitLaws.{marked_put, over, rest_below}
use Rattle.window.proofs.StretchLaws.{without, wiped_word, wiped_on}

-- ---- words

-- a word of 64 bits
abbrev pub Fits : List ℕ → Type 0
Fits w = (i : ℕ) → get_or w i 0 < 2 ^ 64

small : (x : ℕ) → x < 2 ^ 64 → x / 2 ^ 64 ≡ 0
small x l = omega arith

rest_none : (x : ℕ) → x % 2 ^ 0 ≡ 0
rest_none x = lt-one (mod-lt x (pow_pos 0))

module _ (w : List ℕ) (at : ℕ) (e : length w ≡ WINDOW) (f : get_or w (word_of at) 0 < 2 ^ 64) where
  -- what is left of a word
  wiped_end : wiped w at (64 - at % 64) ≡ set w (word_of at) (get_or w (word_of at) 0 % 2 ^ (at % 64))
  wiped_end =
      wiped_word (64 - at % 64) w at e (omega arith)
      ∙ ap (set w (word_of at)) (ap (without x (at % 64)) all ∙ ap (λ (y : ℕ). y * 2 ^ 64 + x % 2 ^ (at % 64)) (small x f) ∙ zero-add _)
    where
      x : ℕ
      x = get_or w (word_of at) 0

      all : at % 64 + (64 - at % 64) ≡ 64
      all = omega arith

  -- a word that has passed
  wiped_whole : at % 64 ≡ 0 → wiped w at 64 ≡ set w (word_of at) 0
  wiped_whole z = ap (wiped w at) (omega arith) ∙ wiped_end ∙ ap (set w (word_of at)) none
    where
      none : get_or w (word_of at) 0 % 2 ^ (at % 64) ≡ 0
      none = ap (λ (x : ℕ). get_or w (word_of at) 0 % 2 ^ x) z ∙ rest_none (get_or w (word_of at) 0)

pub set_fits : (w : List ℕ) (i v : ℕ) → i < length w → v < 2 ^ 64 → Fits w → Fits (set w i v)
set_fits w i v l h f j = go (ℕ_discrete j i)
  where
    go : Dec (j ≡ i) → get_or (set w i v) j 0 < 2 ^ 64
    go (yes p) = rw (p, get_or-set_same w i v 0 l) h
    go (no p) = rw (get_or-set_other w i j v 0 p) (f j)

-- the steps of `wipe`: what is left to wipe behind the first word, and behind a word that has passed
module _ (w : List ℕ) (at to : ℕ) (e : length w ≡ WINDOW) (f : Fits w) (l : at < to) (z : to % 64 ≡ 0) where
  pub wiped_first : (x : List ℕ) (next : ℕ) → x ≡ set w (word_of at) (get_or w (word_of at) 0 % 2 ^ (at % 64)) → next ≡ at - at % 64 + 64
      → wiped x next (to - next) ≡ wiped w at (to - at)
  wiped_first x next h n =
      ap (λ (y : List ℕ). wiped y next (to - next)) (h ∙ sym (wiped_end w at e (f (word_of at))) ∙ ap (wiped w at) (omega arith))
      ∙ sym (wiped_on w at next to (omega arith) (omega arith))

  pub wiped_next : (x : List ℕ) → x ≡ set w (word_of at) 0 → at % 64 ≡ 0 → wiped x (at + 64) (to - (at + 64)) ≡ wiped w at (to - at)
  wiped_next x h y =
      ap (λ (v : List ℕ). wiped v (at + 64) (to - (at + 64))) (h ∙ sym (wiped_whole w at e (f (word_of at)) y) ∙ ap (wiped w at) (omega arith))
      ∙ sym (wiped_on w at (at + 64) to (omega arith) (omega arith))

-- ---- a minute is heard behind them

marked_without : (w o k : ℕ) → o ≤ k → marked (without w o k) k ≡ over w o k
marked_without w o k l =
    marked_put (without w o k) k
    ∙ ap₂ (λ (x y : ℕ). (x / 2 * 2 + 1) * 2 ^ k + y) (high (w / 2 ^ k) k (rest_below w o k l)) (low (w / 2 ^ k) k (rest_below w o k l))

module _ (w : List ℕ) (from m : ℕ) (e : length w ≡ WINDOW) (l : from ≤ m) (s : from / 64 ≡ m / 64) where
  pub mark_wiped : mark (wiped w from (m - from)) m ≡ set w (word_of m) (over (get_or w (word_of m) 0) (from % 64) (m % 64))
  unfolding mark
  mark_wiped =
      ap (λ (x : List ℕ). set x (word_of m) (marked (get_or x (word_of m) 0) (m % 64))) one
      ∙ set-set w (word_of m) y (marked (get_or (set w (word_of m) y) (word_of m) 0) (m % 64))
      ∙ ap (λ (x : ℕ). set w (word_of m) (marked x (m % 64))) (get_or-set_same w (word_of m) y 0 (omega arith))
      ∙ ap (set w (word_of m)) (marked_without (get_or w (word_of m) 0) (from % 64) (m % 64) (omega arith))
    where
      y : ℕ
      y = without (get_or w (word_of m) 0) (from % 64) (m % 64)

      word : word_of from ≡ word_of m
      word = omega arith

      place : from % 64 + (m - from) ≡ m % 64
      place = omega arith

      one : wiped w from (m - from) ≡ set w (word_of m) y
      one =
          wiped_word (m - from) w from e (omega arith)
          ∙ ap₂ (λ (i k : ℕ). set w i (without (get_or w i 0) (from % 64) k)) word place
