-- What `clear`, `mark` and `wiped` do to the presence bits of a window and to its other words. Two minutes share a bit only if
-- they are equal modulo MINUTES. Assumes nothing.
use mathlib.Core.Path.{◌≡◌, refl, sym, ap, ap₂, ◌∙◌}
use mathlib.Core.List.{List}
use Prim.Native.Nat.{ℕ, zero, suc, ◌+◌, ◌-◌, ◌%◌, ◌≤◌, ◌<◌}
use native.Mathlib.Omega.{arith}
use native.Mathlib.Decide.{ℕ_discrete}
use lib.Dec.{lit<}
use lib.ListN.{get_or, set, length, length-set}
use lib.Seq.{get_or-set_same, get_or-set_other}
use Rattle.window.specs.Layout.{MINUTES, WINDOW, word_of, cell_of}
use Rattle.window.specs.Bits.{bit}
use Rattle.window.specs.Window.{bit_of, clear, mark, wiped}
use Rattle.window.proofs.BitLaws.{put, put_same, put_other, cleared_put, marked_put}

same_word : (j m : ℕ) → j % MINUTES ≡ m % MINUTES → word_of j ≡ word_of m
same_word j m e = omega arith

same_place : (j m : ℕ) → j % MINUTES ≡ m % MINUTES → j % 64 ≡ m % 64
same_place j m e = omega arith

-- a word that has no presence bits
abbrev pub Aside : ℕ → Type 0
Aside i = (j : ℕ) → i ≡ word_of j → ⊥

pub aside_next : Aside 0
aside_next j e = omega arith

pub aside_cell : (m : ℕ) → Aside (cell_of m)
aside_cell m j e = omega arith

pub bits_aside : (w : List ℕ) (i v j : ℕ) → Aside i → bit_of (set w i v) j ≡ bit_of w j
bits_aside w i v j a = ap (λ (x : ℕ). bit x (j % 64)) (get_or-set_other w i (word_of j) v 0 (λ e. a j (sym e)))

-- the bit of m put to b, and nothing else
pub record Turned (w w' : List ℕ) (m b : ℕ) : Type 0 where
  pub long : length w' ≡ length w
  pub same : (j : ℕ) → j % MINUTES ≡ m % MINUTES → bit_of w' j ≡ b
  pub other : (j : ℕ) → (j % MINUTES ≡ m % MINUTES → ⊥) → bit_of w' j ≡ bit_of w j
  pub rest : (i : ℕ) → Aside i → get_or w' i 0 ≡ get_or w i 0

abbrev turned : List ℕ → ℕ → ℕ → List ℕ
turned w m b = set w (word_of m) (put (get_or w (word_of m) 0) (m % 64) b)

module _ (w : List ℕ) (m b : ℕ) (e : length w ≡ WINDOW) (l : b < 2) where
  here : get_or (turned w m b) (word_of m) 0 ≡ put (get_or w (word_of m) 0) (m % 64) b
  here = get_or-set_same w (word_of m) (put (get_or w (word_of m) 0) (m % 64) b) 0 (omega arith)

  same : (j : ℕ) → j % MINUTES ≡ m % MINUTES → bit_of (turned w m b) j ≡ b
  same j s =
      ap₂ (λ (x y : ℕ). bit (get_or (turned w m b) x 0) y) (same_word j m s) (same_place j m s)
      ∙ ap (λ (x : ℕ). bit x (m % 64)) here
      ∙ put_same (get_or w (word_of m) 0) (m % 64) b l

  other : (j : ℕ) → (j % MINUTES ≡ m % MINUTES → ⊥) → bit_of (turned w m b) j ≡ bit_of w j
  other j ne = go (ℕ_discrete (word_of j) (word_of m))
    where
      apart : word_of j ≡ word_of m → j % 64 ≡ m % 64 → ⊥
      apart p q = ne (omega arith)

      go : Dec (word_of j ≡ word_of m) → bit_of (turned w m b) j ≡ bit_of w j
      go (yes p) =
          ap (λ (x : ℕ). bit (get_or (turned w m b) x 0) (j % 64)) p
          ∙ ap (λ (x : ℕ). bit x (j % 64)) here
          ∙ put_other (get_or w (word_of m) 0) (m % 64) b l (j % 64) (apart p)
          ∙ ap (λ (x : ℕ). bit (get_or w x 0) (j % 64)) (sym p)
      go (no p) = ap (λ (x : ℕ). bit x (j % 64)) (get_or-set_other w (word_of m) (word_of j) _ 0 p)

  turns : Turned w (turned w m b) m b
  turns = record {
    long = length-set w (word_of m) (put (get_or w (word_of m) 0) (m % 64) b);
    same = same;
    other = other;
    rest = λ i a. get_or-set_other w (word_of m) i (put (get_or w (word_of m) 0) (m % 64) b) 0 (a m);
  }

module _ (w : List ℕ) (m : ℕ) (e : length w ≡ WINDOW) where
  pub clear_turns : Turned w (clear w m) m 0
  unfolding clear
  clear_turns = rw (cleared_put (get_or w (word_of m) 0) (m % 64)) (turns w m 0 e (lit< tt))

  pub mark_turns : Turned w (mark w m) m 1
  unfolding mark
  mark_turns = rw (marked_put (get_or w (word_of m) 0) (m % 64)) (turns w m 1 e (lit< tt))

-- ---- n minutes cleared

pub wiped_long : (n : ℕ) (w : List ℕ) (m : ℕ) → length w ≡ WINDOW → length (wiped w m n) ≡ length w
unfolding wiped
wiped_long zero w m e = refl
wiped_long (suc n) w m e =
    let t = clear_turns w m e in
    wiped_long n (clear w m) (m + 1) (t.long ∙ e) ∙ t.long

pub wiped_rest : (n : ℕ) (w : List ℕ) (m i : ℕ) → length w ≡ WINDOW → Aside i → get_or (wiped w m n) i 0 ≡ get_or w i 0
unfolding wiped
wiped_rest zero w m i e a = refl
wiped_rest (suc n) w m i e a =
    let t = clear_turns w m e in
    wiped_rest n (clear w m) (m + 1) i (t.long ∙ e) a ∙ t.rest i a

-- a bit that is cleared stays so
wiped_zero : (n : ℕ) (w : List ℕ) (m j : ℕ) → length w ≡ WINDOW → bit_of w j ≡ 0 → bit_of (wiped w m n) j ≡ 0
unfolding wiped
wiped_zero zero w m j e z = z
wiped_zero (suc n) w m j e z = wiped_zero n (clear w m) (m + 1) j (t.long ∙ e) (go (ℕ_discrete (j % MINUTES) (m % MINUTES)))
  where
    t : Turned w (clear w m) m 0
    t = clear_turns w m e

    go : Dec (j % MINUTES ≡ m % MINUTES) → bit_of (clear w m) j ≡ 0
    go (yes p) = t.same j p
    go (no p) = t.other j p ∙ z

pub wiped_in : (n : ℕ) (w : List ℕ) (m j : ℕ) → length w ≡ WINDOW → m ≤ j → j < m + n → bit_of (wiped w m n) j ≡ 0
unfolding wiped
wiped_in zero w m j e p q = absurd (omega arith)
wiped_in (suc n) w m j e p q =
    go (ℕ_discrete j m) (λ s. wiped_in n (clear w m) (m + 1) j ((clear_turns w m e).long ∙ e) (omega arith) (omega arith))
  where
    t : Turned w (clear w m) m 0
    t = clear_turns w m e

    go : Dec (j ≡ m) → ((j ≡ m → ⊥) → bit_of (wiped (clear w m) (m + 1) n) j ≡ 0) → bit_of (wiped (clear w m) (m + 1) n) j ≡ 0
    go (yes s) later = wiped_zero n (clear w m) (m + 1) j (t.long ∙ e) (t.same j (ap (λ (x : ℕ). x % MINUTES) s))
    go (no s) later = later s

pub wiped_out : (n : ℕ) (w : List ℕ) (m j : ℕ) → length w ≡ WINDOW
    → ((i : ℕ) → m ≤ i → i < m + n → j % MINUTES ≡ i % MINUTES → ⊥) → bit_of (wiped w m n) j ≡ bit_of w j
unfolding wiped
wiped_out zero w m j e out = refl
wiped_out (suc n) w m j e out =
    let t = clear_turns w m e in
    wiped_out n (clear w m) (m + 1) j (t.long ∙ e) (λ i p q. out i (omega arith) (omega arith))
    ∙ t.other j (out m (omega arith) (omega arith))

-- nothing left to wipe
pub wiped_none : (w : List ℕ) (m to : ℕ) → to ≤ m → wiped w m (to - m) ≡ w
unfolding wiped
wiped_none w m to l = ap (wiped w m) left
  where
    left : to - m ≡ 0
    left = omega arith
