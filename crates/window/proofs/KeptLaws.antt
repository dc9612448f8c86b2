-- What is kept of a minute, and how an accepted value changes it: its own minute is kept, the minutes that the window still
-- reaches stay, all others are absent. Two minutes less than MINUTES apart share neither bit nor cell. Assumes nothing.
use mathlib.Core.Path.{◌≡◌, refl, sym, ap, ◌∙◌}
use mathlib.Core.Bool.{true, false, ◌&&◌, cond}
use mathlib.Core.List.{List}
use Prim.Native.Nat.{ℕ, suc, ◌+◌, ◌-◌, ◌%◌, ◌≤◌, ◌<◌, min}
use native.Mathlib.Omega.{arith}
use native.Mathlib.Decide.{ℕ_discrete, dec_lt}
use borrow.Author.Tests.{le-leb, lt-leb, eq-eqb, ne_eqb}
use lib.Dec.{eqb, leb}
use lib.ListN.{get_or, set, length, length-set}
use lib.Seq.{get_or-set_same, get_or-set_other}
use Rattle.std.specs.Prelude.{Some, None}
use Rattle.window.specs.Layout.{MINUTES, WINDOW, cell_of}
use Rattle.window.specs.Window.{next, bit_of, present, kept, mark, wiped, accepted}
use Rattle.window.proofs.WordLaws.{Turned, aside_next, aside_cell, bits_aside, mark_turns, wiped_long, wiped_rest, wiped_in, wiped_out}
use Rattle.window.proofs.PresentLaws.{present_late, present_gone, present_in, present_unset, present_set}

pub absent_kept : (w : List ℕ) (m : ℕ) → present w m ≡ false → kept w m ≡ None
unfolding kept
absent_kept w m e = rw e

pub present_kept : (w : List ℕ) (m : ℕ) → present w m ≡ true → kept w m ≡ Some (get_or w (cell_of m) 0)
unfolding kept
present_kept w m e = rw e

-- ---- after a value was accepted

apart : (j m : ℕ) → j < m → m < j + MINUTES → j % MINUTES ≡ m % MINUTES → ⊥
apart j m l g e = omega arith

module _ (w : List ℕ) (m v : ℕ) (e : length w ≡ WINDOW) where
  abbrev jumped : ℕ
  jumped = min (m - next w) MINUTES

  -- the window once the minutes jumped over are wiped, and once the value is in its cell
  abbrev w1 : List ℕ
  w1 = wiped w (m - jumped) jumped

  abbrev w3 : List ℕ
  w3 = set (mark w1 m) (cell_of m) v

  long1 : length w1 ≡ WINDOW
  long1 = wiped_long jumped w (m - jumped) e ∙ e

  marks : Turned w1 (mark w1 m) m 1
  marks = mark_turns w1 m long1

  long2 : length (mark w1 m) ≡ WINDOW
  long2 = marks.long ∙ long1

  long3 : length w3 ≡ WINDOW
  long3 = length-set (mark w1 m) (cell_of m) v ∙ long2

  pub length_after : length (accepted w m v) ≡ length w
  unfolding accepted
  length_after = length-set w3 0 (m + 1) ∙ long3 ∙ sym e

  pub next_after : next (accepted w m v) ≡ m + 1
  unfolding accepted
  next_after = get_or-set_same w3 0 (m + 1) 0 (omega (arith, long3))

  bits : (j : ℕ) → bit_of (accepted w m v) j ≡ bit_of (mark w1 m) j
  unfolding accepted
  bits j = bits_aside w3 0 (m + 1) j aside_next ∙ bits_aside (mark w1 m) (cell_of m) v j (aside_cell m)

  cells : (j : ℕ) → get_or (accepted w m v) (cell_of j) 0 ≡ get_or w3 (cell_of j) 0
  unfolding accepted
  cells j = get_or-set_other w3 0 (cell_of j) (m + 1) 0 (λ q. omega arith)

  cell_own : get_or (accepted w m v) (cell_of m) 0 ≡ v
  cell_own = cells m ∙ get_or-set_same (mark w1 m) (cell_of m) v 0 (omega (arith, long2))

  cell_other : (j : ℕ) → (j % MINUTES ≡ m % MINUTES → ⊥) → get_or (accepted w m v) (cell_of j) 0 ≡ get_or w (cell_of j) 0
  cell_other j ne =
      cells j
      ∙ get_or-set_other (mark w1 m) (cell_of m) (cell_of j) v 0 (λ q. ne (omega arith))
      ∙ marks.rest (cell_of j) (aside_cell j)
      ∙ wiped_rest jumped w (m - jumped) (cell_of j) e (aside_cell j)

  whole_after : length (accepted w m v) ≡ WINDOW
  whole_after = length_after ∙ e

  -- its own minute
  present_own : present (accepted w m v) m ≡ true
  present_own =
      present_set (accepted w m v) m whole_after (omega (arith, next_after)) (omega (arith, next_after))
      (λ z. omega (arith, bits m, marks.same m refl))

  -- a minute that is still to come, and one that is gone
  present_over : (j : ℕ) → m < j → present (accepted w m v) j ≡ false
  present_over j l = present_late (accepted w m v) j (omega (arith, next_after))

  present_past : (j : ℕ) → j + MINUTES < suc m → present (accepted w m v) j ≡ false
  present_past j l = present_gone (accepted w m v) j (omega (arith, next_after))

  -- a minute before it that is still reached
  module _ (j : ℕ) (l : j < m) (g : m < j + MINUTES) where
    bits_before : bit_of (accepted w m v) j ≡ bit_of w1 j
    bits_before = bits j ∙ marks.other j (apart j m l g)

    present_before : next w ≤ m → present (accepted w m v) j ≡ present w j
    present_before n = go (dec_lt j (next w))
      where
        go : Dec (j < next w) → present (accepted w m v) j ≡ present w j
        go (yes p) =
            let same : bit_of (accepted w m v) j ≡ bit_of w j =
            bits_before ∙ wiped_out jumped w (m - jumped) j e (λ i a b. apart j i (omega arith) (omega arith)) in
            present_in (accepted w m v) j whole_after (omega (arith, next_after)) (omega (arith, next_after))
            ∙ ap (λ (x : ℕ). eqb x 1) same
            ∙ sym (present_in w j e p (omega arith))
        go (no p) =
            present_unset (accepted w m v) j whole_after (omega (arith, next_after)) (omega (arith, next_after))
            (bits_before ∙ wiped_in jumped w (m - jumped) j e (omega arith) (omega arith))
            ∙ sym (present_late w j (omega arith))

    kept_before : next w ≤ m → kept (accepted w m v) j ≡ kept w j
    unfolding kept
    kept_before n = rw (present_before n, cell_other j (apart j m l g))

  module _ (n : next w ≤ m) (j : ℕ) where
    pub present_after : present (accepted w m v) j ≡ cond (eqb j m) true (leb (suc m) (j + MINUTES) && present w j)
    present_after = go (ℕ_discrete j m) (dec_lt m j) (dec_lt m (j + MINUTES))
      where
        go : Dec (j ≡ m) → Dec (m < j) → Dec (m < j + MINUTES)
            → present (accepted w m v) j ≡ cond (eqb j m) true (leb (suc m) (j + MINUTES) && present w j)
        go (yes p) b c = rw (eq-eqb j m p, p) present_own
        go (no p) (yes b) c =
            rw (ne_eqb j m p, le-leb (suc m) (j + MINUTES) (omega arith), present_late w j (omega arith)) (present_over j b)
        go (no p) (no b) (yes c) =
            rw (ne_eqb j m p, le-leb (suc m) (j + MINUTES) (omega arith)) (present_before j (omega arith) c n)
        go (no p) (no b) (no c) =
            rw (ne_eqb j m p, lt-leb (suc m) (j + MINUTES) (omega arith)) (present_past j (omega arith))

    pub kept_after : kept (accepted w m v) j ≡ cond (eqb j m) (Some v) (cond (leb (suc m) (j + MINUTES)) (kept w j) None)
    kept_after = go (ℕ_discrete j m) (dec_lt m j) (dec_lt m (j + MINUTES))
      where
        go : Dec (j ≡ m) → Dec (m < j) → Dec (m < j + MINUTES)
            → kept (accepted w m v) j ≡ cond (eqb j m) (Some v) (cond (leb (suc m) (j + MINUTES)) (kept w j) None)
        go (yes p) b c = rw (eq-eqb j m p, p) (present_kept (accepted w m v) m present_own ∙ ap Some cell_own)
        go (no p) (yes b) c =
            rw (ne_eqb j m p, le-leb (suc m) (j + MINUTES) (omega arith), absent_kept w j (present_late w j (omega arith)))
            (absent_kept (accepted w m v) j (present_over j b))
        go (no p) (no b) (yes c) =
            rw (ne_eqb j m p, le-leb (suc m) (j + MINUTES) (omega arith)) (kept_before j (omega arith) c n)
        go (no p) (no b) (no c) =
            rw (ne_eqb j m p, lt-leb (suc m) (j + MINUTES) (omega arith)) (absent_kept (accepted w m v) j (present_past j (omega arith)))
