-- Bytes written at a place of a buffer, and a part of it lent to another function, said of the whole buffer: by induction on
-- the bytes. Assumes nothing.
use mathlib.Core.Path.{◌≡◌, refl, sym, ap, ◌∙◌}
use mathlib.Core.List.{List, [], ◌∷◌, ◌++◌, append_assoc, append-nil}
use Prim.Native.Nat.{ℕ, suc, ◌+◌, ◌-◌, ◌≤◌, ◌<◌}
use native.Mathlib.Omega.{arith}
use native.Mathlib.Nat.{add-zero, add-suc, suc-add}
use lib.ListN.{length, set, take, drop, drop_of_length-le, length-drop}
use borrow.Rule.Slice.PartMut.{put_mid}
use lib.Seq.{sets, sets-eq, length-sets, drop-drop, take_all, set_comm}

pub sets_append : (a b l : List ℕ) (i : ℕ) → sets l i (a ++ b) ≡ sets (sets l i a) (i + length a) b
sets_append [] b l i = ap (λ (k : ℕ). sets l k b) (sym (add-zero i))
sets_append (x ∷ a) b l i =
    sets_append a b (set l i x) (suc i)
    ∙ ap (λ (k : ℕ). sets (sets (set l i x) (suc i) a) k b) (suc-add i (length a) ∙ sym (add-suc i (length a)))

set_before : (b l : List ℕ) (i j x : ℕ) → i < j → set (sets l j b) i x ≡ sets (set l i x) j b
set_before [] l i j x h = refl
set_before (y ∷ b) l i j x h =
    set_before b (set l j y) i (suc j) x (omega arith)
    ∙ ap (λ (k : List ℕ). sets k (suc j) b) (set_comm l j i y x (λ e. omega arith))

-- bytes at places apart may be written in either order
pub sets_apart : (a b l : List ℕ) (i j : ℕ) → i + length a ≤ j → sets (sets l j b) i a ≡ sets (sets l i a) j b
sets_apart [] b l i j h = refl
sets_apart (x ∷ a) b l i j h =
    ap (λ (k : List ℕ). sets k (suc i) a) (set_before b l i j x (omega arith)) ∙ sets_apart a b (set l i x) (suc i) j (omega arith)

-- ---- a part lent

-- the part of a buffer from a place on, and the buffer when that part comes back
abbrev pub part : List ℕ → ℕ → List ℕ
part l at = take (length l - at) (drop at l)

abbrev pub joined : List ℕ → ℕ → List ℕ → List ℕ
joined l at back = take at l ++ (back ++ drop (length l - at) (drop at l))

part_is : (l : List ℕ) (at : ℕ) → part l at ≡ drop at l
part_is l at = take_all (length l - at) (drop at l) (omega (arith, length-drop at l))

pub length_part : (l : List ℕ) (at : ℕ) → length (part l at) ≡ length l - at
length_part l at = ap length (part_is l at) ∙ length-drop at l

nothing_behind : (l : List ℕ) (at : ℕ) → drop (length l - at) (drop at l) ≡ []
nothing_behind l at = drop_of_length-le (drop at l) {i = length l - at} (omega (arith, length-drop at l))

-- what a function that was lent the part wrote at its start
pub back : (l bs last : List ℕ) (at : ℕ) → at + length bs ≤ length l → last ≡ sets (part l at) 0 bs → joined l at last ≡ sets l at bs
back l bs last at h e =
    rw (e, part_is l at, nothing_behind l at, append-nil (sets (drop at l) 0 bs), sets-eq bs (drop at l) 0 (omega (arith, length-drop at l)), drop-drop (0 + length bs) at l, sets-eq bs l at h)
    (ap (λ (k : ℕ). take at l ++ (bs ++ drop (at + k) l)) (omega arith) ∙ sym (append_assoc (take at l) bs (drop (at + length bs) l)))

-- what was copied over a part
pub laid : (l bs copied : List ℕ) (at n : ℕ) → copied ≡ bs → n ≡ length bs → at + length bs ≤ length l → put_mid at n l copied ≡ sets l at bs
laid l bs copied at n e m h =
    rw (e, m) (ap (λ (k : List ℕ). take at l ++ (bs ++ k)) (drop-drop (length bs) at l)
    ∙ sym (append_assoc (take at l) bs (drop (at + length bs) l))
    ∙ sym (sets-eq bs l at h))

-- one record: its row and its body are written into parts lent one after the other; the rows still to come end before that body
module _ (l whole row rows body bodies last last' : List ℕ) (at to : ℕ) (before : at + length row + length rows ≤ to) (room : to + length body ≤ length l)
    (so : sets (sets l at (row ++ rows)) to (body ++ bodies) ≡ whole)
    (first : joined l at last ≡ sets l at row) (second : last' ≡ sets (part (joined l at last) to) 0 body) where
  both : joined (joined l at last) to last' ≡ sets (sets l at row) to body
  both =
      back (joined l at last) body last' to (omega (arith, ap length first ∙ length-sets l at row)) second
      ∙ ap (λ (k : List ℕ). sets k to body) first

  pub record_length : length (joined (joined l at last) to last') ≡ length l
  record_length = ap length both ∙ length-sets (sets l at row) to body ∙ length-sets l at row

  pub record_turn : sets (sets (joined (joined l at last) to last') (at + length row) rows) (to + length body) bodies ≡ whole
  record_turn =
      ap (λ (k : List ℕ). sets (sets k (at + length row) rows) (to + length body) bodies) both
      ∙ ap (λ (k : List ℕ). sets k (to + length body) bodies) (sets_apart rows body (sets l at row) (at + length row) to before)
      ∙ ap (λ (k : List ℕ). sets (sets k to body) (to + length body) bodies) (sym (sets_append row rows l at))
      ∙ sym (sets_append body bodies (sets l at (row ++ rows)) to)
      ∙ so
