-- Laws of putting text: a text put behind a text is the two joined, wherever they lie; and what stands where all of it fits.
-- A text is laid byte by byte, and beyond the end nothing is. Assumes nothing.
use mathlib.Core.Path.{◌≡◌, refl, sym, ap, ◌∙◌, subst}
use mathlib.Core.Bool.{Bool, true, false}
use mathlib.Core.List.{List, [], ◌∷◌, ◌++◌}
use Prim.Native.Nat.{ℕ, suc, ◌+◌, ◌-◌, ◌≤◌, ◌<◌, min}
use native.Mathlib.Omega.{arith}
use native.Mathlib.Nat.{add-zero, zero-add}
use native.Mathlib.Numerals.{add-one}
use lib.Dec.{leb}
use lib.ListN.{length, take, drop, set, get_or, length-append, length-take, drop_of_length-le}
use lib.Seq.{sets, sets-eq, length-sets, set_out, drop-cons}
use Rattle.std.proofs.lemmas.List.{take-append-drop, drop-drop, append_assoc}
use borrow.Author.Tests.{leb-true, leb-false}
use Rattle.text.specs.declared.Page.{Page}
use Rattle.text.specs.Text.{put, behind, Put, Puts}

pub length_put : (b : List ℕ) (at : ℕ) (xs : List ℕ) → length (put b at xs) ≡ length b
unfolding put
length_put b at xs = length-sets b at xs

-- ---- a text behind a text

sets_out : (b : List ℕ) (at : ℕ) (xs : List ℕ) → length b ≤ at → sets b at xs ≡ b
sets_out b at [] h = refl
sets_out b at (x ∷ xs) h = rw (set_out b at x h) (sets_out b (suc at) xs (omega arith))

sets_append : (b : List ℕ) (at : ℕ) (xs ys : List ℕ) → sets b at (xs ++ ys) ≡ sets (sets b at xs) (at + length xs) ys
sets_append b at [] ys = rw (add-zero at)
sets_append b at (x ∷ xs) ys =
    let e : suc at + length xs ≡ at + suc (length xs) = omega arith in
    sets_append (set b at x) (suc at) xs ys ∙ ap (λ (k : ℕ). sets (sets (set b at x) (suc at) xs) k ys) e

-- what is put at the end, or beyond it, is cut off
put_behind : (b : List ℕ) (k : ℕ) (ys : List ℕ) → sets b (min k (length b)) ys ≡ sets b k ys
put_behind b k ys = go (leb k (length b)) refl
  where
    go : (t : Bool) → leb k (length b) ≡ t → sets b (min k (length b)) ys ≡ sets b k ys
    go true e =
        let h = leb-true k (length b) e in
        let m : min k (length b) ≡ k = omega arith in
        ap (λ (j : ℕ). sets b j ys) m
    go false e =
        let h = leb-false k (length b) e in
        let m : min k (length b) ≡ length b = omega arith in
        ap (λ (j : ℕ). sets b j ys) m ∙ sets_out b (length b) ys (omega arith) ∙ sym (sets_out b k ys (omega arith))

pub put_join : (b : List ℕ) (at : ℕ) (xs ys : List ℕ) → put (put b at xs) (behind b at xs) ys ≡ put b at (xs ++ ys)
unfolding put behind
put_join b at xs ys =
    ap (λ (n : ℕ). sets (sets b at xs) (min (at + length xs) n) ys) (sym (length-sets b at xs))
    ∙ put_behind (sets b at xs) (at + length xs) ys
    ∙ sym (sets_append b at xs ys)

pub behind_join : (b : List ℕ) (at : ℕ) (xs ys : List ℕ) → behind (put b at xs) (behind b at xs) ys ≡ behind b at (xs ++ ys)
unfolding behind
behind_join b at xs ys = omega (arith, length_put b at xs, length-append xs ys)

pub join : {b b₁ b₂ xs ys : List ℕ} {at k₁ k₂ : ℕ} → Put b b₁ at xs k₁ → Put b₁ b₂ k₁ ys k₂ → Put b b₂ at (xs ++ ys) k₂
join {b} {b₁} {b₂} {xs} {ys} {at} {k₁} {k₂} p q =
    record {
      laid = q.laid ∙ rw (p.laid, p.next) (put_join b at xs ys);
      next = q.next ∙ rw (p.laid, p.next) (behind_join b at xs ys);
    }

-- the buffer stays as long as it was, and the place lies within it or at its end
pub put_inside : {b b₁ xs : List ℕ} {at k : ℕ} → Put b b₁ at xs k → (length b₁ ≡ length b) × (k ≤ length b)
unfolding behind
put_inside {b} {b₁} {xs} {at} {k} p = (ap length p.laid ∙ length_put b at xs, omega (arith, p.next))

-- nothing is put where nothing is left
pub put_nothing : (b : List ℕ) (at : ℕ) → at ≤ length b → Put b b at [] at
unfolding put behind
put_nothing b at h = record { laid = refl; next = omega arith }

-- a byte
pub put_one : (b : List ℕ) (at x : ℕ) → at < length b → Put b (set b at x) at (x ∷ []) (at + 1)
unfolding put behind
put_one b at x h = record { laid = refl; next = omega arith }

pub put_none : (b : List ℕ) (at : ℕ) (xs : List ℕ) → length b ≤ at → Put b b at xs (length b)
unfolding put behind
put_none b at xs h = record { laid = sym (sets_out b at xs h); next = omega arith }

-- bytes put one after the other: a byte and those behind it are those from it on, and at the end none is left or none has room
pub put_step : {b b₁ b₂ : List ℕ} {at k₁ k₂ : ℕ} (bytes : List ℕ) (i : ℕ) → i < length bytes
    → Put b b₁ at (get_or bytes i 0 ∷ []) k₁ → Put b₁ b₂ k₁ (drop (i + 1) bytes) k₂ → Put b b₂ at (drop i bytes) k₂
put_step bytes i h p q = rw (drop-cons bytes i 0 h, ← add-one i) (join p q)

pub put_end : (b : List ℕ) (at : ℕ) (bytes : List ℕ) (i : ℕ) → at ≤ length b → i ≡ min (length bytes) (length b - at) → Put b b (at + i) (drop i bytes) (at + i)
put_end b at bytes i h e = go (leb (length bytes) i) refl
  where
    go : (t : Bool) → leb (length bytes) i ≡ t → Put b b (at + i) (drop i bytes) (at + i)
    go true l = rw (drop_of_length-le bytes (leb-true (length bytes) i l)) (put_nothing b (at + i) (omega arith))
    go false l =
        let end : length b ≡ at + i = omega (arith, leb-false (length bytes) i l) in
        subst (λ (k : ℕ). Put b b (at + i) (drop i bytes) k) end (put_none b (at + i) (drop i bytes) (omega arith))

-- ---- where all of it fits

pub put_whole : (b : List ℕ) (at : ℕ) (xs : List ℕ) → at + length xs ≤ length b → put b at xs ≡ take at b ++ xs ++ drop (at + length xs) b
unfolding put
put_whole b at xs h = sets-eq xs b at h

pub behind_whole : (b : List ℕ) (at : ℕ) (xs : List ℕ) → at + length xs ≤ length b → behind b at xs ≡ at + length xs
unfolding behind
behind_whole b at xs h = omega arith

-- at the start: the text, and behind it what stood there
pub put_front : {b b₁ xs : List ℕ} {k : ℕ} → Put b b₁ 0 xs k → length xs ≤ length b → (b₁ ≡ xs ++ drop (length xs) b) × (k ≡ length xs)
put_front {b} {b₁} {xs} {k} p h =
    let inside : 0 + length xs ≤ length b = omega arith in
    (p.laid ∙ put_whole b 0 xs inside ∙ rw (zero-add (length xs)), p.next ∙ behind_whole b 0 xs inside ∙ zero-add (length xs))

-- bytes put as far as they have room: so many of them between what stands before and behind
pub put_fitting : (b : List ℕ) (at k : ℕ) (xs : List ℕ) → at ≤ length b → k ≡ min (length xs) (length b - at)
    → take at b ++ (take k xs ++ drop k (drop at b)) ≡ put b at xs
unfolding put
put_fitting b at k xs h e =
    ap (λ (l : List ℕ). take at b ++ (take k xs ++ l)) (drop-drop k at b ∙ ap (λ (n : ℕ). drop n b) (omega (arith, long)))
    ∙ sym (append_assoc (take at b) (take k xs) (drop (at + length (take k xs)) b))
    ∙ sym (put_whole b at (take k xs) (omega (arith, long)))
    ∙ rest (leb (length xs) k) refl
    ∙ sym (sets_append b at (take k xs) (drop k xs))
    ∙ ap (sets b at) (take-append-drop k xs)
  where
    long : length (take k xs) ≡ k
    long = length-take k xs ∙ omega arith

    rest : (t : Bool) → leb (length xs) k ≡ t → sets b at (take k xs) ≡ sets (sets b at (take k xs)) (at + length (take k xs)) (drop k xs)
    rest true q = rw (drop_of_length-le xs (leb-true (length xs) k q))
    rest false q =
        sym (sets_out (sets b at (take k xs)) (at + length (take k xs)) (drop k xs)
        (omega (arith, long, length-sets b at (take k xs), leb-false (length xs) k q)))

-- ---- pages

-- one text behind another
pub then : {p q r : Page} {xs ys : List ℕ} → Puts p q xs → Puts q r ys → Puts p r (xs ++ ys)
then a b = record { put = join a.put b.put; lent = b.lent ∙ a.lent }
