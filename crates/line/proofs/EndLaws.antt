-- Laws of what stands before the first byte that parts, whichever bytes part: where it ends is found byte by byte. Assumes nothing.
use mathlib.Core.Path.{◌≡◌, refl, sym, ap, ◌∙◌}
use mathlib.Core.Bool.{Bool, true, false}
use mathlib.Core.List.{List, [], ◌∷◌}
use Prim.Native.Nat.{ℕ, suc, ◌+◌, ◌-◌, ◌≤◌, ◌<◌, max}
use native.Mathlib.Omega.{arith}
use native.Mathlib.Numerals.{add-one}
use lib.Dec.{leb}
use lib.ListN.{length, get_or, take, drop, length-drop, drop_of_length-le}
use lib.Seq.{drop-cons}
use borrow.Author.Tests.{leb-true, leb-false}
use Rattle.number.proofs.Sizes.{either_way}
use Rattle.line.specs.Words.{before, part, end_from}

module _ (parts : ℕ → Bool) where
  -- ---- what stands before it is a front of the text

  before_whole : (s : List ℕ) → before parts s ≡ take (length (before parts s)) s
  unfolding before
  before_whole [] = refl
  before_whole (b ∷ s) =
      either_way (λ x. x ≡ take (length x) (b ∷ s)) (parts b) [] (b ∷ before parts s) refl (ap (λ (x : List ℕ). b ∷ x) (before_whole s))

  pub before_short : (s : List ℕ) → length (before parts s) ≤ length s
  unfolding before
  before_short [] = omega arith
  before_short (b ∷ s) =
      either_way (λ x. length x ≤ suc (length s)) (parts b) [] (b ∷ before parts s) (omega arith) (omega (arith, before_short s))

  -- ---- where it ends

  past : (s : List ℕ) (i : ℕ) → length s ≤ i → end_from parts s i ≡ i
  unfolding end_from before
  past s i h = rw (drop_of_length-le s h) (omega arith)

  module _ (s : List ℕ) (i : ℕ) where
    -- after a search up to the end
    pub end_none : (at : ℕ) → length s ≤ i → (at ≤ length s → i ≤ length s) → end_from parts s i ≡ end_from parts s at → max at (length s) ≡ end_from parts s at
    end_none at h l e = go (leb at (length s)) refl
      where
        go : (t : Bool) → leb at (length s) ≡ t → max at (length s) ≡ end_from parts s at
        go true b =
            let u = l (leb-true at (length s) b) in
            let m : max at (length s) ≡ i = omega (arith, leb-true at (length s) b) in
            m ∙ sym (past s i h) ∙ e
        go false b =
            let u = leb-false at (length s) b in
            let m : max at (length s) ≡ at = omega arith in
            m ∙ sym (past s at (omega arith))

    pub end_here : i < length s → parts (get_or s i 0) ≡ true → end_from parts s i ≡ i
    unfolding end_from before
    end_here h e = rw (drop-cons s i 0 h, e) (omega arith)

    pub end_on : i < length s → parts (get_or s i 0) ≡ false → end_from parts s i ≡ end_from parts s (i + 1)
    unfolding end_from before
    end_on h e = rw (add-one i, drop-cons s i 0 h, e) (omega arith)

    pub end_inside : i ≤ length s → (i ≤ end_from parts s i) × (end_from parts s i ≤ length s)
    unfolding end_from
    end_inside h = (omega arith, omega (arith, before_short (drop i s), length-drop i s))

    -- its bytes
    pub before_end : before parts (drop i s) ≡ part s i (end_from parts s i)
    unfolding end_from
    before_end = let e : i + length (before parts (drop i s)) - i ≡ length (before parts (drop i s)) = omega arith in rw e (before_whole (drop i s))
