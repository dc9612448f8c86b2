-- A record put among others: where its place is, what stands there then, and that all others stay. By induction on the records, each
-- time by how the ranks compare. Assumes nothing.
use mathlib.Core.Path.{◌≡◌, refl, sym, ap, ◌∙◌}
use mathlib.Core.Bool.{Bool, true, false}
use mathlib.Core.List.{List, [], ◌∷◌}
use Prim.Native.Nat.{ℕ, zero, suc, ◌≤◌, ◌<◌}
use native.Mathlib.Omega.{arith}
use native.Mathlib.Nat.{le_of_suc-le-suc, not-suc-le-zero}
use lib.Dec.{leb, eqb}
use lib.ListN.{length, take, set}
use borrow.Author.Tests.{le-leb, lt-leb, le-ltb, lt-ltb, leb-true, leb-false, eq-eqb, ne_eqb, eqb-true, eqb-false}
use Rattle.watchfile.specs.Format.{rank_of}
use Rattle.watchfile.specs.declared.Record.{Record}
use Rattle.writer.proofs.RestLaws.{at}
use Rattle.watchlog.specs.Placing.{inserted, place_of, pushed}

-- ---- the place

module _ (rank : ℕ) (q : Record) (qs : List Record) where
  pub place_here : rank ≤ rank_of q → place_of rank (q ∷ qs) ≡ 0
  unfolding place_of
  place_here h = rw (le-leb rank (rank_of q) h)

  pub place_later : rank_of q < rank → place_of rank (q ∷ qs) ≡ suc (place_of rank qs)
  unfolding place_of
  place_later h = rw (lt-leb rank (rank_of q) h)

pub place_end : (rank : ℕ) → place_of rank [] ≡ 0
unfolding place_of
place_end rank = refl

pub place_most : (rank : ℕ) (qs : List Record) → place_of rank qs ≤ length qs
place_most rank [] = omega (arith, place_end rank)
place_most rank (q ∷ qs) = go (leb rank (rank_of q)) refl (place_most rank qs)
  where
    go : (b : Bool) → leb rank (rank_of q) ≡ b → place_of rank qs ≤ length qs → place_of rank (q ∷ qs) ≤ suc (length qs)
    go true e l = omega (arith, place_here rank q qs (leb-true rank (rank_of q) e))
    go false e l = omega (arith, place_later rank q qs (leb-false rank (rank_of q) e))

-- ---- three cases of the first record

module _ (r q : Record) (qs : List Record) where
  pub insert_later : rank_of q < rank_of r → inserted r (q ∷ qs) ≡ q ∷ inserted r qs
  unfolding inserted
  insert_later h = rw (lt-ltb (rank_of q) (rank_of r) h)

  pub insert_same : rank_of q ≡ rank_of r → inserted r (q ∷ qs) ≡ r ∷ qs
  unfolding inserted
  insert_same h = rw (le-ltb (rank_of q) (rank_of r) (omega arith), eq-eqb (rank_of q) (rank_of r) h)

  pub insert_before : rank_of r < rank_of q → inserted r (q ∷ qs) ≡ r ∷ q ∷ qs
  unfolding inserted
  insert_before h = rw (le-ltb (rank_of q) (rank_of r) (omega arith), ne_eqb (rank_of q) (rank_of r) (λ e. omega arith))

-- every property of how a record compares with r
pub by_rank : (r q : Record) (P : Type 0) → (rank_of q < rank_of r → P) → (rank_of q ≡ rank_of r → P) → (rank_of r < rank_of q → P) → P
by_rank r q P below same above = go (leb (rank_of r) (rank_of q)) refl (eqb (rank_of q) (rank_of r)) refl
  where
    go : (b : Bool) → leb (rank_of r) (rank_of q) ≡ b → (c : Bool) → eqb (rank_of q) (rank_of r) ≡ c → P
    go false e c d = below (leb-false (rank_of r) (rank_of q) e)
    go true e true d = same (eqb-true (rank_of q) (rank_of r) d)
    go true e false d = above (omega (arith, leb-true (rank_of r) (rank_of q) e, eqb-false (rank_of q) (rank_of r) d))

-- ---- by places: one of the same rank is replaced,

pub insert_set : (r : Record) (qs : List Record) → place_of (rank_of r) qs < length qs → rank_of (at qs (place_of (rank_of r) qs)) ≡ rank_of r
    → inserted r qs ≡ set qs (place_of (rank_of r) qs) r
insert_set r [] l e = absurd (not-suc-le-zero l)
insert_set r (q ∷ qs) l e =
    by_rank r q (inserted r (q ∷ qs) ≡ set (q ∷ qs) (place_of (rank_of r) (q ∷ qs)) r)
    (λ h. let p = place_later (rank_of r) q qs h in
    insert_later r q qs h ∙ ap (◌∷◌ q) (insert_set r qs (le_of_suc-le-suc (rw p at l)) (rw p at e)) ∙ ap (λ (i : ℕ). set (q ∷ qs) i r) (sym p))
    (λ h. insert_same r q qs h ∙ ap (λ (i : ℕ). set (q ∷ qs) i r) (sym (place_here (rank_of r) q qs (omega arith))))
    (λ h. absurd (let f = rw (place_here (rank_of r) q qs (omega arith)) at e in omega arith))

-- and where there is none, the others make room.
pub insert_push : (r : Record) (qs : List Record) → (place_of (rank_of r) qs < length qs → rank_of (at qs (place_of (rank_of r) qs)) ≡ rank_of r → ⊥)
    → inserted r qs ≡ pushed (place_of (rank_of r) qs) r qs
unfolding pushed inserted place_of
insert_push r [] none = refl
insert_push r (q ∷ qs) none =
    by_rank r q (inserted r (q ∷ qs) ≡ pushed (place_of (rank_of r) (q ∷ qs)) r (q ∷ qs))
    (λ h. let p = place_later (rank_of r) q qs h in
    insert_later r q qs h ∙ ap (◌∷◌ q) (insert_push r qs (λ l e. none (rw p (omega arith)) (rw p e))) ∙ ap (λ (i : ℕ). pushed i r (q ∷ qs)) (sym p))
    (λ h. absurd (let p = place_here (rank_of r) q qs (omega arith) in none (rw p (omega arith)) (rw p h)))
    (λ h. insert_before r q qs h ∙ ap (λ (i : ℕ). pushed i r (q ∷ qs)) (sym (place_here (rank_of r) q qs (omega arith))))

-- ---- pushing on, one place after the other

pub push_on : (i : ℕ) (r : Record) (l : List Record) → i < length l → pushed (suc i) (at l i) (set l i r) ≡ pushed i r l
unfolding pushed
push_on i r [] h = absurd (not-suc-le-zero h)
push_on zero r (q ∷ l) h = refl
push_on (suc i) r (q ∷ l) h = ap (◌∷◌ q) (push_on i r l (le_of_suc-le-suc h))

-- what is pushed at the end or behind it falls off
pub push_off : (i : ℕ) (r : Record) (l : List Record) → length l ≤ i → take (length l) (pushed i r l) ≡ l
unfolding pushed
push_off zero r [] h = refl
push_off (suc i) r [] h = refl
push_off zero r (q ∷ l) h = absurd (not-suc-le-zero h)
push_off (suc i) r (q ∷ l) h = ap (◌∷◌ q) (push_off i r l (le_of_suc-le-suc h))

-- among the first n, and one more
pub push_front : (n i : ℕ) (r : Record) (l : List Record) → i ≤ n → take (suc n) (pushed i r l) ≡ pushed i r (take n l)
unfolding pushed
push_front n zero r l h = refl
push_front zero (suc i) r l h = absurd (not-suc-le-zero h)
push_front (suc n) (suc i) r [] h = refl
push_front (suc n) (suc i) r (q ∷ l) h = ap (◌∷◌ q) (push_front n i r l (le_of_suc-le-suc h))

pub push_length : (i : ℕ) (r : Record) (l : List Record) → length (pushed i r l) ≡ suc (length l)
unfolding pushed
push_length zero r l = refl
push_length (suc i) r [] = refl
push_length (suc i) r (q ∷ l) = ap suc (push_length i r l)
