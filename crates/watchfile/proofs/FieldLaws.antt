-- Laws of a list of fields, tested in its order: what its first field comes to, a part that stands at a place of its own, and what
-- it means that all are right. By induction on the list. Assumes nothing.
use mathlib.Core.Path.{◌≡◌, refl, sym, ap, ◌∙◌}
use mathlib.Core.Bool.{Bool, true, false, not, cond}
use mathlib.Core.List.{List, [], ◌∷◌, ◌++◌}
use Prim.Native.Nat.{ℕ, ◌+◌, ◌-◌, ◌≤◌, ◌<◌}
use native.Mathlib.Omega.{arith}
use native.Mathlib.Decide.{dec_le}
use native.Mathlib.Nat.{lt_of_not-le}
use lib.Dec.{eqb, ltb, lit≤}
use borrow.Author.Tests.{lt-ltb, le-ltb, ltb-false}
use Rattle.number.specs.Refusal.{Answer, refused, given, answer}
use Rattle.number.proofs.RefusalLaws.{refused_stays, given_goes_on}
use Rattle.number.proofs.Sizes.{either_way, impossible}
use Rattle.watchfile.specs.Rules.{size_of}
use Rattle.watchfile.specs.Fields.{Field, field_tests, placed}

-- ---- the first field

module _ {A : Type 0} (n : ℕ) (f : Field) (fs : List Field) (a : A) where
  pub cut : n < f.whole → answer (field_tests n (f ∷ fs)) a ≡ refused n
  unfolding answer field_tests
  cut h = rw (lt-ltb n f.whole h)

  pub wrong : f.whole ≤ n → f.right ≡ false → answer (field_tests n (f ∷ fs)) a ≡ refused f.at
  unfolding answer field_tests
  wrong h e = rw (le-ltb n f.whole h, e)

  pub right : f.whole ≤ n → f.right ≡ true → answer (field_tests n (f ∷ fs)) a ≡ answer (field_tests n fs) a
  unfolding answer field_tests
  right h e = rw (le-ltb n f.whole h, e)

-- no field is left
pub none : {A : Type 0} (n : ℕ) (a : A) → answer (field_tests n []) a ≡ given a
unfolding answer field_tests
none n a = refl

-- ---- all fields right

abbrev pub Passed : ℕ → List Field → Type 0
Passed n [] = Unit
Passed n (f ∷ fs) = (f.whole ≤ n) × (f.right ≡ true) × Passed n fs

one_passes : {A : Type 0} (b r : Bool) (n at : ℕ) (z : Answer ℕ A) (x : A) → cond b (refused n) (cond (not r) (refused at) z) ≡ given x → (b ≡ false) × (r ≡ true) × (z ≡ given x)
one_passes true r n at z x h = (cc, cc, cc)
one_passes false true n at z x h = (refl, refl, h)
one_passes false false n at z x h = (cc, cc, cc)

pub given_passed : {A : Type 0} (n : ℕ) (fs : List Field) (a x : A) → answer (field_tests n fs) a ≡ given x → Passed n fs
unfolding answer field_tests
given_passed n [] a x h = tt
given_passed n (f ∷ fs) a x h =
    let p = one_passes (ltb n f.whole) f.right n f.at (answer (field_tests n fs) a) x h in
    (ltb-false n f.whole p.0, p.1, given_passed n fs a x p.2)

pub passed_given : {A : Type 0} (n : ℕ) (fs : List Field) (a : A) → Passed n fs → answer (field_tests n fs) a ≡ given a
passed_given n [] a p = none n a
passed_given n (f ∷ fs) a p = right n f fs a p.0 p.1 ∙ passed_given n fs a p.2

-- ---- one list behind another

tests_joined : (n : ℕ) (fs gs : List Field) → field_tests n (fs ++ gs) ≡ field_tests n fs ++ field_tests n gs
unfolding field_tests
tests_joined n [] gs = refl
tests_joined n (f ∷ fs) gs = rw (tests_joined n fs gs)

module _ {A B : Type 0} (n : ℕ) (fs gs : List Field) (a : A) (b : B) where
  pub joined_refused : (k : ℕ) → answer (field_tests n fs) a ≡ refused k → answer (field_tests n (fs ++ gs)) b ≡ refused k
  joined_refused k h = rw (tests_joined n fs gs) (refused_stays (field_tests n fs) (field_tests n gs) a b k h)

  pub joined_given : (x : A) → answer (field_tests n fs) a ≡ given x → answer (field_tests n (fs ++ gs)) b ≡ answer (field_tests n gs) b
  joined_given x h = rw (tests_joined n fs gs) (given_goes_on (field_tests n fs) (field_tests n gs) a x b h)

-- ---- a part that starts at k

abbrev moved : {A : Type 0} → ℕ → Answer ℕ A → Answer ℕ A
moved k (refused j) = refused (k + j)
moved k (given x) = given x

ltb_moved : (n k w : ℕ) → k ≤ n → ltb n (k + w) ≡ ltb (n - k) w
ltb_moved n k w h =
    elim (dec_le w (n - k)) [
      | yes g ↦ le-ltb n (k + w) (omega arith) ∙ sym (le-ltb (n - k) w g)
      | no g ↦ let l : n - k < w = lt_of_not-le g in lt-ltb n (k + w) (omega arith) ∙ sym (lt-ltb (n - k) w l)
    ]

one_moves : {A : Type 0} (b r : Bool) (n k m at : ℕ) (x y : Answer ℕ A) → n ≡ k + m → x ≡ moved k y
    → cond b (refused n) (cond (not r) (refused (k + at)) x) ≡ moved k (cond b (refused m) (cond (not r) (refused at) y))
one_moves true r n k m at x y e h = ap refused e
one_moves false true n k m at x y e h = h
one_moves false false n k m at x y e h = refl

placed_moved : {A : Type 0} (n k : ℕ) (fs : List Field) (a : A) → k ≤ n → answer (field_tests n (placed k fs)) a ≡ moved k (answer (field_tests (n - k) fs) a)
unfolding answer field_tests
placed_moved n k [] a h = refl
placed_moved n k (f ∷ fs) a h =
    rw (ltb_moved n k f.whole h)
    (one_moves (ltb (n - k) f.whole) f.right n k (n - k) f.at (answer (field_tests n (placed k fs)) a) (answer (field_tests (n - k) fs) a) (omega arith) (placed_moved n k fs a h))

module _ {A B : Type 0} (n k : ℕ) (fs gs : List Field) (a : A) (b : B) (h : k ≤ n) where
  pub placed_refused : (j : ℕ) → answer (field_tests (n - k) fs) a ≡ refused j → answer (field_tests n (placed k fs ++ gs)) b ≡ refused (k + j)
  placed_refused j e = joined_refused n (placed k fs) gs a b (k + j) (placed_moved n k fs a h ∙ ap (moved k) e)

  pub placed_given : (x : A) → answer (field_tests (n - k) fs) a ≡ given x → answer (field_tests n (placed k fs ++ gs)) b ≡ answer (field_tests n gs) b
  placed_given x e = joined_given n (placed k fs) gs a b x (placed_moved n k fs a h ∙ ap (moved k) e)

-- ---- a place that is found lies within the file, where each field ends behind its first byte

abbrev pub Ordered : List Field → Type 0
Ordered [] = Unit
Ordered (f ∷ fs) = (f.at ≤ f.whole) × Ordered fs

one_within : {A : Type 0} (b r : Bool) (n at k : ℕ) (z : Answer ℕ A) → cond b (refused n) (cond (not r) (refused at) z) ≡ refused k
    → (b ≡ false → at ≤ n) → (z ≡ refused k → k ≤ n) → k ≤ n
one_within true r n at k z h f g = let e : n ≡ k = cc in omega arith
one_within false true n at k z h f g = g h
one_within false false n at k z h f g = let e : at ≡ k = cc in let l = f refl in omega arith

pub place_within : {A : Type 0} (n : ℕ) (fs : List Field) (a : A) (k : ℕ) → Ordered fs → answer (field_tests n fs) a ≡ refused k → k ≤ n
unfolding answer field_tests
place_within n [] a k o h = impossible (cc)
place_within n (f ∷ fs) a k o h =
    one_within (ltb n f.whole) f.right n f.at k (answer (field_tests n fs) a) h
    (λ e. let w = ltb-false n f.whole e in let l = o.0 in omega arith)
    (λ e. place_within n fs a k o.1 e)

-- ---- the size of a body

pub size_most : (kind : ℕ) → size_of kind ≤ 9
size_most kind =
    either_way (λ n. n ≤ 9) (eqb kind 1) _ _ (lit≤ tt)
    (either_way (λ n. n ≤ 9) (eqb kind 2) _ _ (lit≤ tt)
    (either_way (λ n. n ≤ 9) (eqb kind 3) _ _ (lit≤ tt) (lit≤ tt)))
