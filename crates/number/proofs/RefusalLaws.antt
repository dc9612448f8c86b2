-- One law for every list of tests: the answer is a refusal exactly when its test holds and no earlier one does. By
-- induction on the list, each time by whether the first test holds. Assumes nothing.
use mathlib.Core.Path.{◌≡◌, refl, sym, ap, ◌∙◌, subst}
use mathlib.Core.Bool.{Bool, true, false}
use mathlib.Core.List.{List, [], ◌∷◌, ◌++◌}
use mathlib.Core.Logic.{◌↔◌}
use Prim.Native.Nat.{ℕ, zero, suc, ◌<◌, zero-le, suc-le-suc}
use native.Mathlib.Omega.{arith}
use native.Mathlib.Decide.{dec_lt}
use native.Mathlib.Nat.{not-suc-le-zero, le_of_suc-le-suc}
use lib.Dec.{T, ltb, ltb→lt}
use lib.Ieee.Fits.{and_l, and_r}
use Rattle.number.specs.Refusal.{numbered, Test, plain, Answer, refused, given, answer, HoldsAt, Holds, NoneBefore, First, NoneBelow, in_order}
use Rattle.number.proofs.Sizes.{impossible}

-- a refusal is not what is given
pub refused_not_given : {R A B : Type 0} {r : R} {a : A} → ◌≡◌ {A = Answer R A} (refused r) (given a) → B
refused_not_given e = impossible (cc)

-- nor the other way round
pub given_not_refused : {R A B : Type 0} {r : R} {a : A} → ◌≡◌ {A = Answer R A} (given a) (refused r) → B
given_not_refused e = refused_not_given (sym e)

module _ {R A : Type 0} (a : A) where
  -- ---- by place: the order in which the tests stand

  more_before : (t : Test R) (ts : List (Test R)) (place : ℕ) → t.holds ≡ false → NoneBefore ts place → NoneBefore (t ∷ ts) (suc place)
  more_before t ts place h f zero q l k = subst T h k.0
  more_before t ts place h f (suc p) q l k = f p q (le_of_suc-le-suc l) k

  refused_here : (t : Test R) (ts : List (Test R)) (r : R) (b : Bool) → t.holds ≡ b →
      (answer ts a ≡ refused r → First ts r) →
      answer (t ∷ ts) a ≡ refused r → First (t ∷ ts) r
  unfolding answer
  refused_here t ts r true h rest e = (0, (subst T (sym h) tt, let e' = rw h at e in cc), λ p q l k. not-suc-le-zero l)
  refused_here t ts r false h rest e = let found = rest (rw h at e) in (suc found.0, found.1, more_before t ts found.0 h found.2)

  pub refused_then : (ts : List (Test R)) (r : R) → answer ts a ≡ refused r → First ts r
  unfolding answer
  refused_then [] r e = given_not_refused e
  refused_then (t ∷ ts) r e = refused_here t ts r t.holds refl (refused_then ts r) e

  pub then_refused : (ts : List (Test R)) (r : R) (place : ℕ) → HoldsAt ts place r → NoneBefore ts place → answer ts a ≡ refused r
  unfolding answer
  then_refused [] r place k f = absurd k
  then_refused (t ∷ ts) r zero k f = go t.holds k.0 refl
    where
      go : (b : Bool) → T b → t.holds ≡ b → answer (t ∷ ts) a ≡ refused r
      go true y h = rw h (ap refused k.1)
      go false y h = absurd y
  then_refused (t ∷ ts) r (suc place) k f = go t.holds refl (then_refused ts r place k (λ p q l. f (suc p) q (suc-le-suc l)))
    where
      go : (b : Bool) → t.holds ≡ b → answer ts a ≡ refused r → answer (t ∷ ts) a ≡ refused r
      go true h e = absurd (f 0 t.refusal (suc-le-suc zero-le) (subst T (sym h) tt, refl))
      go false h e = rw h e

  -- The answer is the refusal r exactly when a test that refuses with r holds and no test before it does.
  pub refused_exactly : (ts : List (Test R)) (r : R) → (answer ts a ≡ refused r) ↔ First ts r
  refused_exactly ts r = (refused_then ts r, λ w. then_refused ts r w.0 w.1 w.2)

  -- What was asked for is given exactly when no test holds.
  pub given_then : (ts : List (Test R)) → answer ts a ≡ given a → (r : R) → Holds ts r → ⊥
  unfolding answer
  given_then [] e r w = w.1
  given_then (t ∷ ts) e r w = go t.holds refl w.0 w.1 (given_then ts)
    where
      go : (b : Bool) → t.holds ≡ b → (place : ℕ) → HoldsAt (t ∷ ts) place r → (answer ts a ≡ given a → (r : R) → Holds ts r → ⊥) → ⊥
      go true h place k rest = refused_not_given (rw h at e)
      go false h zero k rest = subst T h k.0
      go false h (suc place) k rest = rest (rw h at e) r (place, k)

  pub then_given : (ts : List (Test R)) → ((r : R) → Holds ts r → ⊥) → answer ts a ≡ given a
  unfolding answer
  then_given [] f = refl
  then_given (t ∷ ts) f = go t.holds refl (then_given ts (λ r w. f r (suc w.0, w.1)))
    where
      go : (b : Bool) → t.holds ≡ b → answer ts a ≡ given a → answer (t ∷ ts) a ≡ given a
      go true h e = absurd (f t.refusal (0, (subst T (sym h) tt, refl)))
      go false h e = rw h e

  pub given_exactly : (ts : List (Test R)) → (answer ts a ≡ given a) ↔ ((r : R) → Holds ts r → ⊥)
  given_exactly ts = (given_then ts, then_given ts)

-- ---- one list behind another

-- what the first list refuses stays refused
pub refused_stays : {R A B : Type 0} (ts us : List (Test R)) (a : A) (b : B) (r : R) → answer ts a ≡ refused r → answer (ts ++ us) b ≡ refused r
unfolding answer
refused_stays [] us a b r e = given_not_refused e
refused_stays (t ∷ ts) us a b r e = go t.holds refl (refused_stays ts us a b r)
  where
    go : (h : Bool) → t.holds ≡ h → (answer ts a ≡ refused r → answer (ts ++ us) b ≡ refused r) → answer (t ∷ ts ++ us) b ≡ refused r
    go true h rest = let e' = rw h at e in rw h (cc)
    go false h rest = rw h (rest (rw h at e))

-- where it refuses nothing, the second decides
pub given_goes_on : {R A B : Type 0} (ts us : List (Test R)) (a x : A) (b : B) → answer ts a ≡ given x → answer (ts ++ us) b ≡ answer us b
unfolding answer
given_goes_on [] us a x b e = refl
given_goes_on (t ∷ ts) us a x b e = go t.holds refl (given_goes_on ts us a x b)
  where
    go : (h : Bool) → t.holds ≡ h → (answer ts a ≡ given x → answer (ts ++ us) b ≡ answer us b) → answer (t ∷ ts ++ us) b ≡ answer us b
    go true h rest = refused_not_given (rw h at e)
    go false h rest = rw h (rest (rw h at e))

-- what is given is what was asked for
pub given_is : {R A : Type 0} (ts : List (Test R)) (a x : A) → answer ts a ≡ given x → a ≡ x
unfolding answer
given_is [] a x e = cc
given_is (t ∷ ts) a x e = go t.holds refl (given_is ts a x)
  where
    go : (h : Bool) → t.holds ≡ h → (answer ts a ≡ given x → a ≡ x) → a ≡ x
    go true h rest = refused_not_given (rw h at e)
    go false h rest = rest (rw h at e)

-- ---- tests that refuse with nothing but their number

module _ {A : Type 0} (a : A) where
  pub plain_refused : (ts : List (Test ℕ)) (n : ℕ) → answer ts a ≡ refused n → answer (plain ts) a ≡ refused (numbered n [])
  unfolding answer
  plain_refused [] n e = given_not_refused e
  plain_refused (t ∷ ts) n e = go t.holds refl (plain_refused ts n)
    where
      go : (h : Bool) → t.holds ≡ h → (answer ts a ≡ refused n → answer (plain ts) a ≡ refused (numbered n [])) → answer (plain (t ∷ ts)) a ≡ refused (numbered n [])
      go true h rest = let e' = rw h at e in let same : t.refusal ≡ n = cc in rw (h, same)
      go false h rest = rw h (rest (rw h at e))

  pub plain_given : (ts : List (Test ℕ)) (x : A) → answer ts a ≡ given x → answer (plain ts) a ≡ given x
  unfolding answer
  plain_given [] x e = let same : a ≡ x = cc in ap given same
  plain_given (t ∷ ts) x e = go t.holds refl (plain_given ts x)
    where
      go : (h : Bool) → t.holds ≡ h → (answer ts a ≡ given x → answer (plain ts) a ≡ given x) → answer (plain (t ∷ ts)) a ≡ given x
      go true h rest = refused_not_given (rw h at e)
      go false h rest = rw h (rest (rw h at e))

-- ---- by number: the tests stand in number order

above : (k : ℕ) (ts : List (Test ℕ)) → T (in_order k ts) → (place n : ℕ) → HoldsAt ts place n → k < n
above k [] o place n h = absurd h
above k (t ∷ ts) o zero n h = omega (arith, h.1, ltb→lt k t.refusal (and_l (ltb k t.refusal) (in_order t.refusal ts) o))
above k (t ∷ ts) o (suc place) n h =
    omega (
      arith,
      ltb→lt k t.refusal (and_l (ltb k t.refusal) (in_order t.refusal ts) o),
      above t.refusal ts (and_r (ltb k t.refusal) (in_order t.refusal ts) o) place n h,
    )

-- of two tests that hold, the later has the larger number
later_larger : (k : ℕ) (ts : List (Test ℕ)) → T (in_order k ts) → (p q m n : ℕ) → p < q → HoldsAt ts p m → HoldsAt ts q n → m < n
later_larger k [] o p q m n l h g = absurd h
later_larger k (t ∷ ts) o p zero m n l h g = absurd (not-suc-le-zero l)
later_larger k (t ∷ ts) o zero (suc q) m n l h g =
    omega (arith, h.1, above t.refusal ts (and_r (ltb k t.refusal) (in_order t.refusal ts) o) q n g)
later_larger k (t ∷ ts) o (suc p) (suc q) m n l h g =
    later_larger t.refusal ts (and_r (ltb k t.refusal) (in_order t.refusal ts) o) p q m n (le_of_suc-le-suc l) h g

one_number : (ts : List (Test ℕ)) (p m n : ℕ) → HoldsAt ts p m → HoldsAt ts p n → m ≡ n
one_number [] p m n h g = absurd h
one_number (t ∷ ts) zero m n h g = sym h.1 ∙ g.1
one_number (t ∷ ts) (suc p) m n h g = one_number ts p m n h g

module _ {A : Type 0} (a : A) (ts : List (Test ℕ)) (o : T (in_order 0 ts)) (n : ℕ) where
  none_below : (place : ℕ) → HoldsAt ts place n → NoneBefore ts place → NoneBelow ts n
  none_below place h f m l w = go (dec_lt w.0 place) (dec_lt place w.0)
    where
      go : Dec (w.0 < place) → Dec (place < w.0) → ⊥
      go (yes y) d = f w.0 m y w.1
      go (no y) (yes z) = let g = later_larger 0 ts o place w.0 n m z h w.1 in omega arith
      go (no y) (no z) =
          let e : w.0 ≡ place = omega arith in
          let g = one_number ts place m n (subst (λ (p : ℕ). HoldsAt ts p m) e w.1) h in
          omega arith

  -- The answer is refusal n exactly when test n holds and no test of a smaller number does.
  pub in_number_order : (answer ts a ≡ refused n) ↔ (Holds ts n × NoneBelow ts n)
  in_number_order = (
    λ e. let found = refused_then a ts n e in ((found.0, found.1), none_below found.0 found.1 found.2),
    λ w. then_refused a ts n w.0.0 w.0.1 (λ p q l h. w.1 q (later_larger 0 ts o p w.0.0 q n l h w.0.1) (p, h)),
  )
