-- What the parts of a question come to in the whole: each law says, of a list of tests, which of them refuses. By whether each
-- test holds. Assumes nothing.
use mathlib.Core.Path.{◌≡◌, refl, sym, ap, subst, ◌∙◌}
use mathlib.Core.Bool.{Bool, true, false, cond, not}
use mathlib.Core.List.{List, [], ◌∷◌, ◌++◌}
use Prim.Native.Nat.{ℕ}
use Rattle.number.specs.Refusal.{Numbered, Test, Answer, refused, given, answer}
use Rattle.number.proofs.Sizes.{impossible}
use Rattle.block.specs.Words.{is_store}
use Rattle.store.specs.Block.{no_store}
use Rattle.station.specs.Questions.{Answers}

-- a refusal's number, 0 for what is given: two answers of different numbers are different
unfoldable pub code : Answer Numbered (Unit {0}) → ℕ
code (refused r) = r.number
code (given a) = 0

-- a test that does not hold lets the rest decide
pub pass : {A : Type 0} (t : Test Numbered) (ts : List (Test Numbered)) (Rule : A → Type 0) (a : Answer Numbered A)
    → t.holds ≡ false → Answers ts Rule a → Answers (t ∷ ts) Rule a
unfolding answer Answers
pass t ts Rule (refused r) h w = rw h w
pass t ts Rule (given x) h w = (rw h w.0, w.1)

-- one that holds refuses
pub stop : {A : Type 0} (t : Test Numbered) (ts : List (Test Numbered)) (Rule : A → Type 0) → t.holds ≡ true → Answers (t ∷ ts) Rule (refused t.refusal)
unfolding answer Answers
stop t ts Rule h = rw h

-- after the last test the rule decides
pub end : {A : Type 0} (Rule : A → Type 0) (x : A) → Rule x → Answers [] Rule (given x)
unfolding answer Answers
end Rule x w = (refl, w)

-- a block that is no store, where a question tests it first of all
pub no_store_told : {A : Type 0} (s : List ℕ) (ts : List (Test Numbered)) (Rule : A → Type 0) {marked : Bool} → marked ≡ is_store s → not marked ≡ true
    → Answers (no_store s ∷ ts) Rule (refused (no_store s).refusal)
no_store_told s ts Rule is h = stop (no_store s) ts Rule (ap not (sym is) ∙ h)

-- ---- a part of a question, and the tests behind its own

-- what a part refuses, the question refuses
pub refuses : {A B : Type 0} (ts us : List (Test Numbered)) (Rule : A → Type 0) (Rule' : B → Type 0) (r : Numbered)
    → Answers ts Rule (refused r) → Answers (ts ++ us) Rule' (refused r)
unfolding answer Answers
refuses [] us Rule Rule' r w = impossible (cc)
refuses (t ∷ ts) us Rule Rule' r w = go t.holds w (refuses ts us Rule Rule' r)
  where
    go : (b : Bool) → cond b (refused t.refusal) (answer {A = Unit {0}} ts tt) ≡ refused r
        → (answer {A = Unit {0}} ts tt ≡ refused r → answer {A = Unit {0}} (ts ++ us) tt ≡ refused r)
        → cond b (refused t.refusal) (answer {A = Unit {0}} (ts ++ us) tt) ≡ refused r
    go true e rest = e
    go false e rest = rest e

let_through : (ts us : List (Test Numbered)) → answer {A = Unit {0}} ts tt ≡ given tt → answer {A = Unit {0}} (ts ++ us) tt ≡ answer us tt
unfolding answer
let_through [] us e = refl
let_through (t ∷ ts) us e = go t.holds e (let_through ts us)
  where
    go : (b : Bool) → cond b (refused t.refusal) (answer {A = Unit {0}} ts tt) ≡ given tt
        → (answer {A = Unit {0}} ts tt ≡ given tt → answer {A = Unit {0}} (ts ++ us) tt ≡ answer us tt)
        → cond b (refused t.refusal) (answer {A = Unit {0}} (ts ++ us) tt) ≡ answer us tt
    go true e rest = impossible (cc)
    go false e rest = rest e

-- where it gives something, the tests behind it decide
pub goes_on : {A B : Type 0} (ts us : List (Test Numbered)) (Rule : A → Type 0) (Rule' : B → Type 0) (x : A) (a : Answer Numbered B)
    → Answers ts Rule (given x) → Answers us Rule' a → Answers (ts ++ us) Rule' a
unfolding Answers
goes_on ts us Rule Rule' x (refused r) w v = let_through ts us w.0 ∙ v
goes_on ts us Rule Rule' x (given y) w v = (let_through ts us w.0 ∙ v.0, v.1)

-- the same tests and another rule: what they refuse is refused, and what they let pass is given by it
pub refused_so : {A B : Type 0} (ts : List (Test Numbered)) (Rule : A → Type 0) (Rule' : B → Type 0) (r : Numbered)
    → Answers ts Rule (refused r) → Answers ts Rule' (refused r)
unfolding Answers
refused_so ts Rule Rule' r w = w

pub told_so : {A B : Type 0} (ts : List (Test Numbered)) (Rule : A → Type 0) (Rule' : B → Type 0) (x : A) (y : B)
    → Rule' y → Answers ts Rule (given x) → Answers ts Rule' (given y)
unfolding Answers
told_so ts Rule Rule' x y v w = (w.0, v)

-- and that is by its rule
pub by_rule : {A : Type 0} (ts : List (Test Numbered)) (Rule : A → Type 0) (x : A) → Answers ts Rule (given x) → Rule x
unfolding Answers
by_rule ts Rule x w = w.1

-- what was let pass
pub lets_pass : (t : Test Numbered) (ts : List (Test Numbered)) → answer {A = Unit {0}} (t ∷ ts) tt ≡ given tt
    → (t.holds ≡ false) × (answer {A = Unit {0}} ts tt ≡ given tt)
unfolding answer
lets_pass t ts w = go t.holds refl w
  where
    go : (b : Bool) → t.holds ≡ b → cond b (refused t.refusal) (answer {A = Unit {0}} ts tt) ≡ given tt
        → (t.holds ≡ false) × (answer {A = Unit {0}} ts tt ≡ given tt)
    go true h e = impossible (cc)
    go false h e = (h, e)

pub passed : {A : Type 0} (t : Test Numbered) (ts : List (Test Numbered)) (Rule : A → Type 0) (x : A) → Answers (t ∷ ts) Rule (given x)
    → (t.holds ≡ false) × Answers ts Rule (given x)
unfolding Answers
passed t ts Rule x w = let p = lets_pass t ts w.0 in (p.0, (p.1, w.1))

pub ruled : {A : Type 0} (Rule : A → Type 0) (x : A) → Answers [] Rule (given x) → Rule x
unfolding Answers
ruled Rule x w = w.1

-- ---- whole answers

-- the same, told another way
pub retold : {A : Type 0} (ts : List (Test Numbered)) (Rule : A → Type 0) {a b : Answer Numbered A} → a ≡ b → Answers ts Rule a → Answers ts Rule b
retold ts Rule e w = subst (Answers ts Rule) e w

-- the same tests and a rule that follows
pub carry : {A : Type 0} (ts us : List (Test Numbered)) (Rule Rule' : A → Type 0) (a : Answer Numbered A)
    → answer {A = Unit {0}} ts tt ≡ answer us tt → ((x : A) → Rule x → Rule' x) → Answers ts Rule a → Answers us Rule' a
unfolding Answers
carry ts us Rule Rule' (refused r) e f w = sym e ∙ w
carry ts us Rule Rule' (given x) e f w = (sym e ∙ w.0, f x w.1)

-- the same first test, which refuses: whatever stands behind it
pub stopped : {A : Type 0} (t : Test Numbered) (ts us : List (Test Numbered)) (Rule Rule' : A → Type 0) (a : Answer Numbered A)
    → t.holds ≡ true → Answers (t ∷ ts) Rule a → Answers (t ∷ us) Rule' a
unfolding answer Answers
stopped t ts us Rule Rule' (refused r) h w = rw h (rw h at w)
stopped t ts us Rule Rule' (given x) h w = (let e = rw h at w.0 in impossible (cc))

-- so with the second of the same two
pub stopped_next : {A : Type 0} (s t : Test Numbered) (ts us : List (Test Numbered)) (Rule Rule' : A → Type 0) (a : Answer Numbered A)
    → t.holds ≡ true → Answers (s ∷ t ∷ ts) Rule a → Answers (s ∷ t ∷ us) Rule' a
unfolding answer Answers
stopped_next s t ts us Rule Rule' (refused r) h w = rw h (rw h at w)
stopped_next s t ts us Rule Rule' (given x) h w = (let e = (lets_pass t ts (lets_pass s (t ∷ ts) w.0).1).0 in impossible (cc))

-- a rule that allows one figure allows one answer
pub one_answer : {A : Type 0} (ts : List (Test Numbered)) (Rule : A → Type 0) → ((x y : A) → Rule x → Rule y → x ≡ y)
    → (a b : Answer Numbered A) → Answers ts Rule a → Answers ts Rule b → a ≡ b
unfolding Answers
one_answer ts Rule one (refused r) (refused q) v w = let e : ◌≡◌ {A = Answer Numbered (Unit {0})} (refused r) (refused q) = sym v ∙ w in let z : r ≡ q = cc in ap refused z
one_answer ts Rule one (refused r) (given y) v w =
    let e : ◌≡◌ {A = Answer Numbered (Unit {0})} (refused r) (given tt) = sym v ∙ w.0 in impossible (cc)
one_answer ts Rule one (given x) (refused q) v w =
    let e : ◌≡◌ {A = Answer Numbered (Unit {0})} (refused q) (given tt) = sym w ∙ v.0 in impossible (cc)
one_answer ts Rule one (given x) (given y) v w = ap given (one x y v.1 w.1)

-- a test that cannot hold where those before it let pass may be left out
pub leave_out : (ts us : List (Test Numbered)) (t : Test Numbered) → (answer {A = Unit {0}} ts tt ≡ given tt → t.holds ≡ false)
    → answer {A = Unit {0}} (ts ++ (t ∷ us)) tt ≡ answer (ts ++ us) tt
unfolding answer
leave_out [] us t f = rw (f refl)
leave_out (s ∷ ts) us t f = go s.holds refl (leave_out ts us t)
  where
    go : (b : Bool) → s.holds ≡ b
        → ((answer {A = Unit {0}} ts tt ≡ given tt → t.holds ≡ false) → answer {A = Unit {0}} (ts ++ (t ∷ us)) tt ≡ answer (ts ++ us) tt)
        → cond b (refused s.refusal) (answer {A = Unit {0}} (ts ++ (t ∷ us)) tt) ≡ cond b (refused s.refusal) (answer (ts ++ us) tt)
    go true h rest = refl
    go false h rest = rest (λ e. f (rw h e))
