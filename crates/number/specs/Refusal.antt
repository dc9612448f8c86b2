-- Refusals in order: a request is put to a list of tests, and the first that holds refuses.
use Rattle.std.specs.Prelude.{◌≡◌, Bool, true, ◌&&◌, cond, List, [], ◌∷◌, ℕ, zero, suc, ◌<◌, T, ltb}

-- A refusal of document 01 that returns more than its number.
pub record Numbered : Type 0 where
  pub number : ℕ
  pub extra : List ℕ

abbrev pub numbered : ℕ → List ℕ → Numbered
numbered n extra = record { number = n; extra = extra }

-- A test: what it refuses with, and whether its reason holds.
pub record Test (R : Type 0) : Type 0 where
  pub refusal : R
  pub holds : Bool

-- A test by its number, what it also returns, and its reason.
abbrev pub test : ℕ → List ℕ → Bool → Test Numbered
test n extra reason = record { refusal = numbered n extra; holds = reason }

-- Tests that refuse with nothing but their number.
abbrev pub plain : List (Test ℕ) → List (Test Numbered)
plain [] = []
plain (t ∷ ts) = test t.refusal [] t.holds ∷ plain ts

-- An answer: a refusal, or what was asked for.
pub data Answer (R A : Type 0) : Type 0 where
  refused : R → Answer R A
  given : A → Answer R A

-- The number of a refusal, or 0 where nothing is refused.
abbrev pub number_in : {A : Type 0} → Answer ℕ A → ℕ
number_in (refused n) = n
number_in (given a) = 0

-- The same where a refusal may return more.
abbrev pub numbered_in : {A : Type 0} → Answer Numbered A → ℕ
numbered_in (refused r) = r.number
numbered_in (given a) = 0

-- "exactly when its reason holds and no earlier test has refused"
unfoldable pub answer : {R A : Type 0} → List (Test R) → A → Answer R A
answer [] a = given a
answer (t ∷ ts) a = cond t.holds (refused t.refusal) (answer ts a)

-- The words of the laws (proofs/RefusalLaws). The test at a place, counted from 0, holds and refuses with r.
abbrev pub HoldsAt : {R : Type 0} → List (Test R) → ℕ → R → Type 0
HoldsAt [] place r = ⊥
HoldsAt (t ∷ ts) zero r = T t.holds × (t.refusal ≡ r)
HoldsAt (t ∷ ts) (suc place) r = HoldsAt ts place r

-- Some test that refuses with r holds.
abbrev pub Holds : {R : Type 0} → List (Test R) → R → Type 0
Holds ts r = (place : ℕ) × HoldsAt ts place r

-- No test before a place holds.
abbrev pub NoneBefore : {R : Type 0} → List (Test R) → ℕ → Type 0
NoneBefore {R} ts place = (p : ℕ) (r : R) → p < place → HoldsAt ts p r → ⊥

-- "its reason holds and no earlier test has refused"
abbrev pub First : {R : Type 0} → List (Test R) → R → Type 0
First ts r = (place : ℕ) × HoldsAt ts place r × NoneBefore ts place

-- No test of a smaller number holds.
abbrev pub NoneBelow : List (Test ℕ) → ℕ → Type 0
NoneBelow ts n = (m : ℕ) → m < n → Holds ts m → ⊥

-- The tests stand in number order, each number above n.
abbrev pub in_order : ℕ → List (Test ℕ) → Bool
in_order n [] = true
in_order n (t ∷ ts) = ltb n t.refusal && in_order t.refusal ts
