-- A test that says yes up to some number and no from there on: what bisection keeps of it, and that the number which it finds is the
-- count of those at which the test says yes. Assumes nothing.
use mathlib.Core.Path.{◌≡◌, refl, sym}
use mathlib.Core.Bool.{Bool, true, false}
use mathlib.Core.Logic.{⊎_elim}
use Prim.Native.Nat.{ℕ, zero, suc, ◌+◌, ◌≤◌, ◌<◌}
use native.Mathlib.Nat.{add-zero, add-suc}
use native.Mathlib.Omega.{arith}
use Rattle.sine.proofs.EveryNumber.{le_or_lt}
use Rattle.wind.specs.Wind.{count}
use Rattle.wind.specs.Work.{Parted}

-- ---- counts

pub count_same : (p q : ℕ → Bool) (n : ℕ) → ((i : ℕ) → i < n → p i ≡ q i) → count p n ≡ count q n
unfolding count
count_same p q zero same = refl
count_same p q (suc n) same = rw (same n (omega arith), count_same p q n (λ i h. same i (omega arith)))

-- where the test says yes below c and no from c on, c are counted
pub count_is : (p : ℕ → Bool) (n c : ℕ) → c ≤ n → ((i : ℕ) → i < c → p i ≡ true) → ((i : ℕ) → c ≤ i → i < n → p i ≡ false) → count p n ≡ c
unfolding count
count_is p zero c h up down = omega arith
count_is p (suc n) c h up down =
    ⊎_elim
    (λ x. rw (down n x (omega arith)) (omega (arith, count_is p n c x up (λ i a b. down i a (omega arith)))))
    (λ y. rw (up n y) (omega (arith, count_is p n n (omega arith) (λ i a. up i (omega arith)) (λ i a b. absurd (omega arith)))))
    (le_or_lt c n)

-- the first m, and the n after them
pub count_split : (p : ℕ → Bool) (m n : ℕ) → count p (m + n) ≡ count p m + count (λ i. p (m + i)) n
unfolding count
count_split p m zero = rw (add-zero m) (sym (add-zero (count p m)))
count_split p m (suc n) = rw (add-suc, count_split p m n) (omega arith)

-- ---- bisection

-- yes below `found`, no from `found + left` on
pub record Sought (p : ℕ → Bool) (n found left : ℕ) : Type 0 where
  pub within : found + left ≤ n
  pub yes : (i : ℕ) → i < found → p i ≡ true
  pub no : (i : ℕ) → found + left ≤ i → i < n → p i ≡ false

pub counted : (p : ℕ → Bool) (n c : ℕ) → Parted p n c → count p n ≡ c
counted p n c s = count_is p n c s.within s.yes s.no
