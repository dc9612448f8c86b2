-- A rule of a table, shown at all of its entries by one test that is computed over the whole list. By induction on the list.
-- Assumes nothing.
use mathlib.Core.Path.{◌≡◌, ◌∙◌, refl, subst, sym}
use mathlib.Core.Bool.{Bool, true, ◌&&◌}
use mathlib.Core.List.{List, [], ◌∷◌}
use Prim.Native.Nat.{ℕ, zero, suc, ◌+◌, ◌<◌}
use native.Mathlib.Nat.{add-zero, zero-add, add-suc, suc-add, le_of_suc-le-suc, not-suc-le-zero}
use lib.Dec.{T}
use lib.Ieee.Fits.{and_l, and_r}
use lib.ListN.{length, get_or}

-- the test passes at each entry and its place, counted from i
abbrev pub every : {A : Type 0} → (ℕ → A → Bool) → ℕ → List A → Bool
every test i [] = true
every test i (x ∷ xs) = test i x && every test (suc i) xs

from : {A : Type 0} (d : A) (test : ℕ → A → Bool) (xs : List A) (i : ℕ) → T (every test i xs) → (k : ℕ) → k < length xs → T (test (i + k) (get_or xs k d))
from d test [] i t k h = absurd (not-suc-le-zero h)
from d test (x ∷ xs) i t zero h = subst (λ (m : ℕ). T (test m x)) (sym (add-zero i)) (and_l (test i x) (every test (suc i) xs) t)
from d test (x ∷ xs) i t (suc k) h =
    subst (λ (m : ℕ). T (test m (get_or xs k d))) (suc-add i k ∙ sym (add-suc i k))
    (from d test xs (suc i) (and_r (test i x) (every test (suc i) xs) t) k (le_of_suc-le-suc h))

-- the entry at a place, shut, so that a law finds the list in a goal: `rw entry_is`, then a law on `entry _ _ _`
pub entry : {A : Type 0} → List A → ℕ → A → A
entry xs k d = get_or xs k d

pub entry_is : {A : Type 0} (xs : List A) (k : ℕ) (d : A) → get_or xs k d ≡ entry xs k d
unfolding entry
entry_is xs k d = refl

pub at : {A : Type 0} (d : A) (test : ℕ → A → Bool) (xs : List A) → T (every test 0 xs) → (k : ℕ) → k < length xs → T (test k (entry xs k d))
unfolding entry
at d test xs t k h = subst (λ (m : ℕ). T (test m (get_or xs k d))) (zero-add k) (from d test xs 0 t k h)
