-- A test at each of several numbers, as a loop works it: what is left to test answers for the whole. Assumes nothing.
use mathlib.Core.Path.{◌≡◌, refl, sym, ap, ap₂, ◌∙◌}
use Rattle.std.specs.Prelude.{List, length, get_or, take}
use Rattle.std.specs.List.{list_all, IsAllAdjacentAnswer}
use mathlib.Core.Bool.{Bool, true, false, ◌&&◌}
use Prim.Native.Nat.{ℕ, zero, suc, ◌+◌, ◌-◌, ◌≤◌, ◌<◌}
use native.Mathlib.Numerals.{add-one}
use native.Mathlib.Nat.{zero-add, add-zero, not-suc-le-zero, le_of_suc-le-suc}
use native.Mathlib.Omega.{arith}
use Rattle.std.proofs.lemmas.List.{get_or_default, get_or-take, length-take-le}
use Rattle.std.proofs.lemmas.List.Sums.{AllPass-from_list_all, list_all-from_AllPass}
use Rattle.number.proofs.Sizes.{and_true}
use Rattle.settings.specs.Settings.{every}

module _ (passes : ℕ → Bool) where
  -- the first of those that are left, and the rest
  front : (i n : ℕ) → i < n → every passes i (n - i) ≡ (passes i && every passes (i + 1) (n - (i + 1)))
  unfolding every
  front i n h =
      let some : n - i ≡ suc (n - (i + 1)) = omega arith in
      ap (every passes i) some ∙ ap (λ (k : ℕ). passes i && every passes k (n - (i + 1))) (sym (add-one i))

  -- the next one passes: the rest answers
  pub passed : (i n : ℕ) → i < n → passes i ≡ true → every passes (i + 1) (n - (i + 1)) ≡ every passes i (n - i)
  passed i n h e = sym (front i n h ∙ ap (λ (b : Bool). b && every passes (i + 1) (n - (i + 1))) e)

  -- the next one fails: all of it does
  pub failed : (i n : ℕ) → i < n → passes i ≡ false → every passes i (n - i) ≡ false
  failed i n h e = front i n h ∙ ap (λ (b : Bool). b && every passes (i + 1) (n - (i + 1))) e

  -- nothing is left
  pub done : (i n : ℕ) → n ≤ i → every passes i (n - i) ≡ true
  unfolding every
  done i n h = let none : n - i ≡ 0 = omega arith in ap (every passes i) none

-- what all pass each passes
pub every_at : (passes : ℕ → Bool) (i n k : ℕ) → every passes i n ≡ true → k < n → passes (i + k) ≡ true
unfolding every
every_at passes i zero k e h = absurd (not-suc-le-zero h)
every_at passes i (suc n) zero e h = rw (add-zero i) (and_true (passes i) (every passes (suc i) n) e).0
every_at passes i (suc n) (suc k) e h =
    let next : suc i + k ≡ i + suc k = omega arith in
    ap passes (sym next) ∙ every_at passes (suc i) n k (and_true (passes i) (every passes (suc i) n) e).1 (le_of_suc-le-suc h)

-- each passes: all do
pub all_pass : (passes : ℕ → Bool) (i n : ℕ) → ((k : ℕ) → k < n → passes (i + k) ≡ true) → every passes i n ≡ true
unfolding every
all_pass passes i zero h = refl
all_pass passes i (suc n) h =
    rw (ap passes (sym (add-zero i)) ∙ h 0 (omega arith))
    (all_pass passes (suc i) n (λ k l. let next : suc i + k ≡ i + suc k = omega arith in ap passes next ∙ h (suc k) (omega arith)))

-- one fails: not all pass
pub one_fails : (passes : ℕ → Bool) (i n k : ℕ) → k < n → passes (i + k) ≡ false → every passes i n ≡ false
one_fails passes i n k h e = go (every passes i n) refl where
  go : (b : Bool) → every passes i n ≡ b → b ≡ false
  go false w = refl
  go true w = sym (every_at passes i n k w h) ∙ e

-- over the first n of a list
module _ {X : Type 0} (none : X) (xs : List X) (n : ℕ) (fits : n ≤ length xs) where
  -- `all`
  pub every_listed : (holds : X → Bool) → list_all holds (take n xs) ≡ every (λ i. holds (get_or xs i none)) 0 n
  every_listed holds = go (list_all holds (take n xs)) (every (λ i. holds (get_or xs i none)) 0 n) refl refl where
    long : length (take n xs) ≡ n
    long = length-take-le n xs fits

    go : (a b : Bool) → list_all holds (take n xs) ≡ a → every (λ i. holds (get_or xs i none)) 0 n ≡ b → a ≡ b
    go true b p q =
        sym (all_pass (λ i. holds (get_or xs i none)) 0 n (λ k l. ap (λ j. holds (get_or xs j none)) (zero-add k) ∙ ap holds (sym (get_or-take n xs k none l)) ∙ AllPass-from_list_all holds (take n xs) p k none (omega (arith, long)))) ∙ q
    go false true p q =
        sym p ∙ list_all-from_AllPass holds (take n xs) (λ k d l. ap holds (get_or_default (take n xs) k d none l ∙ get_or-take n xs k none (omega (arith, long))) ∙ ap (λ j. holds (get_or xs j none)) (sym (zero-add k)) ∙ every_at (λ i. holds (get_or xs i none)) 0 n k q (omega (arith, long)))
    go false false p q = refl

  -- `is_sorted_by`
  pub every_sorted : (rises : X → X → Bool) (r : Bool) → IsAllAdjacentAnswer (λ x y b. b ≡ rises x y) (take n xs) r → r ≡ every (λ i. rises (get_or xs i none) (get_or xs (i + 1) none)) 0 (n - 1)
  every_sorted rises r a = go r a where
    long : length (take n xs) ≡ n
    long = length-take-le n xs fits

    pair : (k : ℕ) → k + 1 < n → rises (get_or (take n xs) k none) (get_or (take n xs) (k + 1) none) ≡ rises (get_or xs k none) (get_or xs (k + 1) none)
    pair k l = ap₂ rises (get_or-take n xs k none (omega arith)) (get_or-take n xs (k + 1) none l)

    go : (r : Bool) → IsAllAdjacentAnswer (λ x y b. b ≡ rises x y) (take n xs) r → r ≡ every (λ i. rises (get_or xs i none) (get_or xs (i + 1) none)) 0 (n - 1)
    go true a = sym (all_pass (λ i. rises (get_or xs i none) (get_or xs (i + 1) none)) 0 (n - 1) (λ k l. ap (λ j. rises (get_or xs j none) (get_or xs (j + 1) none)) (zero-add k) ∙ sym (pair k (omega arith)) ∙ sym (a k none (omega (arith, long)))))
    go false a = sym (one_fails (λ i. rises (get_or xs i none) (get_or xs (i + 1) none)) 0 (n - 1) a.0 (omega (arith, a.1, long)) (ap (λ j. rises (get_or xs j none) (get_or xs (j + 1) none)) (zero-add a.0) ∙ sym (pair a.0 (omega (arith, a.1, long))) ∙ sym (a.2 none)))
