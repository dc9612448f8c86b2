-- The tables' rules: one test over a whole list, carried to each entry; and the place of a tenth. Assumes nothing.
use mathlib.Core.Path.{◌≡◌, sym, ap, subst}
use mathlib.Core.Bool.{Bool, true}
use mathlib.Core.List.{List}
use Prim.Native.Nat.{ℕ, suc, ◌+◌, ◌-◌, ◌<◌, ◌≤◌}
use native.Mathlib.Omega.{arith}
use lib.Dec.{T, leb}
use lib.IntN.{ℤ, pos, negsuc, nat_abs, ◌+ℤ◌}
use lib.ListN.{length}
use lib.Signed.{le_z}
use borrow.Author.Tests.{leb-true, le-leb, le-ltb, lt-ltb}
use Rattle.number.proofs.Sizes.{and_true}
use Rattle.quantity.specs.Limits.{inside, bulb, frost}
use Rattle.vapour.specs.Vapour.{Formula, Near, lowest_vapour, highest_vapour, water}
use Rattle.vapour.specs.Tables.{tenth}
use Rattle.vapour.proofs.EachEntry.{entry, every, at}
use Rattle.vapour.proofs.UpDown.{up, down, of_difference}
use Rattle.vapour.proofs.SaturationLaws.{near_test, near_by_test, table_rises}

unfoldable pub entry_test : Formula → ℕ → ℕ → Bool
unfolding near_test
entry_test f i r = near_test f (tenth i) r

-- whatever the formula
pub near_at : (f : Formula) (xs : List ℕ) (k : ℕ) → T (every (entry_test f) 0 xs) → k < length xs → Near f (tenth k) (entry xs k 0)
unfolding entry_test
near_at f xs k passed h = near_by_test f (tenth k) (entry xs k 0) (at 0 (entry_test f) xs passed k h)

-- the first and the last entry, and so the range of all
first_entry : Near water bulb.low lowest_vapour
unfolding near_test
first_entry = near_by_test water bulb.low lowest_vapour tt

last_entry : Near water bulb.high highest_vapour
unfolding near_test
last_entry = near_by_test water bulb.high highest_vapour tt

pub entry_range : (t : ℤ) (r : ℕ) → inside bulb t ≡ true → Near water t r → (lowest_vapour ≤ r) × (r ≤ highest_vapour)
entry_range t r h n =
    let both = and_true (le_z bulb.low t) (le_z t bulb.high) h in (
      table_rises bulb.low t lowest_vapour r (record { le = subst T (sym both.0) tt }) first_entry n,
      table_rises t bulb.high r highest_vapour (record { le = subst T (sym both.1) tt }) n last_entry,
    )

-- the place of a tenth in the table
pub place_is : (t : ℤ) → inside bulb t ≡ true → let i = nat_abs (t +ℤ pos 400) in (i < 901) × (tenth i ≡ t)
place_is (pos n) h =
    let l = leb-true n 500 (and_true true (leb n 500) h).1 in
    (omega arith, simp (le-ltb (n + 400) 400 (omega arith)) (ap pos (omega arith)))
place_is (negsuc n) h =
    let l = leb-true n 399 (and_true (leb n 399) true h).0 in
    let e : negsuc n +ℤ pos 400 ≡ pos (400 - suc n) = simp (le-ltb 400 (suc n) (omega arith)) in
    rw e (omega arith, simp (lt-ltb (400 - suc n) 400 (omega arith)) (ap negsuc (omega arith)))

-- a bulb under ice lies within a bulb's limits, and its place within the table over ice
pub frost_bulb : (t : ℤ) → inside frost t ≡ true → inside bulb t ≡ true
frost_bulb (pos n) h = let l = leb-true n 0 (and_true true (leb n 0) h).1 in le-leb n 500 (omega arith)
frost_bulb (negsuc n) h = h

pub frost_place : (i : ℕ) (t : ℤ) → tenth i ≡ t → inside frost t ≡ true → i < 401
frost_place i (pos n) e h =
    let l = leb-true n 0 (and_true true (leb n 0) h).1 in
    omega (arith, of_difference i 400, ap up e, ap down e)
frost_place i (negsuc n) e h = omega (arith, of_difference i 400, ap up e, ap down e)
