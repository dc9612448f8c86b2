-- Fields that are all whole and right: of one list behind another, and of a part that stands at its place. Assumes nothing.
use mathlib.Core.Path.{sym, subst}
use mathlib.Core.List.{List, [], ◌∷◌, ◌++◌}
use Prim.Native.Nat.{ℕ, ◌-◌, ◌≤◌}
use native.Mathlib.Omega.{arith}
use lib.ListN.{length, drop, length-drop}
use Rattle.watchfile.specs.Fields.{Field, placed}
use Rattle.watchfile.proofs.FieldLaws.{Passed}

pub join : (n : ℕ) (fs gs : List Field) → Passed n fs → Passed n gs → Passed n (fs ++ gs)
join n [] gs p q = q
join n (f ∷ fs) gs p q = (p.0, p.1, join n fs gs p.2 q)

pub split : (n : ℕ) (fs gs : List Field) → Passed n (fs ++ gs) → Passed n fs × Passed n gs
split n [] gs p = (tt, p)
split n (f ∷ fs) gs p = let q = split n fs gs p.2 in ((p.0, p.1, q.0), q.1)

-- a part whose fields are right at its place
pub unplaced : (n k : ℕ) (fs : List Field) → Passed n (placed k fs) → Passed (n - k) fs
unplaced n k [] p = tt
unplaced n k (f ∷ fs) p = (omega (arith, p.0), p.1, unplaced n k fs p.2)

-- s is a file, and the part of it from k on has these fields
module _ (s : List ℕ) (k : ℕ) (inside : k ≤ length s) where
  pub place : (fs : List Field) → Passed (length (drop k s)) fs → Passed (length s) (placed k fs)
  place [] p = tt
  place (f ∷ fs) p = (omega (arith, p.0, length-drop k s), p.1, place fs p.2)

  pub unplace : (fs : List Field) → Passed (length s) (placed k fs) → Passed (length (drop k s)) fs
  unplace fs p = subst (λ (n : ℕ). Passed n fs) (sym (length-drop k s)) (unplaced (length s) k fs p)
