-- A head that is right: what the file is read as. Assumes nothing.
use mathlib.Core.Path.{◌≡◌, refl, ◌∙◌}
use mathlib.Core.Bool.{true, ◌&&◌}
use mathlib.Core.List.{List}
use Prim.Native.Nat.{ℕ, ◌≤◌}
use lib.Dec.{eqb}
use lib.IntN.{ℤ}
use lib.ListN.{length, drop, get_or}
use borrow.Author.Tests.{le-leb, eq-eqb}
use Rattle.number.specs.Refusal.{Answer}
use Rattle.watchfile.specs.Format.{fields, records, count_of, reading}
use Rattle.watchfile.specs.declared.Record.{Record}
use Rattle.watchfile.proofs.FieldLaws.{right}
use Rattle.reader.specs.Work.{found}

-- what the fields come to from the k-th on
abbrev pub from : List ℕ → (ℕ → ℤ) → ℕ → Answer ℕ (List Record)
from s rule k = found s (drop k (fields rule s)) (records s)

pub whole : (s : List ℕ) (rule : ℕ → ℤ) → reading rule s ≡ from s rule 0
unfolding reading
whole s rule = refl

module _ (s : List ℕ) (rule : ℕ → ℤ) where
  pub past_label : 2 ≤ length s → (eqb (get_or s 0 0) 0x57 && eqb (get_or s 1 0) 0x54) ≡ true → reading rule s ≡ from s rule 1
  past_label two label = whole s rule ∙ right _ _ _ _ two label

  pub past_version : 3 ≤ length s → get_or s 2 0 ≡ 1 → from s rule 1 ≡ from s rule 2
  past_version three version = right _ _ _ _ three (eq-eqb _ _ version)

  pub past_count : 4 ≤ length s → count_of s ≤ 48 → from s rule 2 ≡ from s rule 3
  past_count four count = right _ _ _ _ four (le-leb _ _ count)
