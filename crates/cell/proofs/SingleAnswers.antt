-- Each public contract of this crate allows a single answer: from what a cell says the reading can be made again. Assumes nothing.
use mathlib.Core.Path.{◌≡◌, refl, sym, ap, ◌∙◌}
use Prim.Native.Nat.{ℕ}
use Rattle.std.specs.Prelude.{Option, Some, None}
use Rattle.number.specs.Single.{Single}
use Rattle.number.proofs.SingleAnswers.{kept_by}
use Rattle.message.proofs.SingleAnswers.{reading, entry_back}
use Rattle.cell.specs.Cells.{Recall, absent, recalled, recalled_as}
use Rattle.message.specs.declared.Reading.{Reading}
use Rattle.cell.proofs.biased.Reads as biased
use Rattle.cell.proofs.unbiased.Reads as unbiased
use Rattle.cell.proofs.pair_cell.Reads as pair-cell
use Rattle.cell.proofs.cell_of.Reads as cell-of
use Rattle.cell.proofs.reading_in.Reads as reading-in

pub single_biased : Single biased.Post
single_biased κs a r r' s s' p q = p.0 ∙ sym q.0

pub single_unbiased : Single unbiased.Post
single_unbiased κs a r r' s s' p q = kept_by (p ∙ sym q)

pub single_pair_cell : Single pair-cell.Post
single_pair_cell κs a r r' s s' p q = p ∙ sym q

pub single_cell_of : Single cell-of.Post
single_cell_of κs a r r' s s' p q = p 0 ∙ sym (q 0)

pub recall_of_lem : Recall → Option Reading
recall_of_lem absent = None
recall_of_lem (recalled e) = Some (reading e.channel e.first e.second)

pub recall_back : (m : ℕ) (r : Option Reading) → recall_of_lem (recalled_as m r) ≡ r
unfolding recall_of_lem
recall_back m None = refl
recall_back m (Some r) = ap (λ (x : Reading). Some x) (entry_back m r)

pub single_reading_in : Single reading-in.Post
single_reading_in κs a r r' s s' p q = sym (recall_back 0 r) ∙ ap recall_of_lem (p 0 ∙ sym (q 0)) ∙ recall_back 0 r'
