-- `put_records` meets its contract. The invariant: who puts the lines that are left from here on has put all. Assumes nothing.
use Prim.Native.Nat.{◌-◌, ◌≤◌}
use lib.ListN.{length}
use Rattle.text.specs.declared.Page.{Page}
use Rattle.text.specs.Text.{Puts}
use Rattle.listing.specs.Lines.{lines_from}
use Rattle.listing.proofs.put_records.Given as goal

abbrev pub invariant-loop-i : goal.invariant-loop-i
invariant-loop-i l =
    (l.page.at ≤ length l.page.text.now)
    × ((after : Page) → Puts l.page after (lines_from l.file l.i (l.count - l.i)) → Puts l.fn.page after (lines_from l.file 0 l.count))
