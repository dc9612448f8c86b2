-- `put_fields` meets its contract: who puts the numbers that are left from here on has put all. Assumes nothing.
use Prim.Native.Nat.{◌≤◌}
use lib.ListN.{length, drop}
use Rattle.text.specs.declared.Page.{Page}
use Rattle.text.specs.Text.{field, Puts}
use Rattle.hexadecimal.specs.Row.{row}
use Rattle.answer.proofs.put_fields.Given as goal

abbrev pub invariant-loop-n : goal.invariant-loop-n
invariant-loop-n l =
    (l.page.at ≤ length l.page.text.now)
    × ((after : Page) → Puts l.page after (row field (drop l.n-index l.numbers)) → Puts l.fn.page after (row field l.numbers))
