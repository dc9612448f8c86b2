-- `put_hex` meets its contract: who puts the bytes that are left from here on has put all. Assumes nothing.
use Prim.Native.Nat.{◌≤◌}
use lib.ListN.{length, drop}
use Rattle.text.specs.declared.Page.{Page}
use Rattle.text.specs.Text.{Puts}
use Rattle.hexadecimal.specs.Row.{row}
use Rattle.hexadecimal.specs.Hex.{hex_of}
use Rattle.hexadecimal.proofs.put_hex.Given as goal

abbrev pub invariant-loop-b : goal.invariant-loop-b
invariant-loop-b l =
    (l.page.at ≤ length l.page.text.now)
    × ((after : Page) → Puts l.page after (row hex_of (drop l.b-index l.bytes)) → Puts l.fn.page after (row hex_of l.bytes))
