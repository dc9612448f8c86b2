-- `contents` meets its contract: what is left to test answers for all of it. Assumes nothing.
use mathlib.Core.Path.{◌≡◌}
use Prim.Native.Nat.{◌+◌, ◌*◌, ◌-◌, ◌≤◌}
use lib.ListN.{length}
use Rattle.watchfile.specs.Format.{rows_fields, start_of}
use Rattle.reader.specs.Work.{found}
use Rattle.reader.proofs.contents.Given as goal

abbrev pub invariant-loop-i : goal.invariant-loop-i
invariant-loop-i l =
    (4 + 8 * l.i ≤ length l.file) × (l.next ≤ 4 + 8 * l.count + 9 * l.i)
    × (found l.file (rows_fields l.file l.count 4 (start_of l.count) 0) l.count ≡ found l.file (rows_fields l.file (l.count - l.i) (4 + 8 * l.i) l.next l.before) l.count)
