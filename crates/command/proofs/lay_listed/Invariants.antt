-- `lay_listed` meets its contract: among the forms that are left, and nothing is laid before one is found. Assumes nothing.
use mathlib.Core.Path.{◌≡◌}
use Prim.Native.Nat.{◌+◌, ◌-◌}
use lib.ListN.{length}
use Rattle.line.specs.Words.{fields_at}
use Rattle.command.specs.Forms.{list_told}
use Rattle.command.proofs.lay_listed.Given as goal

abbrev pub invariant-loop-from : goal.invariant-loop-from
invariant-loop-from l = (l.numbers ≡ l.initial.numbers) × (list_told (fields_at l.forms l.from) l.word ≡ list_told (fields_at l.forms l.at) l.word)

abbrev pub decreases-loop-from : goal.decreases-loop-from
decreases-loop-from l = length l.forms + 1 - l.from
