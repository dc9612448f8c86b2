-- `field_end` meets its contract: where what is left of the field ends, the field ends. Assumes nothing.
use mathlib.Core.Path.{◌≡◌}
use Rattle.line.specs.Words.{field_end}
use Rattle.line.proofs.field_end.Given as goal

abbrev pub invariant-loop-i : goal.invariant-loop-i
invariant-loop-i l = field_end l.word l.i ≡ field_end l.word l.at
