-- `natural` meets its contract: the digits that are left, behind the number so far, say what all of them say. Assumes nothing.
use mathlib.Core.Path.{◌≡◌}
use Prim.Native.Nat.{◌≤◌}
use lib.ListN.{drop}
use Rattle.line.specs.Numeral.{natural, up_to}
use Rattle.line.proofs.NumeralLaws.{natural_from}
use Rattle.line.proofs.natural.Given as goal

abbrev pub invariant-loop-b : goal.invariant-loop-b
invariant-loop-b l = (l.n ≤ l.most) × (up_to l.most (natural_from l.n (drop l.b-index l.digits)) ≡ up_to l.most (natural l.digits))
