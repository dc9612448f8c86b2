-- `put_tenths_of` meets its contract: a minus where there is one, then the tenths. Assumes nothing.
use mathlib.Core.Path.{◌≡◌}
use mathlib.Core.Bool.{true, false}
use lib.IntN.{pos}
use lib.Signed.{lt_z, le_z}
use borrow.Author.Rules.{rules}
use Rattle.spoken.proofs.FigureLaws.{below_zero, from_zero}
use Rattle.text.proofs.PutLaws.{then}
use Rattle.spoken.proofs.put_tenths_of.Goals as goal

pub returns-then-below : goal.returns-then-below
returns-then-below c =
    let minus : lt_z c.args.n.v (pos 0) ≡ true = search rules in
    rw (below_zero c.args.n.v minus, ← c.size-size.ensures) (then c.byte.ensures c.put_tenths.ensures)

pub returns : goal.returns
returns c =
    let none : lt_z c.args.n.v (pos 0) ≡ false = search rules in
    rw (from_zero c.args.n.v none, ← c.size-size.ensures) c.put_tenths-2.ensures
