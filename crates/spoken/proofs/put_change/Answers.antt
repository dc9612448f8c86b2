-- `put_change` meets its contract: a plus where it rises. Assumes nothing.
use mathlib.Core.Path.{◌≡◌}
use mathlib.Core.Bool.{true, false}
use lib.IntN.{pos}
use lib.Signed.{lt_z, le_z}
use borrow.Author.Rules.{rules}
use Rattle.spoken.proofs.FigureLaws.{no_rise, rise}
use Rattle.text.proofs.PutLaws.{then}
use Rattle.spoken.proofs.put_change.Goals as goal

pub returns-then-le : goal.returns-then-le
returns-then-le c =
    let falls : le_z c.args.n.v (pos 0) ≡ true = search rules in
    rw (no_rise c.args.n.v falls) c.put_tenths_of.ensures

pub returns : goal.returns
returns c =
    let rises : le_z c.args.n.v (pos 0) ≡ false = search rules in
    rw (rise c.args.n.v rises) (then c.byte.ensures c.put_tenths_of-2.ensures)
