-- `put_hundredths` meets its contract: the whole part, the point and two digits, one behind the other. Assumes nothing.
use Prim.Native.Nat.{◌/◌}
use Rattle.spoken.proofs.FigureLaws.{last_digit}
use Rattle.text.proofs.PutLaws.{then}
use Rattle.spoken.proofs.put_hundredths.Goals as goal

pub returns : goal.returns
returns c = then c.natural.ensures (then c.byte.ensures (then (rw (last_digit (c.args.n / 10)) at c.natural-2.ensures) (rw (last_digit c.args.n) at c.natural-3.ensures)))
