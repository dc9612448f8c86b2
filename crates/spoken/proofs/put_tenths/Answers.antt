-- `put_tenths` meets its contract: the whole part, the point and the last digit, one behind the other. Assumes nothing.
use Rattle.spoken.proofs.FigureLaws.{last_digit}
use Rattle.text.proofs.PutLaws.{then}
use Rattle.spoken.proofs.put_tenths.Goals as goal

pub returns : goal.returns
returns c = then c.natural.ensures (then c.byte.ensures (rw (last_digit c.args.n) at c.natural-2.ensures))
