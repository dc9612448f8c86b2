-- `put_barometer` meets its contract: figure and unit, one behind the other. Assumes nothing.
use borrow.Author.Tests.{eq-eqb, ne_eqb}
use borrow.Author.Rules.{rules}
use Rattle.text.proofs.PutLaws.{then}
use Rattle.spoken.proofs.put_barometer.Goals as goal

pub returns-in-0 : goal.returns-in-0
returns-in-0 c = rw (eq-eqb c.args.unit 0 (search rules)) (then c.put_tenths_of.ensures c.bytes.ensures)

pub returns-in_default : goal.returns-in_default
returns-in_default c = rw (ne_eqb c.args.unit 0 (search rules)) (then c.put_tenths_of.ensures c.bytes-in_default.ensures)
