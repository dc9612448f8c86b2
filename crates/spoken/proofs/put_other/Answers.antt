-- `put_other` meets its contract: a number that is none as it is. Assumes nothing.
use borrow.Author.Tests.{ne_eqb}
use borrow.Author.Rules.{rules}
use Rattle.text.proofs.PutLaws.{then}
use Rattle.spoken.proofs.put_other.Goals as goal

pub returns-in_default : goal.returns-in_default
returns-in_default c = rw (ne_eqb c.args.number 9 (search rules), ne_eqb c.args.number 10 (search rules), ne_eqb c.args.number 23 (search rules), ne_eqb c.args.number 24 (search rules), ne_eqb c.args.number 25 (search rules), ne_eqb c.args.number 254 (search rules), ne_eqb c.args.number 255 (search rules)) (then c.bytes-in_default.ensures c.natural.ensures)
