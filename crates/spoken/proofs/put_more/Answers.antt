-- `put_more` meets its contract: the place of a broken file behind its words. Assumes nothing.
use borrow.Author.Tests.{eq-eqb, ne_eqb}
use borrow.Author.Rules.{rules}
use Rattle.text.proofs.PutLaws.{then}
use Rattle.spoken.proofs.put_more.Goals as goal

pub returns-in-18 : goal.returns-in-18
returns-in-18 c = rw (ne_eqb c.args.number 11 (search rules), ne_eqb c.args.number 12 (search rules), ne_eqb c.args.number 16 (search rules), ne_eqb c.args.number 17 (search rules), eq-eqb c.args.number 18 (search rules)) (then c.bytes.ensures c.natural.ensures)
