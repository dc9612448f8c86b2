-- `put_minutes` meets its contract: the number, then the word. Assumes nothing.
use borrow.Author.Rules.{rules}
use borrow.Author.Tests.{eq-eqb, ne_eqb}
use Rattle.text.proofs.PutLaws.{then}
use Rattle.spoken.proofs.put_minutes.Goals as goal

pub returns-in-1 : goal.returns-in-1
returns-in-1 c = rw (eq-eqb c.args.n 1 (search rules)) (then c.natural.ensures c.bytes.ensures)

pub returns-in_default : goal.returns-in_default
returns-in_default c = rw (ne_eqb c.args.n 1 (search rules)) (then c.natural.ensures c.bytes-in_default.ensures)
