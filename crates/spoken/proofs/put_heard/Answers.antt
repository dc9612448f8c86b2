-- `put_heard` meets its contract: the last is that of every other number. Assumes nothing.
use borrow.Author.Tests.{ne_eqb}
use borrow.Author.Rules.{rules}
use Rattle.spoken.proofs.put_heard.Goals as goal

pub returns-in_default : goal.returns-in_default
returns-in_default c = rw (ne_eqb c.args.number 1 (search rules), ne_eqb c.args.number 2 (search rules), ne_eqb c.args.number 3 (search rules), ne_eqb c.args.number 4 (search rules), ne_eqb c.args.number 5 (search rules), ne_eqb c.args.number 6 (search rules), ne_eqb c.args.number 7 (search rules)) c.bytes-in_default.ensures
