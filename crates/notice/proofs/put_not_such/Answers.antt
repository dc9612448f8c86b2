-- `put_not_such` meets its contract: each letter picks its words. Assumes nothing.
use borrow.Author.Tests.{ne_eqb}
use borrow.Author.Rules.{rules}
use Rattle.notice.proofs.put_not_such.Goals as goal

pub returns-in-117 : goal.returns-in-117
returns-in-117 c = rw c.in-117.is c.put_wrong.ensures

pub returns-in-120 : goal.returns-in-120
returns-in-120 c = rw c.in-120.is c.put_wrong-in-120.ensures

pub returns-in_default : goal.returns-in_default
returns-in_default c = rw (ne_eqb c.args.letter 117 (search rules), ne_eqb c.args.letter 120 (search rules)) c.put_wrong-in_default.ensures
