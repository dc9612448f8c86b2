-- `put_body` meets its contract: kind by kind. Assumes nothing.
use borrow.Author.Tests.{ne_eqb}
use borrow.Author.Rules.{rules}
use Rattle.listing.proofs.put_body.Goals as goal

pub returns-in-1 : goal.returns-in-1
returns-in-1 c = rw (c.in-1.is, ← c.number.ensures.value) c.signed.ensures

pub returns-in-4 : goal.returns-in-4
returns-in-4 c = rw c.in-4.is c.put_humidity.ensures

pub returns-in_default : goal.returns-in_default
returns-in_default c = rw (ne_eqb c.args.r.kind 1 (search rules), ne_eqb c.args.r.kind 4 (search rules)) c.put_pair.ensures
