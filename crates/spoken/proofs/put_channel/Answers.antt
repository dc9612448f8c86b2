-- `put_channel` meets its contract: a channel that is none by its number. Assumes nothing.
use borrow.Author.Tests.{ne_eqb}
use borrow.Author.Rules.{rules}
use Rattle.text.proofs.PutLaws.{then}
use Rattle.spoken.proofs.put_channel.Goals as goal

pub returns-in_default : goal.returns-in_default
returns-in_default c = rw (ne_eqb c.args.channel 0 (search rules), ne_eqb c.args.channel 1 (search rules), ne_eqb c.args.channel 2 (search rules), ne_eqb c.args.channel 3 (search rules), ne_eqb c.args.channel 4 (search rules), ne_eqb c.args.channel 5 (search rules)) (then c.bytes-in_default.ensures c.natural.ensures)
