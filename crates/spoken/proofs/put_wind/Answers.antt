-- `put_wind` meets its contract: calm, or figures and words, one behind the other. Assumes nothing.
use borrow.Author.Tests.{ne_eqb}
use borrow.Author.Rules.{rules}
use Rattle.text.proofs.PutLaws.{then}
use Rattle.spoken.proofs.put_wind.Goals as goal

pub returns : goal.returns
returns c = rw (ne_eqb c.args.speed 0 (search rules)) (then c.put_tenths.ensures (then c.bytes-2.ensures (then c.natural.ensures c.bytes-3.ensures)))
