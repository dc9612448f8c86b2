-- `put_reading` meets its contract: channel by channel, figures and words one behind the other. Assumes nothing.
use borrow.Author.Tests.{eq-eqb, ne_eqb}
use borrow.Author.Rules.{rules}
use Rattle.text.proofs.PutLaws.{then}
use Rattle.spoken.proofs.put_reading.Goals as goal

pub returns-in-2 : goal.returns-in-2
returns-in-2 c = rw (ne_eqb c.args.channel 0 (search rules), eq-eqb c.args.channel 2 (search rules), ← c.number-figure.ensures.value) (then c.put_tenths_of.ensures (then c.bytes.ensures (then c.natural.ensures c.bytes-in-2.ensures)))

pub returns-in-3 : goal.returns-in-3
returns-in-3 c = rw (ne_eqb c.args.channel 0 (search rules), ne_eqb c.args.channel 2 (search rules), eq-eqb c.args.channel 3 (search rules), ← c.number-figure.ensures.value) (then c.put_tenths_of-in-3.ensures (then c.bytes-in-3.ensures (then c.natural-in-3.ensures c.bytes-in-3-2.ensures)))

pub returns-in-5 : goal.returns-in-5
returns-in-5 c = rw (ne_eqb c.args.channel 0 (search rules), ne_eqb c.args.channel 2 (search rules), ne_eqb c.args.channel 3 (search rules), eq-eqb c.args.channel 5 (search rules), ← c.number-figure.ensures.value) (then c.put_tenths_of-in-5.ensures (then c.bytes-in-5.ensures c.put_wick.ensures))

pub returns-in_default : goal.returns-in_default
returns-in_default c = rw (ne_eqb c.args.channel 0 (search rules), ne_eqb c.args.channel 2 (search rules), ne_eqb c.args.channel 3 (search rules), ne_eqb c.args.channel 5 (search rules), ← c.number-figure.ensures.value) (then c.put_tenths_of-in_default.ensures c.bytes-in_default.ensures)
