-- `put_word` meets its contract: by its test. Assumes nothing.
use borrow.Author.Tests.{eq-eqb}
use Rattle.text.proofs.PutLaws.{then}
use Rattle.answer.proofs.put_word.Goals as goal

pub returns-then-number-eq0 : goal.returns-then-number-eq0
returns-then-number-eq0 c = rw (eq-eqb _ _ c.if-number-eq0.true) (then c.bytes.ensures c.byte.ensures)
