-- `put_record` meets its contract: letter, minute, body and end, one behind the other. Assumes nothing.
use Rattle.text.proofs.PutLaws.{then}
use borrow.Author.Tests.{eq-eqb, ne_eqb}
use Rattle.listing.specs.Lines.{figures_line}
use Rattle.listing.proofs.put_record.Goals as goal

pub returns-then-r-eq0 : goal.returns-then-r-eq0
unfolding figures_line
returns-then-r-eq0 c = rw (eq-eqb _ 0 c.if-r-eq0.true) c.bytes.ensures

pub returns : goal.returns
unfolding figures_line
returns c =
    rw (ne_eqb _ 0 c.if-r-eq0.false, ← c.letter.ensures)
    (then c.byte.ensures (then c.field.ensures (then c.put_body.ensures c.byte-2.ensures)))
