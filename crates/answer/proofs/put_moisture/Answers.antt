-- `put_moisture` meets its contract: one field behind the other, and the end of the line. Assumes nothing.
use Rattle.text.proofs.PutLaws.{then}
use Rattle.answer.proofs.put_moisture.Goals as goal

pub returns : goal.returns
returns c =
    rw (← c.number.ensures.value)
    (then c.field.ensures (then c.field-2.ensures (then c.field-3.ensures (then c.field-4.ensures (then c.signed.ensures c.byte.ensures)))))
