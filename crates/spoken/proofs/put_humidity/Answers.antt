-- `put_humidity` meets its contract: figures and words, one behind the other. Assumes nothing.
use Rattle.text.proofs.PutLaws.{then}
use Rattle.spoken.proofs.put_humidity.Goals as goal

pub returns : goal.returns
returns c = rw (← c.number.ensures.value) (then c.put_vapour.ensures (then c.bytes.ensures (then c.natural.ensures (then c.bytes-2.ensures (then c.put_tenths_of.ensures c.bytes-3.ensures)))))
