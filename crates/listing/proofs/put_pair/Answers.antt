-- `put_pair` meets its contract: one field behind the other. Assumes nothing.
use Rattle.text.proofs.PutLaws.{then}
use Rattle.listing.proofs.put_pair.Goals as goal

pub returns : goal.returns
returns c = rw (← c.number-2.ensures.value, ← c.number.ensures.value) (then c.signed.ensures c.signed-2.ensures)
