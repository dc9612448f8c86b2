-- `put_humidity` meets its contract: its fields one behind the other. Assumes nothing.
use Rattle.text.proofs.PutLaws.{then}
use Rattle.listing.proofs.put_humidity.Goals as goal

pub returns : goal.returns
returns c = rw (← c.number.ensures.value) (then c.put_pair.ensures (then c.put_pair-2.ensures c.signed.ensures))
