-- `put_pressure` meets its contract: figure and unit, one behind the other. Assumes nothing.
use Rattle.text.proofs.PutLaws.{then}
use Rattle.spoken.proofs.put_pressure.Goals as goal

pub returns : goal.returns
returns c = then c.put_tenths_of.ensures c.bytes.ensures
