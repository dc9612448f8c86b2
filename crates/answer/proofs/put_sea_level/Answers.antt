-- `put_sea_level` meets its contract: letter and minute, pressure and end, one behind the other. Assumes nothing.
use Rattle.text.proofs.PutLaws.{then}
use Rattle.answer.proofs.put_sea_level.Goals as goal

pub returns : goal.returns
returns c = then c.put_head.ensures (then c.signed.ensures c.byte.ensures)
