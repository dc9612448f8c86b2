-- `put_missing` meets its contract: channel, words and minute, one behind the other. Assumes nothing.
use Rattle.text.proofs.PutLaws.{then}
use Rattle.spoken.proofs.put_missing.Goals as goal

pub returns : goal.returns
returns c = then c.put_channel.ensures (then c.bytes.ensures c.natural.ensures)
