-- `Page::signed` meets its contract: a space, then the number. Assumes nothing.
use Rattle.text.proofs.PutLaws.{then}
use Rattle.text.proofs.Page.signed.Goals as goal

pub returns : goal.returns
returns c = then c.byte.ensures c.number.ensures
