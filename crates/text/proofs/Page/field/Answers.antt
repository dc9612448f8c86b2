-- `Page::field` meets its contract: a space, then the digits. Assumes nothing.
use Rattle.text.proofs.PutLaws.{then}
use Rattle.text.proofs.Page.field.Goals as goal

pub returns : goal.returns
returns c = then c.byte.ensures c.natural.ensures
