-- `count` meets its contract: a list of records is as long as it is made. Assumes nothing.
use mathlib.Core.Path.{sym}
use Rattle.handed.proofs.WordLaws.{length_records}
use Rattle.handed.proofs.count.Goals as goal

pub returns : goal.returns
returns c = sym (length_records c.args.words.now)
