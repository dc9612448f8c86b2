-- `wind_words` meets its contract: word by word. Assumes nothing.
use native.Mathlib.Omega.{arith}
use Rattle.handed.proofs.WordLaws.{wind_are}
use Rattle.handed.proofs.wind_words.Goals as goal

pub returns : goal.returns
returns c = wind_are c.args.minute c.args.speed c.args.direction (omega arith) (omega arith)
