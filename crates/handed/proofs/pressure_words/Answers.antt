-- `pressure_words` meets its contract: word by word. Assumes nothing.
use native.Mathlib.Omega.{arith}
use Rattle.handed.proofs.WordLaws.{pressure_are}
use Rattle.handed.proofs.pressure_words.Goals as goal

pub returns : goal.returns
returns c = pressure_are c.args.minute c.args.pressure (omega arith)
