-- `tendency_words` meets its contract: word by word. Assumes nothing.
use native.Mathlib.Omega.{arith}
use Rattle.handed.proofs.WordLaws.{tendency_are}
use Rattle.handed.proofs.tendency_words.Goals as goal

pub returns : goal.returns
returns c = tendency_are c.args.minute c.args.change c.word_of-first.result c.args.absent c.word_of-first.ensures.0 c.word_of-first.ensures.1 (omega arith)
