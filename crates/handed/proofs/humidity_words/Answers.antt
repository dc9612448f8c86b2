-- `humidity_words` meets its contract: word by word. Assumes nothing.
use native.Mathlib.Omega.{arith}
use Rattle.handed.proofs.WordLaws.{humidity_are}
use Rattle.handed.proofs.humidity_words.Goals as goal

pub returns : goal.returns
returns c = let q = c.args in humidity_are q.minute q.e q.saturation q.deficit q.relative c.word_of-fifth.result q.dew (omega arith) (omega arith) (omega arith) (omega arith) c.word_of-fifth.ensures.0 c.word_of-fifth.ensures.1
