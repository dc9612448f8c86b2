-- `next_word` meets its contract: from the next byte that is no blank to the blank behind it. Assumes nothing.
use Rattle.line.proofs.WordLaws.{word_found}
use Rattle.line.proofs.next_word.Goals as goal

pub returns : goal.returns
returns c = word_found _ _ _ _ (rw c.in_ok-from.was at c.word_start.ensures) c.word_end-to.ensures
