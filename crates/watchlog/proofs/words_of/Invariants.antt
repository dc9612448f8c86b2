-- `words_of` meets its contract: the records so far are laid, and behind them stand zeros. Assumes nothing.
use Rattle.watchlog.specs.Places.{Laid}
use Rattle.watchlog.proofs.words_of.Given as goal

abbrev pub invariant-loop-i : goal.invariant-loop-i
invariant-loop-i l = Laid l.records l.i l.words
