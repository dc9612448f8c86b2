-- `word_end` meets its contract: where what is left of the word ends, the word ends. Assumes nothing.
use mathlib.Core.Path.{◌≡◌}
use Rattle.line.specs.Words.{blank, end_from}
use Rattle.line.proofs.word_end.Given as goal

abbrev pub invariant-loop-i : goal.invariant-loop-i
invariant-loop-i l = end_from blank l.line l.i ≡ end_from blank l.line l.at
