-- `word` meets its contract: the word with what is left of its number, among the words that are left. Assumes nothing.
use mathlib.Core.Path.{sym, ◌∙◌}
use native.Mathlib.Omega.{arith}
use Rattle.line.proofs.WordLaws.{word_is, word_end_is, number_none, number_here, number_on}
use Rattle.line.proofs.word.Goals as goal

pub returns-then-left-eq0 : goal.returns-then-left-eq0
returns-then-left-eq0 c =
    sym (number_here (word_is c.next_word.ensures c.in-Some.is)) ∙ rw c.if-left-eq0.true at c.loop-place.invariant

pub loop-place-preserved : goal.loop-place-preserved
loop-place-preserved c =
    let l = c.loop-place in
    number_on l.left (omega arith) (word_is c.next_word.ensures c.in-Some.is) ∙ l.invariant

pub returns : goal.returns
returns c =
    let l = c.loop-place in
    sym (number_none l.left (word_end_is c.next_word.ensures c.in_default.is)) ∙ l.invariant
