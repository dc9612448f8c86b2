-- `word_start` meets its contract: where the word of what is left starts, the word of all starts. Assumes nothing.
use mathlib.Core.Path.{sym, ◌∙◌}
use Rattle.std.specs.Prelude.{Some, None}
use Rattle.line.proofs.WordLaws.{start_here, start_on, words_past}
use borrow.Author.Rules.{rules}
use Rattle.line.proofs.word_start.Goals as goal

pub loop-i-init : goal.loop-i-init
loop-i-init c = λ r s. s

pub returns-then-not-blank : goal.returns-then-not-blank
returns-then-not-blank c =
    c.loop-i.invariant (Some c.loop-i.i) (start_here _ _ c.loop-i-test.true (sym c.blank.ensures ∙ c.if-not-blank.true))

pub loop-i-preserved : goal.loop-i-preserved
loop-i-preserved c =
    λ r s. c.loop-i.invariant r (start_on _ _ c.loop-i-test.true (sym c.blank.ensures ∙ c.if-not-blank.false) r s)

pub returns : goal.returns
returns c = c.loop-i.invariant None (words_past _ c.loop-i.i (search rules))
