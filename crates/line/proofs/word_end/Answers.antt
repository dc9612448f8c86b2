-- `word_end` meets its contract: where what is left of the word ends, the word ends. Assumes nothing.
use mathlib.Core.Path.{refl, sym, ◌∙◌}
use Rattle.line.specs.Words.{blank}
use Rattle.line.proofs.EndLaws.{end_none, end_here, end_on}
use native.Mathlib.Omega.{arith}
use Rattle.line.proofs.word_end.Goals as goal

pub loop-i-init : goal.loop-i-init
loop-i-init c = refl

pub returns-then-blank : goal.returns-then-blank
returns-then-blank c = sym (end_here blank _ _ c.loop-i-test.true (sym c.blank.ensures ∙ c.if-blank.true)) ∙ c.loop-i.invariant

pub loop-i-preserved : goal.loop-i-preserved
loop-i-preserved c = sym (end_on blank _ _ c.loop-i-test.true (sym c.blank.ensures ∙ c.if-blank.false)) ∙ c.loop-i.invariant

pub returns : goal.returns
returns c = c.max.ensures ∙ end_none blank _ c.loop-i.i c.args.at (omega arith) c.loop-i.auto.i-end c.loop-i.invariant
