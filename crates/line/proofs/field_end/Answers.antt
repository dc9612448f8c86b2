-- `field_end` meets its contract: where what is left of the field ends, the field ends. Assumes nothing.
use mathlib.Core.Path.{refl, sym, ◌∙◌}
use borrow.Author.Tests.{eq-eqb, ne_eqb}
use Rattle.line.specs.Words.{colon}
use Rattle.line.proofs.EndLaws.{end_none, end_here, end_on}
use native.Mathlib.Omega.{arith}
use Rattle.line.proofs.field_end.Goals as goal

pub loop-i-init : goal.loop-i-init
loop-i-init c = refl

pub returns-then-word-i-eq58 : goal.returns-then-word-i-eq58
returns-then-word-i-eq58 c = sym (end_here colon _ _ c.loop-i-test.true (eq-eqb _ _ c.if-word-i-eq58.true)) ∙ c.loop-i.invariant

pub loop-i-preserved : goal.loop-i-preserved
loop-i-preserved c = sym (end_on colon _ _ c.loop-i-test.true (ne_eqb _ _ c.if-word-i-eq58.false)) ∙ c.loop-i.invariant

pub returns : goal.returns
returns c = c.max.ensures ∙ end_none colon _ c.loop-i.i c.args.at (omega arith) c.loop-i.auto.i-end c.loop-i.invariant
