-- `may_end` meets its contract: by the letter, where there is one. Assumes nothing.
use mathlib.Core.Path.{sym, ◌∙◌}
use native.Mathlib.Omega.{arith}
use borrow.Author.Tests.{le-leb}
use Rattle.line.specs.Words.{colon}
use Rattle.line.proofs.EndLaws.{before_short}
use Rattle.command.proofs.FormLaws.{may_end_past, may_end_letter}
use Rattle.command.proofs.may_end.Goals as goal

pub bounds-form-number : goal.bounds-form-number
bounds-form-number c = omega (arith, c.requires, before_short colon c.args.form.now)

pub returns-then-fixed-number : goal.returns-then-fixed-number
returns-then-fixed-number c =
    le-leb c.args.fixed c.args.number c.if-fixed-number.true ∙ sym (may_end_past c.args.form.now c.args.number (omega (arith, c.requires)))

pub returns-else-fixed-number : goal.returns-else-fixed-number
returns-else-fixed-number c = sym (may_end_letter c.args.form.now c.args.number (omega (arith, c.requires)))
