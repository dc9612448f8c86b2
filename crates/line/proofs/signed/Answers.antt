-- `signed` meets its contract: by the sign, the digits up to its limit. Assumes nothing.
use mathlib.Core.Path.{sym, ◌∙◌}
use Rattle.std.specs.Prelude.{Some, None}
use Rattle.line.proofs.NumeralLaws.{signed_below, signed_above}
use Rattle.line.proofs.signed.Goals as goal

pub returns-in_err-n : goal.returns-in_err-n
returns-in_err-n c =
    c.from_residual.ensures
    ∙ signed_below c.args.text.now None (sym c.minus.ensures ∙ c.if-minus.true) (sym c.in_err-n.was ∙ c.natural.ensures)

pub returns-then-minus : goal.returns-then-minus
returns-then-minus c =
    signed_below c.args.text.now (Some c.in_ok-n.n) (sym c.minus.ensures ∙ c.if-minus.true) (sym c.in_ok-n.was ∙ c.natural.ensures)

pub returns-in_err-n-2 : goal.returns-in_err-n-2
returns-in_err-n-2 c =
    c.from_residual-in_err-n-2.ensures
    ∙ signed_above c.args.text.now None (sym c.minus.ensures ∙ c.if-minus.false) (sym c.in_err-n-2.was ∙ c.natural-2.ensures)

pub returns : goal.returns
returns c =
    signed_above c.args.text.now (Some c.in_ok-n-2.n) (sym c.minus.ensures ∙ c.if-minus.false) (sym c.in_ok-n-2.was ∙ c.natural-2.ensures)
