-- `Page::number` meets its contract: a minus where there is one, then the size. Assumes nothing.
use mathlib.Core.Path.{sym, ◌∙◌}
use Rattle.text.proofs.DecimalLaws.{put_minus, put_plain}
use Rattle.text.proofs.Page.number.Goals as goal

pub returns-then-is_minus : goal.returns-then-is_minus
returns-then-is_minus c = put_minus c.args.n.v (sym c.is_minus.ensures ∙ c.if-is_minus.true) c.size-size.ensures c.byte.ensures c.natural.ensures

pub returns : goal.returns
returns c = put_plain c.args.n.v (sym c.is_minus.ensures ∙ c.if-is_minus.false) c.size-size.ensures c.natural-2.ensures
