-- `is_dew_point` meets its contract: outside the table there is no dew point. Assumes nothing.
use mathlib.Core.Path.{sym, ap, ◌∙◌}
use Rattle.quantity.specs.Limits.{inside, bulb}
use Rattle.vapour.proofs.RangeLaws.{range_then}
use Rattle.vapour.proofs.DewLaws.{outside}
use Rattle.vapour.proofs.is_dew_point.Goals as goal

pub returns-then-not-holds-2 : goal.returns-then-not-holds-2
returns-then-not-holds-2 c =
    λ range d.
    let at = range_then _ range in
    outside _ _ at.0 at.1 (sym (ap (inside bulb) c.number-tenths.ensures.value) ∙ sym c.holds-2.ensures ∙ c.if-not-holds-2.true) d
