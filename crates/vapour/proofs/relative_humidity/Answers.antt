-- `relative_humidity` meets its contract: it is the rounding rule, where there is a saturation. Assumes nothing.
use native.Mathlib.Omega.{arith}
use Rattle.number.specs.Round.{nearest}
use Rattle.vapour.proofs.RangeLaws.{relative_is}
use Rattle.vapour.proofs.relative_humidity.Goals as goal

pub returns : goal.returns
unfolding nearest
returns c =
    let q = c.args in
    rw (relative_is q.e.0 q.saturation.0 (omega arith))
