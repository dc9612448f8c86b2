-- `Number::over` meets its contract: rounding makes no number larger. Assumes nothing.
use native.Mathlib.Omega.{arith}
use Rattle.number.specs.Round.{nearest}
use Rattle.number.proofs.RoundLaws.{nearest_le, rounded_signed}
use Rattle.number.proofs.Number.over.Goals as goal

pub returns : goal.returns
unfolding nearest
returns c =
    let args = c.args in
    let low = nearest_le c.size-n.result args.den c.requires.0 in
    record { value = cc (rounded_signed args.self.v args.den); size = omega (arith, low) }
