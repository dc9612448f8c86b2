-- `rounded_once` meets its contract: the product fits, and is rounded. Assumes nothing.
use mathlib.Core.Path.{ap}
use Prim.Native.Nat.{◌*◌, ◌^◌, ◌≤◌}
use native.Mathlib.Omega.{arith}
use native.Mathlib.Nat.{le_trans, le_of_eq}
use lib.IntN.{nat_abs}
use Rattle.certificate.proofs.SizeLaws.{product}
use Rattle.pressure.proofs.SizeLaws.{factor_size}
use Rattle.pressure.proofs.rounded_once.Goals as goal
use Rattle.pressure.proofs.rounded_once.Goals.{After-in_hectopascals-factor}

-- the product is no larger than this
fits : (c : After-in_hectopascals-factor) → nat_abs c.args.parts.v * nat_abs c.in_hectopascals-factor.result.0.v ≤ 2 ^ 41 * 13332
fits c = product c.requires (le_trans (le_of_eq (ap nat_abs c.in_hectopascals-factor.ensures)) (factor_size c.args.unit))

pub times-requires : goal.times-requires
times-requires c = omega (arith, fits (goal.at.times-requires c).After-in_hectopascals-factor)

pub over-requires : goal.over-requires
over-requires c = omega (arith, fits (goal.at.over-requires c).After-in_hectopascals-factor, c.times.ensures.size)

pub returns : goal.returns
returns c = rw (c.over.ensures.value, c.times.ensures.value, c.in_hectopascals-factor.ensures)
