-- `true_wind` meets its contract: neither speed is above its limit. Assumes nothing.
use mathlib.Core.Path.{◌≡◌, sym, ◌∙◌}
use mathlib.Core.Bool.{true}
use Prim.Native.Nat.{◌≤◌}
use native.Mathlib.Omega.{arith}
use lib.IntN.{nat_abs}
use Rattle.quantity.specs.Limits.{knots, metres_per_second}
use Rattle.wind.specs.Answer.{within_limits}
use Rattle.wind.proofs.LimitLaws.{speeds_most}
use Rattle.wind.proofs.true_wind.Goals as goal
use Rattle.wind.proofs.true_wind.Goals.{After-parts-k, Else-not-within_limits}

inside : (c : Else-not-within_limits) → within_limits c.args.course.0 c.args.ship.0 c.args.apparent.0 c.args.from_bow.0 ≡ true
inside c = sym c.within_limits.ensures ∙ c.if-not-within_limits.false

most : (c : Else-not-within_limits) → (c.args.ship.0 ≤ nat_abs knots.high) × (c.args.apparent.0 ≤ nat_abs metres_per_second.high)
most c =
    let a = c.args in
    speeds_most a.course.0 a.ship.0 a.apparent.0 a.from_bow.0 (inside c)

pub speed-v-requires : goal.speed-v-requires
speed-v-requires c = omega (arith, most (goal.at.speed-v-requires c).Else-not-within_limits, c.parts-s.ensures, c.parts-k.ensures, c.keep-r.ensures)

pub angle-a-requires : goal.angle-a-requires
angle-a-requires c = omega (arith, most (goal.at.angle-a-requires c).Else-not-within_limits, c.parts-s.ensures, c.parts-k.ensures, c.keep-r.ensures)
