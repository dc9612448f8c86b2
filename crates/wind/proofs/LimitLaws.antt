-- What the limits say of the numbers. Assumes nothing.
use mathlib.Core.Path.{◌≡◌}
use mathlib.Core.Bool.{true, ◌&&◌}
use Prim.Native.Nat.{ℕ, ◌≤◌}
use lib.IntN.{pos, nat_abs}
use Rattle.number.proofs.Sizes.{and_true}
use Rattle.quantity.specs.Limits.{inside, degrees, knots, metres_per_second}
use Rattle.quantity.proofs.LimitLaws.{up_to}
use Rattle.wind.specs.Answer.{within_limits}

-- neither speed is above its upper limit
pub speeds_most : (course ship apparent bow : ℕ) → within_limits course ship apparent bow ≡ true →
    (ship ≤ nat_abs knots.high) × (apparent ≤ nat_abs metres_per_second.high)
unfolding within_limits
speeds_most course ship apparent bow e =
    let first = inside degrees (pos course) && inside knots (pos ship) in
    let three = (and_true (first && inside metres_per_second (pos apparent)) (inside degrees (pos bow)) e).0 in
    let two = and_true first (inside metres_per_second (pos apparent)) three in
    let inner = and_true (inside degrees (pos course)) (inside knots (pos ship)) two.0 in
    (up_to ship (nat_abs knots.high) inner.1, up_to apparent (nat_abs metres_per_second.high) two.1)
