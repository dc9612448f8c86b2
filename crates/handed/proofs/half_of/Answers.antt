-- `half_of` meets its contract: a number that fits is its size. Assumes nothing.
use mathlib.Core.Path.{ap}
use lib.IntN.{pos, nat_abs}
use lib.Dec.{lit≤}
use native.Mathlib.Omega.{arith}
use Rattle.number.proofs.Sizes.{within_size}
use Rattle.handed.proofs.half_of.Goals as goal

pub overflow_cast-result : goal.overflow_cast-result
overflow_cast-result c =
    let z = c.args.n.v in
    let s = within_size (pos 0) (pos 65535) z 65535 (lit≤ tt) (lit≤ tt) c.requires in
    omega (arith, s, c.size.ensures, ap nat_abs c.number.ensures.value)
