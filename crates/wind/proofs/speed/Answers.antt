-- `speed` meets its contract: the sum is a plain number, and each part of it fits. Assumes nothing.
use Prim.Native.Nat.{◌/◌, ◌<◌}
use native.Mathlib.Omega.{arith}
use Rattle.wind.specs.Work.{too_many}
use Rattle.wind.proofs.SpeedLaws.{Products, products, million, million_small, cosine_most, nearest}
use Rattle.wind.proofs.speed.Goals as goal
use Rattle.wind.proofs.speed.Goals.{After-cosine-c}

bounds : (c : After-cosine-c) → Products c.args.s c.args.k c.cosine-c.result.up c.cosine-c.result.down
bounds c =
    let a = c.args in
    products a.s a.k c.cosine-c.result.up c.cosine-c.result.down c.requires.0 c.requires.1 (cosine_most a.s a.k a.r c.cosine-c.ensures)

small : (c : After-cosine-c) → million c.args.s c.args.k c.cosine-c.result.up c.cosine-c.result.down / 390625000000 < too_many
small c =
    let a = c.args in
    million_small a.s a.k c.cosine-c.result.up c.cosine-c.result.down c.requires.0 c.requires.1 (omega (arith, cosine_most a.s a.k a.r c.cosine-c.ensures))

pub overflow_mul-plus-4 : goal.overflow_mul-plus-4
overflow_mul-plus-4 c = omega (arith, bounds (goal.at.overflow_mul-plus-4 c).After-cosine-c)

pub overflow_add-plus-2 : goal.overflow_add-plus-2
overflow_add-plus-2 c = omega (arith, bounds (goal.at.overflow_add-plus-2 c).After-cosine-c)

pub overflow_mul-minus : goal.overflow_mul-minus
overflow_mul-minus c = omega (arith, bounds (goal.at.overflow_mul-minus c).After-cosine-c)

pub overflow_sub-plus : goal.overflow_sub-plus
overflow_sub-plus c = omega (arith, bounds (goal.at.overflow_sub-plus c).After-cosine-c)

pub overflow_cast-plus : goal.overflow_cast-plus
unfolding million
overflow_cast-plus c = omega (arith, small (goal.at.overflow_cast-plus c).After-cosine-c)

pub root-requires : goal.root-requires
unfolding million
root-requires c = omega (arith, small (goal.at.root-requires c).After-cosine-c)

pub returns : goal.returns
unfolding million
returns c =
    nearest c.args.s c.args.k c.args.r c.cosine-c.ensures c.root.result c.root.ensures
