-- `place_of` meets its contract: the records passed all stand before, and the place among the rest is still to be found.
-- Assumes nothing.
use mathlib.Core.Path.{◌≡◌, ap}
use Prim.Native.Nat.{◌+◌}
use native.Mathlib.Omega.{arith}
use lib.ListN.{length}
use Rattle.writer.proofs.RestLaws.{rest, at, rest_whole, rest_next, rest_done}
use Rattle.watchlog.specs.Placing.{place_of}
use Rattle.watchlog.proofs.InsertLaws.{place_here, place_later, place_end}
use Rattle.watchlog.proofs.place_of.Goals as goal

pub loop-i-init : goal.loop-i-init
loop-i-init c = omega (arith, ap (place_of c.args.rank) (rest_whole c.args.records c.args.count))

pub returns-then-rank-rank_of : goal.returns-then-rank-rank_of
returns-then-rank-rank_of c =
    let l = c.loop-i in
    let n : length c.args.records ≡ 48 = c.well_formed.0.1.0.1 in
    let next = rest_next c.args.records c.args.count l.i (omega arith) (omega arith) in
    let here = place_here c.args.rank (at c.args.records l.i) (rest c.args.records c.args.count (l.i + 1)) (omega arith) in
    omega (arith, ap (place_of c.args.rank) next)

pub loop-i-preserved : goal.loop-i-preserved
loop-i-preserved c =
    let l = c.loop-i in
    let n : length c.args.records ≡ 48 = c.well_formed.0.1.0.1 in
    let next = rest_next c.args.records c.args.count l.i (omega arith) (omega arith) in
    let later = place_later c.args.rank (at c.args.records l.i) (rest c.args.records c.args.count (l.i + 1)) (omega arith) in
    omega (arith, ap (place_of c.args.rank) next)

pub returns : goal.returns
returns c =
    let l = c.loop-i in
    omega (arith, ap (place_of c.args.rank) (rest_done c.args.records c.args.count l.i (omega arith)), place_end c.args.rank)
