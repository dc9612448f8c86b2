-- `reading_in` meets its contract: what is read of each kind holds whatever the unit. Assumes nothing.
use Rattle.cell.proofs.reading_in.Goals as goal

pub returns-in-1 : goal.returns-in-1
returns-in-1 c = λ m. rw c.in-1.is (c.wheelhouse_in.ensures c.args.unit m)

pub returns-in-2 : goal.returns-in-2
returns-in-2 c = λ m. rw c.in-2.is (c.pair_in.ensures c.args.unit m)

pub returns-in-3 : goal.returns-in-3
returns-in-3 c = λ m. rw c.in-3.is (c.pair_in-in-3.ensures c.args.unit m)

pub returns-in-4 : goal.returns-in-4
returns-in-4 c = λ m. rw c.in-4.is (c.dry_bulb_in.ensures c.args.unit m)

pub returns-in-5 : goal.returns-in-5
returns-in-5 c = λ m. rw c.in-5.is (c.wet_bulb_in.ensures c.args.unit m)
