-- `entry_over_water` meets its contract: the one test over the whole table, carried to the place. Assumes nothing.
use Rattle.vapour.specs.Vapour.{water}
use Rattle.vapour.proofs.EachEntry.{entry_is}
use Rattle.vapour.proofs.TableLaws.{near_at, entry_test}
use Rattle.vapour.proofs.entry_over_water.Goals as goal

pub returns : goal.returns
unfolding entry_test
returns c = rw entry_is (near_at water _ _ tt c.requires)
