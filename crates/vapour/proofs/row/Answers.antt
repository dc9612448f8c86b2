-- `row` meets its contract: one test over the 64 places of each row. Assumes nothing.
use Rattle.vapour.proofs.EachEntry.{entry_is}
use Rattle.vapour.proofs.ThresholdLaws.{row_test, rows_by_test}
use Rattle.vapour.proofs.row.Goals as goal

pub returns : goal.returns
unfolding row_test
returns c = rw entry_is (rows_by_test _ _ _ tt c.requires)
