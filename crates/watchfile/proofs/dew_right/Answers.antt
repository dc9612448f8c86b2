-- `dew_right` meets its contract: the dew point of e is every rule's. Assumes nothing.
use Rattle.watchfile.proofs.DewRules.{test_right}
use Rattle.watchfile.proofs.dew_right.Goals as goal

pub returns : goal.returns
returns c =
    λ rule ruled.
    let q = c.args in
    test_right rule ruled q.e q.dew.v c.is_dew_point.result c.is_dew_point.ensures
