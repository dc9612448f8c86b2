-- `threshold` meets its contract: its sum fits. Assumes nothing.
use Prim.Native.Nat.{◌*◌, ◌%◌}
use native.Mathlib.Omega.{arith}
use Rattle.vapour.proofs.ThresholdLaws.{gone_most}
use Rattle.vapour.proofs.threshold.Goals as goal

pub overflow_add-result : goal.overflow_add-result
overflow_add-result c =
    let curve = c.row-curve.result in
    let i = c.args.i in
    omega (arith, c.gone-further.ensures, gone_most curve (1024 * (i % 64)) (omega arith))
