-- `figures` meets its contract: an e in the range has a dew point, and a percentage of at most 100. Assumes nothing.
use native.Mathlib.Omega.{arith}
use Rattle.vapour.proofs.RangeLaws.{relative_most}
use Rattle.humidity.proofs.figures.Goals as goal

pub overflow_cast-result : goal.overflow_cast-result
overflow_cast-result c =
    record { fits = omega (arith, c.relative_humidity.ensures, relative_most c.args.e.0 c.args.saturation.0 (omega arith) c.requires.1) }
