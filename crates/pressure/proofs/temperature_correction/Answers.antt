-- `temperature_correction` meets its contract: the product of two kept numbers fits. Assumes nothing.
use native.Mathlib.Omega.{arith}
use Rattle.pressure.specs.Pressure.{temperature}
use Rattle.certificate.proofs.SizeLaws.{product}
use Rattle.pressure.proofs.temperature_correction.Goals as goal

pub times-requires : goal.times-requires
times-requires c = omega (arith, product c.number.ensures.size c.number-2.ensures.size)

pub over-requires : goal.over-requires
over-requires c = omega (arith, product c.number.ensures.size c.number-2.ensures.size)

pub returns : goal.returns
unfolding temperature
returns c = rw (c.over.ensures.value, c.times.ensures.value, c.number-2.ensures.value, c.number.ensures.value)
