-- `line` meets its contract: a difference of two readings has 33 bits, and each product 48. Assumes nothing.
use native.Mathlib.Omega.{arith}
use Rattle.certificate.proofs.line.Goals as goal

pub returns : goal.returns
returns c =
    record {
      value = rw (c.plus.ensures.value, c.weighed-2.ensures.value, c.weighed.ensures.value, c.minus-from_low.ensures.value, c.minus-to_high.ensures.value);
      size = omega (arith, c.plus.ensures.size, c.weighed-2.ensures.size, c.weighed.ensures.size);
    }
