-- `weighed` meets its contract: 16 bits times 33. Assumes nothing.
use native.Mathlib.Omega.{arith}
use Rattle.certificate.proofs.SizeLaws.{product}
use Rattle.certificate.proofs.weighed.Goals as goal

pub times-requires : goal.times-requires
times-requires c = omega (arith, product c.requires.0 c.requires.1)

pub returns : goal.returns
returns c =
    record {
      value = c.times.ensures.value;
      size = omega (arith, c.times.ensures.size, product c.requires.0 c.requires.1);
    }
