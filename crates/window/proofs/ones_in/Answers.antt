-- `ones_in` meets its contract: the ones of the masked word are the sum of the bits under the mask. Assumes nothing.
use native.Mathlib.Omega.{arith}
use Rattle.window.specs.Bits.{bit}
use Rattle.window.proofs.BitLaws.{bit_lt}
use Rattle.window.proofs.CountLaws.{ones_masked, total_le}
use Rattle.window.proofs.ones_in.Goals as goal

pub returns : goal.returns
returns c =
    let e = ones_masked c.args.w c.args.o c.args.n (omega arith) in
    (e, omega (arith, e, total_le (bit c.args.w) c.args.n c.args.o (bit_lt c.args.w)))
