-- `put32` meets its contract: the four bytes are copied. Assumes nothing.
use mathlib.Core.Path.{◌∙◌}
use native.Mathlib.Omega.{arith}
use Rattle.octets.specs.Bytes.{bytes32}
use Rattle.writer.proofs.PartLaws.{laid}
use Rattle.writer.proofs.put32.Goals as goal

pub returns : goal.returns
returns c =
    let q = c.args in
    laid q.part.now (bytes32 q.n) c.copy_from_slice.new.self q.at _ (c.copy_from_slice.ensures.after ∙ c.in_four.ensures) (omega arith) (omega arith)
