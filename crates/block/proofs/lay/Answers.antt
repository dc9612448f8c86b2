-- `lay` meets its contract: the words before the loop's place are written, those behind it are zero. Assumes nothing.
use mathlib.Core.Path.{refl}
use native.Mathlib.Omega.{arith}
use Rattle.block.specs.Layout.{WORDS}
use Rattle.block.proofs.WrittenLaws.{zeros, all_written}
use Rattle.block.proofs.lay.Goals as goal

pub loop-i-init : goal.loop-i-init
loop-i-init c = (refl, λ k h. absurd (omega arith), λ k h. zeros WORDS k)

pub returns : goal.returns
returns c =
    let l = c.loop-i in
    all_written c.args.g l.store l.invariant.0 (λ k h. l.invariant.1 k (omega arith)) (λ k h. l.invariant.2 k (omega arith))
