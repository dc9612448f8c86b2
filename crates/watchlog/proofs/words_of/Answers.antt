-- `words_of` meets its contract: the records so far are laid, and behind them stand zeros. Assumes nothing.
use mathlib.Core.Path.{◌≡◌, refl}
use native.Mathlib.Omega.{arith}
use native.Mathlib.Nat.{not-suc-le-zero}
use lib.ListN.{get_or}
use Rattle.watchfile.specs.Format.{blank, figures_of}
use Rattle.handed.specs.Words.{words_of}
use Rattle.watchlog.proofs.LaidLaws.{laid_on, zeros_there}
use Rattle.watchlog.proofs.words_of.Goals as goal

pub loop-i-init : goal.loop-i-init
loop-i-init c = record { long = refl; each = λ i h. absurd (not-suc-le-zero h); none = λ k h. zeros_there 343 k }

pub slice_bounds-lay-end : goal.slice_bounds-lay-end
slice_bounds-lay-end c = omega (arith, c.loop-i.invariant.long)

pub lay-requires : goal.lay-requires
lay-requires c = omega (arith, c.loop-i.invariant.long)

pub loop-i-preserved : goal.loop-i-preserved
loop-i-preserved c =
    let l = c.loop-i in
    let q = c.args in
    let r = get_or q.records l.i blank in
    laid_on q.records l.i l.words c.lay.new.words (words_of (figures_of r)) r l.invariant (omega arith) refl c.lay.ensures.0 c.lay.ensures.1 refl

pub returns : goal.returns
returns c =
    let l = c.loop-i in
    let e : l.i ≡ 48 = omega arith in
    rw e at l.invariant
