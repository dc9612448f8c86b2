-- `between` meets its contract: the two readings are apart, so there is something to divide by. Assumes nothing.
use mathlib.Core.Path.{◌≡◌, ap, ◌∙◌}
use Prim.Native.Nat.{◌^◌}
use native.Mathlib.Omega.{arith}
use lib.IntN.{nat_abs, ◌-ℤ◌}
use Rattle.certificate.proofs.LineLaws.{reading_size, distance_some}
use Rattle.certificate.proofs.between.Goals as goal

pub line-requires : goal.line-requires
line-requires c =
    (c.requires.0, c.requires.1, reading_size c.args.p c.args.q c.args.x.v (2 ^ 31) c.requires.2 c.requires.0.reads c.requires.1.reads)

pub over-requires : goal.over-requires
over-requires c =
    let at = c.before.before in
    let far : c.size-distance.result ≡ nat_abs (c.args.q.reads.v -ℤ c.args.p.reads.v) = c.size-distance.ensures ∙ ap nat_abs c.minus.ensures.value in
    let some = distance_some c.args.p c.args.q c.args.x.v c.requires.2 in
    (omega (arith, far, some), omega (arith, c.line.ensures.size, c.size-distance.ensures, c.minus.ensures.size, c.requires.0.reads, c.requires.1.reads))

pub returns : goal.returns
returns c =
    rw (c.over.ensures.value, c.line.ensures.value, c.size-distance.ensures, c.minus.ensures.value)
