-- `quarter` meets its contract: the bisection parts the marks that count from the others. Assumes nothing.
use mathlib.Core.Path.{sym}
use Rattle.std.proofs.Common.{rules}
use Rattle.wind.specs.Work.{leans, Parted}
use Rattle.wind.proofs.BisectionLaws.{counted}
use Rattle.wind.proofs.AngleLaws.{leans_falls}
use Rattle.wind.proofs.quarter.Goals as goal

pub returns : goal.returns
returns c =
    let a = c.args.a in
    let b = c.args.b in
    let parted : Parted (leans a b) 90 c.passing.result = c.passing.ensures (leans a b) (λ i r h gives. search rules) (leans_falls a b) in
    (sym (counted (leans a b) 90 c.passing.result parted), parted.within)
