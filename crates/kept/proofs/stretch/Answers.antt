-- `stretch` meets its contract: the bytes before the loop's place say their minutes. Assumes nothing.
use mathlib.Core.Path.{refl, sym, ap, ◌∙◌}
use native.Mathlib.Omega.{arith}
use lib.ListN.{length}
use Rattle.number.specs.Refusal.{numbered_in}
use Rattle.block.proofs.ListedLaws.{listed_by}
use Rattle.kept.specs.Kept.{marked, marked_by}
use Rattle.kept.proofs.KeptLaws.{stretch_is}
use Rattle.kept.proofs.stretch.Goals as goal

pub returns : goal.returns
returns c =
    let l = c.loop-i in
    let a = c.args in
    let n = length a.minutes.now in
    let is = stretch_is a.store.now a.channel (sym c.is_store.ensures ∙ c.if-not-is_store.false) c.if-channel-ge6.false a.first n in
    let all = listed_by (marked a.store.now a.channel) 0 l.minutes a.first n l.auto.minutes (λ k h. l.invariant k (omega arith)) in
    (record { answer = sym (ap numbered_in is); bytes = all ∙ sym (ap (marked_by a.minutes.now) is) }, refl)
