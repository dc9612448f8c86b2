-- `measure` meets its contract: refusal 23, then the line at the turns, whose value is a speed or none. Assumes nothing.
use mathlib.Core.Path.{sym, ◌∙◌}
use native.Mathlib.Omega.{arith}
use lib.Dec.{lit≤}
use lib.IntN.{pos}
use Rattle.number.proofs.Sizes.{within_size}
use Rattle.anemometer.specs.Anemometer.{certificate_held}
use Rattle.anemometer.proofs.MeasuredLaws.{limits, line_told_lem, outside_dial, outside_certificate, beyond, a_speed}
use Rattle.anemometer.proofs.measure.Goals as goal

pub returns-then-not-holds : goal.returns-then-not-holds
returns-then-not-holds c = outside_dial (certificate_held c.args.store.now) c.args.n (sym (c.if-not-holds.ensures))

pub turns-requires : goal.turns-requires
turns-requires c = let l = limits c.args.n (sym (c.if-not-holds.ensures)) in (l.first, l.second)

pub overflow_cast-n : goal.overflow_cast-n
overflow_cast-n c = omega (arith, (limits c.args.n (sym (c.if-not-holds.ensures))).seconds)

pub overflow_cast-result : goal.overflow_cast-result
overflow_cast-result c = omega (arith, c.size.ensures, within_size (pos 0) (pos 750) c.in-Some.v.v 750 (lit≤ tt) (lit≤ tt) (sym (c.if-holds.ensures)))

pub returns-in-Some : goal.returns-in-Some
returns-in-Some c =
    let s = c.args.store.now in
    let told = c.value_at.ensures ∙ line_told_lem s c.args.n c.anemometer.ensures c.turns.ensures.0 c.whole-turned.ensures.value in
    a_speed (certificate_held s) c.args.n (sym (c.if-not-holds.ensures)) c.in-Some.is told (sym (c.if-holds.ensures)) c.size.ensures

pub returns-in_default : goal.returns-in_default
returns-in_default c =
    let s = c.args.store.now in
    let told = c.value_at.ensures ∙ line_told_lem s c.args.n c.anemometer.ensures c.turns.ensures.0 c.whole-turned.ensures.value in
    beyond (certificate_held s) c.args.n (sym (c.if-not-holds.ensures)) c.in-Some.is told (sym (c.if-holds.ensures))

pub returns-in_default-2 : goal.returns-in_default-2
returns-in_default-2 c =
    let s = c.args.store.now in
    let told = c.value_at.ensures ∙ line_told_lem s c.args.n c.anemometer.ensures c.turns.ensures.0 c.whole-turned.ensures.value in
    outside_certificate (certificate_held s) c.args.n (sym (c.if-not-holds.ensures)) c.in_default.is told
