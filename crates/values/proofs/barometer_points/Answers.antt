-- `barometer_points` meets its contract: the words looked at, and those before `anemometer` among the words that are left, are all before
-- it. Assumes nothing.
use mathlib.Core.Path.{◌≡◌, sym, ◌∙◌}
use Prim.Native.Nat.{◌+◌, ◌*◌}
use native.Mathlib.Omega.{arith}
use borrow.Author.Tests.{eq-eqb, ne_eqb}
use Rattle.values.proofs.ValueLaws.{before_start, before_here, before_on, before_end, within}
use Rattle.values.proofs.barometer_points.Goals as goal

pub loop-i-init : goal.loop-i-init
loop-i-init c = (c.saturating_sub-points.ensures, before_start c.args.numbers.now 5 _ _ c.saturating_sub-points.ensures)

pub returns-then-at-eq-ANEMOMETER : goal.returns-then-at-eq-ANEMOMETER
returns-then-at-eq-ANEMOMETER c =
    let l = c.loop-i in
    let numbers = c.args.numbers.now in
    let here = sym c.at.ensures ∙ c.if-at-eq-ANEMOMETER.true in
    (sym (before_here numbers l.i (5 + 2 * l.i) c.saturating_sub-points.result (omega arith) (eq-eqb _ _ here)) ∙ l.invariant.1, λ h. within numbers (5 + 2 * l.i) here)

pub loop-i-preserved : goal.loop-i-preserved
loop-i-preserved c =
    let l = c.loop-i in
    let numbers = c.args.numbers.now in
    let next : 5 + 2 * (l.i + 1) ≡ 5 + 2 * l.i + 2 = omega arith in
    (l.invariant.0, rw next (sym (before_on numbers l.i (5 + 2 * l.i) c.saturating_sub-points.result (omega arith) (ne_eqb _ _ (λ e. c.if-at-eq-ANEMOMETER.false (c.at.ensures ∙ e)))) ∙ l.invariant.1))

pub returns : goal.returns
returns c =
    let l = c.loop-i in
    let numbers = c.args.numbers.now in
    (sym (before_end numbers l.i (5 + 2 * l.i) c.saturating_sub-points.result (omega arith) (λ h. omega arith)) ∙ l.invariant.1, λ h. absurd (omega arith))
