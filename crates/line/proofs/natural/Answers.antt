-- `natural` meets its contract: the digits that are left, behind the number so far, say what all of them say. Assumes nothing.
use mathlib.Core.Path.{sym, ap, ◌∙◌}
use Prim.Native.Nat.{◌+◌}
use native.Mathlib.Omega.{arith}
use lib.ListN.{drop}
use Rattle.line.specs.Numeral.{up_to}
use Rattle.line.proofs.NumeralLaws.{natural_some, natural_on, natural_stop, natural_end, natural_large, up_to_given}
use borrow.Author.Rules.{rules}
use Rattle.line.proofs.natural.Goals as goal

pub loop-b-init : goal.loop-b-init
loop-b-init c = (omega arith, ap (up_to c.args.most) (sym (natural_some c.args.digits.now (search rules))))

pub returns-then-not-is_ascii_digit : goal.returns-then-not-is_ascii_digit
returns-then-not-is_ascii_digit c =
    let l = c.loop-b in
    let q = c.args in
    let e = natural_stop q.digits.now l.n l.b-index c.loop-b-test.true (sym c.is_ascii_digit.ensures.value ∙ c.if-not-is_ascii_digit.true) in
    sym (ap (up_to q.most) e) ∙ l.invariant.1

pub returns-then-n-most : goal.returns-then-n-most
returns-then-n-most c =
    let l = c.loop-b in
    let q = c.args in
    let e = natural_on q.digits.now l.n l.b-index c.loop-b-test.true (sym c.is_ascii_digit.ensures.value ∙ c.if-not-is_ascii_digit.false) in
    sym (natural_large q.most _ (drop (l.b-index + 1) q.digits.now) c.if-n-most.true) ∙ sym (ap (up_to q.most) e) ∙ l.invariant.1

pub loop-b-preserved : goal.loop-b-preserved
loop-b-preserved c =
    let l = c.loop-b in
    let q = c.args in
    let e = natural_on q.digits.now l.n l.b-index c.loop-b-test.true (sym c.is_ascii_digit.ensures.value ∙ c.if-not-is_ascii_digit.false) in
    (omega arith, sym (ap (up_to q.most) e) ∙ l.invariant.1)

pub returns : goal.returns
returns c =
    let l = c.loop-b in
    let q = c.args in
    sym (up_to_given q.most l.n l.invariant.0) ∙ sym (ap (up_to q.most) (natural_end q.digits.now l.n l.b-index (omega arith))) ∙ l.invariant.1
