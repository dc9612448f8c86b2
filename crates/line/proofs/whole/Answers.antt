-- `whole` meets its contract: by the sign, and behind a minus only 0. Assumes nothing.
use mathlib.Core.List.{List}
use mathlib.Core.Path.{◌≡◌, sym, ap, ◌∙◌}
use mathlib.Core.Bool.{true}
use Prim.Native.Nat.{ℕ}
use native.Mathlib.Omega.{arith}
use Rattle.line.specs.Numeral.{natural, minus, up_to}
use Rattle.line.proofs.WordLaws.{rest}
use Rattle.line.proofs.NumeralLaws.{minus_some, whole_minus, whole_plain}
use Rattle.line.proofs.whole.Goals as goal

pub slice_bounds-natural-count : goal.slice_bounds-natural-count
slice_bounds-natural-count c = omega (arith, minus_some c.args.text.now (sym c.minus.ensures ∙ c.if-minus.true))

pub slice_bounds-natural-start : goal.slice_bounds-natural-start
slice_bounds-natural-start c = omega (arith, minus_some c.args.text.now (sym c.minus.ensures ∙ c.if-minus.true))

pub returns-then-minus : goal.returns-then-minus
returns-then-minus c =
    let s = c.args.text.now in
    let m : minus s ≡ true = sym c.minus.ensures ∙ c.if-minus.true in
    c.natural.ensures ∙ ap (λ (x : List ℕ). up_to 0 (natural x)) (rest s 1) ∙ sym (whole_minus c.args.most s m)

pub returns : goal.returns
returns c = c.natural-2.ensures ∙ sym (whole_plain c.args.most c.args.text.now (sym c.minus.ensures ∙ c.if-minus.false))
