-- `humidity_body` meets its contract: whether the figures fit. Assumes nothing.
use mathlib.Core.Path.{◌≡◌, sym, ◌∙◌}
use mathlib.Core.Bool.{true}
use borrow.Author.Tests.{not-true, not-false}
use Rattle.handed.specs.Handed.{half, octet}
use Rattle.handed.proofs.humidity_body.Goals as goal
use Rattle.handed.proofs.humidity_body.Goals.{Else-not-is_half, Else-not-is_half-2, Else-not-is_half-3, Else-not-is_octet}

-- what the tests that were passed say of the figures
first_fits : (c : Else-not-is_half) → half c.args.first.v ≡ true
first_fits c = sym c.is_half.ensures ∙ not-false _ c.if-not-is_half.false-raw

second_fits : (c : Else-not-is_half-2) → half c.args.second.v ≡ true
second_fits c = sym c.is_half-2.ensures ∙ not-false _ c.if-not-is_half-2.false-raw

third-fits : (c : Else-not-is_half-3) → half c.args.third.v ≡ true
third-fits c = sym c.is_half-3.ensures ∙ not-false _ c.if-not-is_half-3.false-raw

fourth-fits : (c : Else-not-is_octet) → octet c.args.fourth.v ≡ true
fourth-fits c = sym c.is_octet.ensures ∙ not-false _ c.if-not-is_octet.false-raw

pub returns-then-not-is_half : goal.returns-then-not-is_half
returns-then-not-is_half c = rw (sym c.is_half.ensures ∙ not-true _ c.if-not-is_half.true-raw)

pub returns-then-not-is_half-2 : goal.returns-then-not-is_half-2
returns-then-not-is_half-2 c = rw (first_fits (goal.at.returns-then-not-is_half-2 c).Else-not-is_half, sym c.is_half-2.ensures ∙ not-true _ c.if-not-is_half-2.true-raw)

pub returns-then-not-is_half-3 : goal.returns-then-not-is_half-3
returns-then-not-is_half-3 c = rw (first_fits (goal.at.returns-then-not-is_half-3 c).Else-not-is_half, second_fits (goal.at.returns-then-not-is_half-3 c).Else-not-is_half-2, sym c.is_half-3.ensures ∙ not-true _ c.if-not-is_half-3.true-raw)

pub returns-then-not-is_octet : goal.returns-then-not-is_octet
returns-then-not-is_octet c = rw (first_fits (goal.at.returns-then-not-is_octet c).Else-not-is_half, second_fits (goal.at.returns-then-not-is_octet c).Else-not-is_half-2, third-fits (goal.at.returns-then-not-is_octet c).Else-not-is_half-3, sym c.is_octet.ensures ∙ not-true _ c.if-not-is_octet.true-raw)

pub half_of-requires : goal.half_of-requires
half_of-requires c = first_fits (goal.at.half_of-requires c).Else-not-is_half

pub half_of-requires-2 : goal.half_of-requires-2
half_of-requires-2 c = second_fits (goal.at.half_of-requires-2 c).Else-not-is_half-2

pub half_of-requires-3 : goal.half_of-requires-3
half_of-requires-3 c = third-fits (goal.at.half_of-requires-3 c).Else-not-is_half-3

pub octet_of-requires : goal.octet_of-requires
octet_of-requires c = fourth-fits (goal.at.octet_of-requires c).Else-not-is_octet

pub returns : goal.returns
returns c =
    let at = (goal.at.returns c).Else-not-is_octet in
    rw (
      first_fits (goal.at.returns c).Else-not-is_half,
      second_fits (goal.at.returns c).Else-not-is_half-2,
      third-fits (goal.at.returns c).Else-not-is_half-3,
      fourth-fits at,
      c.half_of.ensures,
      c.half_of-2.ensures,
      c.half_of-3.ensures,
      c.octet_of.ensures,
    )
