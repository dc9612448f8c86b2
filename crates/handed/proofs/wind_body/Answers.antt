-- `wind_body` meets its contract: whether the figures fit. Assumes nothing.
use mathlib.Core.Path.{sym, ◌∙◌}
use Rattle.handed.proofs.wind_body.Goals as goal

pub half_of-requires : goal.half_of-requires
half_of-requires c = sym c.is_half.ensures ∙ c.if-is_half.true

pub half_of-requires-then-is_half-2 : goal.half_of-requires-then-is_half-2
half_of-requires-then-is_half-2 c = sym c.is_half-then-is_half.ensures ∙ c.if-is_half-2.true

pub returns-then-is_half-2 : goal.returns-then-is_half-2
returns-then-is_half-2 c =
    rw (
      sym c.is_half.ensures ∙ c.if-is_half.true,
      sym c.is_half-then-is_half.ensures ∙ c.if-is_half-2.true,
      c.half_of.ensures,
      c.half_of-then-is_half-2.ensures,
    )

pub returns-else-is_half-2 : goal.returns-else-is_half-2
returns-else-is_half-2 c =
    rw (
      sym c.is_half.ensures ∙ c.if-is_half.true,
      sym c.is_half-then-is_half.ensures ∙ c.if-is_half-2.false,
    )

pub returns-else-is_half : goal.returns-else-is_half
returns-else-is_half c = rw (sym c.is_half.ensures ∙ c.if-is_half.false)
