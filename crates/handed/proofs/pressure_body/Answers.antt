-- `pressure_body` meets its contract: whether the figure fits. Assumes nothing.
use mathlib.Core.Path.{sym, ◌∙◌}
use Rattle.handed.proofs.pressure_body.Goals as goal

pub half_of-requires : goal.half_of-requires
half_of-requires c = sym c.is_half.ensures ∙ c.if-is_half.true

pub returns-then-is_half : goal.returns-then-is_half
returns-then-is_half c = rw (sym c.is_half.ensures ∙ c.if-is_half.true, c.half_of.ensures)

pub returns : goal.returns
returns c = rw (sym c.is_half.ensures ∙ c.if-is_half.false)
