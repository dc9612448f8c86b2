-- `tendency_body` meets its contract: whether the figure fits. Assumes nothing.
use mathlib.Core.Path.{sym, ◌∙◌}
use Rattle.handed.proofs.tendency_body.Goals as goal

pub octet_of-requires : goal.octet_of-requires
octet_of-requires c = sym c.is_octet.ensures ∙ c.if-is_octet.true

pub returns-then-is_octet : goal.returns-then-is_octet
returns-then-is_octet c = rw (sym c.is_octet.ensures ∙ c.if-is_octet.true, c.octet_of.ensures)

pub returns : goal.returns
returns c = rw (sym c.is_octet.ensures ∙ c.if-is_octet.false)
