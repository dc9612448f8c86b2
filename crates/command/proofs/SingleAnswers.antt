-- Each public contract of this crate allows a single answer: it gives the result, and the numbers of the buffer, as functions of the
-- arguments. Assumes nothing.
use mathlib.Core.Path.{sym, ◌∙◌}
use Rattle.number.specs.Single.{Single, SingleLeft}
use Rattle.command.proofs.parse.Reads as parse

pub single_parse : Single parse.Post
single_parse κs a r r' s s' p q = p.command ∙ sym q.command

-- the numbers behind the buffer's reference, at exit
pub single_parse_numbers : SingleLeft parse.Post (λ κs s. s.1.0.now)
single_parse_numbers κs a r r' s s' p q = p.numbers ∙ sym q.numbers
