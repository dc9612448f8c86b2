-- `digit16` meets its contract: by its test. Assumes nothing.
use mathlib.Core.Path.{sym}
use Rattle.hexadecimal.proofs.HexLaws.{digit16_low, digit16_high}
use borrow.Author.Rules.{rules}
use Rattle.hexadecimal.proofs.digit16.Goals as goal

pub returns-then-d-lt10 : goal.returns-then-d-lt10
returns-then-d-lt10 c = sym (digit16_low c.args.d (search rules))

pub returns-else-d-lt10 : goal.returns-else-d-lt10
returns-else-d-lt10 c = sym (digit16_high c.args.d (search rules))
