-- `why` meets its contract: the minute is that of the newest, or earlier. Assumes nothing.
use mathlib.Core.Path.{sym, ap}
use Rattle.store.specs.Block.{outcome}
use Rattle.store.proofs.NewestLaws.{repeated, late}
use borrow.Author.Rules.{rules}
use Rattle.store.proofs.why.Goals as goal

pub returns-then-after-next : goal.returns-then-after-next
returns-then-after-next c = let a = c.args in λ e. sym (ap outcome (repeated a.next a.minute e (search rules)))

pub returns : goal.returns
returns c = let a = c.args in λ e. sym (ap outcome (late a.next a.minute e (search rules)))
