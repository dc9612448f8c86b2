-- `turns` meets its contract. Assumes nothing.
use native.Mathlib.Omega.{arith}
use borrow.Author.Tests.{lt-ltb, le-ltb}
use Rattle.anemometer.proofs.turns.Goals as goal

pub returns-then-second-first : goal.returns-then-second-first
returns-then-second-first c = (rw (lt-ltb _ _ c.if-second-first.true), omega arith)

pub returns : goal.returns
returns c = (rw (le-ltb _ _ c.if-second-first.false), omega arith)
