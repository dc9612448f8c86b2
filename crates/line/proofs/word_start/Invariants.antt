-- `word_start` meets its contract: where the word of what is left starts, the word of all starts. Assumes nothing.
use Prim.Native.Nat.{ℕ}
use Rattle.std.specs.Prelude.{Option}
use Rattle.line.specs.Next.{Start}
use Rattle.line.proofs.word_start.Given as goal

abbrev pub invariant-loop-i : goal.invariant-loop-i
invariant-loop-i l = (r : Option ℕ) → Start l.line l.i r → Start l.line l.at r
