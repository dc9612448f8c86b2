-- `word` meets its contract: the word with what is left of its number, among the words that are left. Assumes nothing.
use mathlib.Core.Path.{◌≡◌}
use Prim.Native.Nat.{◌-◌}
use lib.ListN.{length}
use Rattle.line.specs.Words.{words, words_at, word_number}
use Rattle.line.proofs.word.Given as goal

abbrev pub invariant-loop-place : goal.invariant-loop-place
invariant-loop-place l = word_number l.left (words_at l.line l.at) ≡ word_number l.number (words l.line)

abbrev pub decreases-loop-place : goal.decreases-loop-place
decreases-loop-place l = length l.line - l.at
