-- `by_table` meets its contract: among the rows that are left, and nothing is laid before one is found. Assumes nothing.
use mathlib.Core.Path.{◌≡◌}
use Prim.Native.Nat.{◌-◌, ◌≤◌}
use lib.ListN.{length}
use Rattle.line.specs.Words.{words, word_at, words_at}
use Rattle.command.specs.Commands.{rows_of, by_table}
use Rattle.command.proofs.by_table.Given as goal

abbrev pub invariant-loop-name : goal.invariant-loop-name
invariant-loop-name l =
    (l.numbers ≡ l.initial.numbers) × (l.row ≤ l.at)
    × (by_table (rows_of l.row (words_at l.table l.at)) (word_at l.line l.word.from l.word.to) (words_at l.line l.word.to) ≡ by_table (rows_of 0 (words l.table)) (word_at l.line l.word.from l.word.to) (words_at l.line l.word.to))

abbrev pub decreases-loop-name : goal.decreases-loop-name
decreases-loop-name l = length l.table - l.at
