-- `lay_line` meets its contract: who lays the words that are left, from the one with this number on, has laid all. Assumes nothing.
use mathlib.Core.Path.{◌≡◌}
use mathlib.Core.List.{List}
use Prim.Native.Nat.{ℕ, ◌-◌, ◌≤◌}
use lib.ListN.{length}
use Rattle.std.specs.Prelude.{Option, Result}
use Rattle.line.specs.Words.{field, words_at}
use Rattle.command.specs.Forms.{line_told}
use Rattle.command.specs.declared.Deed.{Deed}
use Rattle.command.specs.declared.Fault.{Fault}
use Rattle.command.proofs.FormLaws.{Leaves}
use Rattle.command.proofs.lay_line.Given as goal

abbrev pub invariant-loop-word : goal.invariant-loop-word
invariant-loop-word l =
    (l.fixed ≡ length (field l.form)) × (l.count ≤ l.here) × (l.place ≤ length l.numbers) × (length l.numbers ≡ length l.initial.numbers)
    × ((after : List ℕ) (r : Result (Option Deed) Fault) → Leaves l.numbers after l.place (line_told l.verb l.form l.count (words_at l.line l.here)) r → Leaves l.initial.numbers after 0 (line_told l.verb l.form 0 (words_at l.line l.at)) r)

abbrev pub decreases-loop-word : goal.decreases-loop-word
decreases-loop-word l = length l.line - l.here
