-- `lay_fields` meets its contract: who lays the fields that are left, by the letters that are left, has laid all. Assumes nothing.
use mathlib.Core.Path.{◌≡◌}
use mathlib.Core.List.{List}
use Prim.Native.Nat.{ℕ, ◌+◌, ◌≤◌}
use lib.ListN.{length, drop}
use Rattle.std.specs.Prelude.{Result}
use Rattle.line.specs.Words.{fields, fields_at}
use Rattle.command.specs.Forms.{fields_told}
use Rattle.command.specs.Laid.{Lays}
use Rattle.command.specs.declared.Flaw.{Flaw}
use Rattle.command.proofs.lay_fields.Given as goal

abbrev pub invariant-loop-letter : goal.invariant-loop-letter
invariant-loop-letter l =
    (l.from ≤ length l.word + 1) × (l.place ≤ length l.numbers) × (length l.numbers ≡ length l.initial.numbers)
    × ((after : List ℕ) (r : Result ℕ Flaw) → Lays l.numbers after l.place (fields_told (drop l.letter-index l.form) (fields_at l.word l.from)) r → Lays l.initial.numbers after l.at (fields_told l.form (fields l.word)) r)
