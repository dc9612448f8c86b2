-- `bodies` meets its contract: what is left to test answers for all of it; a body's own offset is where the one before it
-- ended, since the contents are right. Assumes nothing.
use mathlib.Core.Path.{◌≡◌}
use mathlib.Core.List.{List}
use Prim.Native.Nat.{ℕ, ◌+◌, ◌*◌, ◌-◌, ◌≤◌}
use lib.IntN.{ℤ}
use lib.ListN.{length}
use Rattle.number.specs.Refusal.{Answer}
use Rattle.watchfile.specs.Format.{DewRule, rows_fields, bodies_fields, records_from, start_of}
use Rattle.watchfile.specs.declared.Record.{Record}
use Rattle.watchfile.proofs.FieldLaws.{Passed}
use Rattle.reader.specs.Work.{found}
use Rattle.reader.proofs.bodies.Given as goal

-- what the bodies come to from one on: all records, or a place
abbrev pub left : List ℕ → ℕ → (ℕ → ℤ) → ℕ → ℕ → ℕ → Answer ℕ (List Record)
left s count rule n row at = found s (bodies_fields rule s n row at) (records_from s count 4 (start_of count))

abbrev pub invariant-loop-i : goal.invariant-loop-i
invariant-loop-i l =
    (l.end ≤ length l.file)
    × ((before : ℕ) × Passed (length l.file) (rows_fields l.file (l.count - l.i) (4 + 8 * l.i) l.end before))
    × ((rule : ℕ → ℤ) → DewRule rule → left l.file l.count rule l.count 4 (start_of l.count) ≡ left l.file l.count rule (l.count - l.i) (4 + 8 * l.i) l.end)
