-- `check` meets its contract: the tests still to be tried, and the bytes still to be counted, are those of the start. Assumes
-- nothing.
use mathlib.Core.Path.{◌≡◌}
use mathlib.Core.List.{[], ◌∷◌, ◌++◌}
use Prim.Native.Nat.{ℕ, ◌+◌, ◌*◌, ◌≤◌}
use lib.IntN.{ℤ}
use lib.ListN.{length, take}
use Rattle.number.specs.Refusal.{answer}
use Rattle.watchfile.specs.Format.{DewRule, bodies_bytes, file_of, record_tests, past}
use Rattle.writer.specs.Write.{offered, rules_tests}
use Rattle.writer.proofs.RestLaws.{rest}
use Rattle.writer.proofs.check.Given as goal

abbrev pub invariant-loop-i : goal.invariant-loop-i
invariant-loop-i l =
    let records = offered l.records in
    (l.i ≤ 48) × (l.size ≤ 4 + 17 * l.i)
    × (l.size + 8 * length (rest records l.count l.i) + length (bodies_bytes (rest records l.count l.i)) ≡ length (file_of (take l.count records)))
    × ((rule : ℕ → ℤ) → DewRule rule
    → answer (rules_tests rule records l.count) (length (file_of (take l.count records)))
    ≡ answer (record_tests rule l.i l.before (rest records l.count l.i) ++ (past l.count ∷ [])) (length (file_of (take l.count records))))
