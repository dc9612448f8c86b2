-- `write_records` meets its contract: what is left to write from here is what was to be written at the start. Assumes nothing.
use mathlib.Core.Path.{◌≡◌}
use Prim.Native.Nat.{◌+◌, ◌*◌, ◌≤◌}
use lib.ListN.{length, take}
use lib.Seq.{sets}
use Rattle.watchfile.specs.Format.{rows_bytes, bodies_bytes, start_of}
use Rattle.writer.specs.Write.{offered}
use Rattle.writer.proofs.RestLaws.{rest}
use Rattle.writer.proofs.write_records.Given as goal

abbrev pub invariant-loop-i : goal.invariant-loop-i
invariant-loop-i l =
    let records = offered l.records in
    (length l.buffer ≡ length l.initial.buffer) × (l.at ≤ start_of l.count + 9 * l.i) × (start_of l.count ≤ l.at) × (l.at + length (bodies_bytes (rest records l.count l.i)) ≤ length l.initial.buffer)
    × (sets (sets l.buffer (4 + 8 * l.i) (rows_bytes (rest records l.count l.i) l.at)) l.at (bodies_bytes (rest records l.count l.i)) ≡ sets (sets l.initial.buffer 4 (rows_bytes (take l.count records) (start_of l.count))) (start_of l.count) (bodies_bytes (take l.count records)))
