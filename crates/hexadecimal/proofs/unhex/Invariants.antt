-- `unhex` meets its contract: of a word that is hex and has room, the bytes that are left, laid from here on, are all of them laid from the start. Assumes nothing.
use mathlib.Core.Path.{◌≡◌}
use mathlib.Core.Bool.{true}
use Prim.Native.Nat.{◌*◌}
use lib.ListN.{length, drop}
use lib.Seq.{sets}
use Rattle.hexadecimal.specs.Hex.{is_hex, hex_bytes}
use Rattle.hexadecimal.proofs.unhex.Given as goal

abbrev pub invariant-loop-i : goal.invariant-loop-i
invariant-loop-i l =
    (length l.bytes ≡ length l.initial.bytes) × (is_hex (drop (2 * l.i) l.word) ≡ true)
    × (sets l.bytes l.i (hex_bytes (drop (2 * l.i) l.word)) ≡ sets l.initial.bytes 0 (hex_bytes l.word))
