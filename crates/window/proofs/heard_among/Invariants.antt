-- `heard_among` meets its contract. The invariant: the minutes before the word are counted. Assumes nothing.
use mathlib.Core.Path.{◌≡◌}
use Prim.Native.Nat.{◌+◌, ◌-◌, ◌/◌, ◌≤◌}
use Rattle.window.specs.Bits.{total}
use Rattle.window.specs.Window.{bit_of}
use Rattle.window.proofs.heard_among.Given as goal

abbrev pub invariant-loop-k : goal.invariant-loop-k
invariant-loop-k l =
    (l.from ≤ l.at) × (l.at ≤ l.from + l.n) × (l.at / 64 ≡ l.k) × (l.sum ≤ l.at - l.from) × (l.sum ≡ total (bit_of l.window) l.from (l.at - l.from))
