-- `wipe` meets its contract. The invariant: wiping what is left, from the first minute of a word on, gives what wiping all gives.
-- Assumes nothing.
use mathlib.Core.Path.{◌≡◌}
use Prim.Native.Nat.{◌-◌, ◌*◌}
use lib.ListN.{length}
use Rattle.window.specs.Layout.{WINDOW}
use Rattle.window.specs.Window.{wiped}
use Rattle.window.proofs.WipeLaws.{Fits}
use Rattle.window.proofs.wipe.Given as goal

abbrev pub invariant-loop-k : goal.invariant-loop-k
invariant-loop-k l =
    (length l.window ≡ WINDOW) × Fits l.window × (wiped l.window (l.k * 64) (l.to - l.k * 64) ≡ wiped l.fn.window l.from (l.to - l.from))
