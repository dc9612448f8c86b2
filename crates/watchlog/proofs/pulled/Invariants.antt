-- `pulled` meets its contract: pulling from here on comes to what was to be done at the start. Assumes nothing.
use mathlib.Core.Path.{◌≡◌}
use lib.ListN.{length, take}
use Rattle.watchlog.specs.Placing.{pulled}
use Rattle.watchlog.proofs.pulled.Given as goal

abbrev pub invariant-loop-i : goal.invariant-loop-i
invariant-loop-i l = (length l.all ≡ 48) × (take 47 (pulled l.i l.all) ≡ take 47 (pulled l.at l.initial.all))
