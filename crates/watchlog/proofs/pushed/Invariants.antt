-- `pushed` meets its contract: pushing what is carried from here on comes to what was to be done at the start. Assumes nothing.
use mathlib.Core.Path.{◌≡◌}
use lib.ListN.{length, take}
use Rattle.watchlog.specs.Placing.{pushed}
use Rattle.watchlog.proofs.pushed.Given as goal

abbrev pub invariant-loop-i : goal.invariant-loop-i
invariant-loop-i l = (length l.all ≡ 48) × (take 48 (pushed l.i l.carried l.all) ≡ take 48 (pushed l.at l.initial.carried l.initial.all))
