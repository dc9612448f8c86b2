-- `barometer_points` meets its contract: the words looked at, and those before `anemometer` among the words that are left, are all before
-- it. Assumes nothing.
use mathlib.Core.Path.{◌≡◌}
use Prim.Native.Nat.{◌+◌, ◌-◌, ◌*◌}
use Rattle.values.specs.Values.{before_word}
use Rattle.values.proofs.barometer_points.Given as goal

abbrev pub invariant-loop-i : goal.invariant-loop-i
invariant-loop-i l =
    (l.points ≡ l.words - 5) × (l.i + before_word l.numbers (5 + 2 * l.i) (l.points - l.i) ≡ before_word l.numbers 5 (l.words - 5))
