-- On the one side of the ship the angle is added. Assumes nothing.
use mathlib.Core.Path.{◌≡◌}
use mathlib.Core.Bool.{true}
use Prim.Native.Nat.{ℕ, ◌+◌, ◌<◌}
use lib.Dec.{ltb}
use borrow.Author.Tests.{lt-ltb}
use Rattle.wind.specs.Wind.{turned}

pub turned_added : (r angle : ℕ) → r < 180 → r + angle ≡ turned r angle
unfolding turned
turned_added r angle low =
    let side : ltb r 180 ≡ true = lt-ltb r 180 low in
    rw side
