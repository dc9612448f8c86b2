-- `from_bow` meets its contract: the course taken away, 360 added where that is negative. Assumes nothing.
use mathlib.Core.Path.{◌≡◌, ap, ◌∙◌}
use Prim.Native.Nat.{ℕ, ◌+◌, ◌-◌, ◌<◌}
use native.Mathlib.Omega.{arith}
use borrow.Author.Tests.{lt-ltb, le-ltb}
use Rattle.quantity.specs.Convert.{kept_direction}
use Rattle.anemometer.specs.Anemometer.{from_bow}
use Rattle.anemometer.proofs.from_bow.Goals as goal

-- a course so far beyond every direction that nothing is left
nothing : (d c : ℕ) → d + 360 < c → 0 ≡ d + 360 - c
nothing d c h = omega arith

pub returns-then-ahead-compass : goal.returns-then-ahead-compass
unfolding from_bow
returns-then-ahead-compass c = rw (le-ltb _ _ c.if-ahead-compass.true) c.keep.ensures

pub returns-then-ahead-compass-2 : goal.returns-then-ahead-compass-2
unfolding from_bow
returns-then-ahead-compass-2 c = rw (lt-ltb _ _ c.if-ahead-compass.false) c.keep-then-ahead-compass-2.ensures

pub returns : goal.returns
unfolding from_bow
returns c =
    rw (lt-ltb _ _ c.if-ahead-compass.false) (c.keep-2.ensures ∙ ap kept_direction (nothing _ _ c.if-ahead-compass-2.false))
