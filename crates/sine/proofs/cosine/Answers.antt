-- `cosine` meets its contract: whole turns left out, a quarter turn on is the same angle. Assumes nothing.
use mathlib.Core.Path.{◌≡◌}
use Prim.Native.Nat.{◌+◌, ◌%◌}
use native.Mathlib.Omega.{arith}
use Rattle.sine.specs.Sine.{size, sine, cosine}
use Rattle.sine.proofs.cosine.Goals as goal

pub returns : goal.returns
unfolding cosine sine size
returns c =
    let x = c.args.x in
    let whole : (x % 720 + 180) % 720 ≡ (x + 180) % 720 = omega arith in
    let half : (x % 720 + 180) % 360 ≡ (x + 180) % 360 = omega arith in
    rw (← whole, ← half) c.sine.ensures
