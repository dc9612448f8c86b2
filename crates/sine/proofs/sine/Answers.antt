-- `sine` meets its contract: the test of the code is that of the sign. Assumes nothing.
use mathlib.Core.Path.{◌≡◌, refl}
use mathlib.Core.Bool.{true, false}
use Prim.Native.Nat.{ℕ, zero, suc, ◌%◌}
use lib.IntN.{pos, neg_ℤ}
use borrow.Author.Tests.{le-ltb, lt-ltb}
use Rattle.sine.specs.Sine.{size, is_minus, sine, Parts}
use Rattle.sine.proofs.sine.Goals as goal

minus : (n : ℕ) → Parts (neg_ℤ (pos n)) 0 n
minus zero = record { up_is = refl; down_is = refl }
minus (suc n) = record { up_is = refl; down_is = refl }

pub returns-then-x-le360 : goal.returns-then-x-le360
unfolding sine
returns-then-x-le360 c =
    let x = c.args.x in
    let plus : is_minus x ≡ false = le-ltb 360 (x % 720) c.if-x-le360.true in
    rw plus (record { up_is = c.size-n.ensures; down_is = refl })

pub returns : goal.returns
unfolding sine
returns c =
    let x = c.args.x in
    let down : is_minus x ≡ true = lt-ltb 360 (x % 720) c.if-x-le360.false in
    rw (down, c.size-n.ensures) (minus (size x))
