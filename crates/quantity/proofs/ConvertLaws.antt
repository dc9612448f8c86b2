-- What the conversions mean. Assumes nothing.
use mathlib.Core.Path.{◌≡◌, refl}
use Prim.Native.Nat.{ℕ, ◌*◌, ◌<◌}
use native.Mathlib.Nat.{mod-eq_of_lt}
use native.Mathlib.Omega.{arith}
use Rattle.quantity.specs.Convert.{parts_of_knots, parts_of_metres, kept_direction}

-- parts / 12500 = 0.5144 * tenths / 10, both sides times 12500 * 100000
pub knots_exact : (tenths : ℕ) → parts_of_knots tenths * 100000 ≡ 5144 * tenths * 12500
knots_exact tenths = omega arith

-- parts / 12500 = tenths / 10
pub metres_exact : (tenths : ℕ) → parts_of_metres tenths * 10 ≡ tenths * 12500
metres_exact tenths = omega arith

pub direction_360 : kept_direction 360 ≡ 0
direction_360 = refl

pub direction_stays : (n : ℕ) → n < 360 → kept_direction n ≡ n
direction_stays n h = mod-eq_of_lt h
