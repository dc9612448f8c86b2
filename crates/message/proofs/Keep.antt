-- How large what is kept is. Assumes nothing.
use mathlib.Core.Path.{◌≡◌}
use mathlib.Core.Bool.{true}
use Prim.Native.Nat.{◌<◌}
use native.Mathlib.Omega.{arith}
use lib.Dec.{lit≤}
use lib.IntN.{ℤ, pos, nat_abs}
use Rattle.number.proofs.Sizes.{within_size}
use Rattle.quantity.specs.Limits.{inside, pressure_limits}
use Rattle.quantity.specs.declared.BarometerUnit.{BarometerUnit}
use Rattle.quantity.specs.declared.BarometerUnit.TheVariants.{Hectopascals, Millimetres}

-- a barometer's reading is small, whatever its unit
pub pressure_size : (u : BarometerUnit) (z : ℤ) → inside (pressure_limits u) z ≡ true → nat_abs z < 32768
pressure_size Hectopascals z i = omega (arith, within_size (pos 8500) (pos 11000) z 11000 (lit≤ tt) (lit≤ tt) i)
pressure_size Millimetres z i = omega (arith, within_size (pos 6400) (pos 8250) z 8250 (lit≤ tt) (lit≤ tt) i)
