-- Which signed numbers fit 64 and 32 bits, by their sizes. Assumes nothing.
use Prim.Native.Nat.{◌≤◌, ◌<◌, ◌^◌}
use native.Mathlib.Omega.{arith}
use lib.IntN.{ℤ, pos, negsuc, nat_abs}
use mir.Syntax.{w32, w64}
use mir.Val.{SFits}

pub fits64 : (z : ℤ) → nat_abs z < 2 ^ 63 → SFits w64 z
fits64 (pos n) h = record { sfits = h }
fits64 (negsuc n) h = record { sfits = omega arith }

pub fits32 : (z : ℤ) → nat_abs z < 2 ^ 31 → SFits w32 z
fits32 (pos n) h = record { sfits = h }
fits32 (negsuc n) h = record { sfits = omega arith }

pub size32 : (z : ℤ) → SFits w32 z → nat_abs z ≤ 2 ^ 31
size32 (pos n) f = omega (arith, f.sfits)
size32 (negsuc n) f = omega (arith, f.sfits)
