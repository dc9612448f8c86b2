-- The tables by place: -40.0 °C stands at 0, and each place is a tenth of a degree.
use Rattle.std.specs.Prelude.{ℕ, ◌+◌, ◌*◌, ◌/◌, ◌<◌, ◌≤◌, ◌≡◌, true, false, ℤ, pos, ◌*ℤ◌, ◌-ℤ◌, Option, Some, None}
use Rattle.quantity.specs.Limits.{inside, bulb}
use Rattle.vapour.specs.Vapour.{Below, Near, water}
use Rattle.vapour.specs.declared.Curve.{Curve}
use Rattle.vapour.specs.declared.VapourPressure.{VapourPressure}

-- the tenth at a place
abbrev pub tenth : ℕ → ℤ
tenth i = pos i -ℤ pos 400

-- a bulb has its entry over water, or lies outside
abbrev pub IsOverWater : ℤ → Option VapourPressure → Type 0
IsOverWater t (Some e) = (inside bulb t ≡ true) × Near water t e.0
IsOverWater t None = inside bulb t ≡ false

-- r is the least whole hundredth at or above the exact saturation half a tenth under the tenth at place i
pub record Least (i r : ℕ) : Type 0 where
  pub reached : (e : ℕ) → r ≤ e → Below water (pos 100 *ℤ tenth i -ℤ pos 50) e 1 → ⊥
  pub short : (e : ℕ) → e < r → Below water (pos 100 *ℤ tenth i -ℤ pos 50) e 1

-- e is at least the exact saturation half a tenth under the tenth at place i
abbrev pub Reaches : ℕ → ℕ → Type 0
Reaches e i = Below water (pos 100 *ℤ tenth i -ℤ pos 50) e 1 → ⊥

-- how far a curve has gone w 65536ths of its stretch on: slope, bend and twist by w, in 65536ths
abbrev pub gone_of : Curve → ℕ → ℕ
gone_of c w = w * (c.1 + w * (c.2 + w * c.3 / 65536) / 65536) / 65536

-- a row's threshold k places on
abbrev pub threshold_of : Curve → ℕ → ℕ
threshold_of c k = (c.0 + gone_of c (1024 * k)) / 65536

-- the thresholds of the 64 places from 64 n
pub record IsRow (n : ℕ) (c : Curve) : Type 0 where
  pub least : (k : ℕ) → k < 64 → Least (64 * n + k) (threshold_of c k)
