-- What the parts of the work ask of each other.
use Rattle.std.specs.Prelude.{◌≡◌, Bool, true, ℕ, ◌≤◌, ℤ, pos, nat_abs, Result, Ok, Err}
use Rattle.number.specs.Refusal.{answer}
use Rattle.quantity.specs.Limits.{inside, bulb, frost, recorded_pressure}
use Rattle.quantity.specs.declared.BulbState.{BulbState}
use Rattle.settings.specs.Settings.{psychrometer}
use Rattle.vapour.specs.Vapour.{Near, water, ice}
use Rattle.humidity.specs.Humidity.{within_limits, by_vapour, moisture_as, Follow, IsMoisture}
use Rattle.humidity.specs.declared.Air.{Air}
use Rattle.humidity.specs.declared.HumidityFigures.{HumidityFigures}
use Rattle.humidity.specs.declared.HumidityRefusal.{HumidityRefusal}
use Rattle.number.specs.declared.Number.{Number}

-- refusal 7 does not hold
abbrev pub in_limits : Air → Bool
in_limits air = within_limits air.dry.0.v air.wet.0.v air.pressure.0.v air.a.0.v

-- refusal 7 does not hold, and the wet bulb has this entry over water
pub record Tabled (air : Air) (w : ℕ) : Type 0 where
  pub limits : in_limits air ≡ true
  pub near_wet : Near water air.wet.0.v w

-- refusal 7 does not hold, and the wet bulb has this entry over ice
pub record Frozen (air : Air) (i : ℕ) : Type 0 where
  pub limits : in_limits air ≡ true
  pub within : inside frost air.wet.0.v ≡ true
  pub near : Near ice air.wet.0.v i

-- no figure is larger than its limits allow
pub record Sized (air : Air) : Type 0 where
  pub size_dry : nat_abs air.dry.0.v ≤ nat_abs bulb.high
  pub size_wet : nat_abs air.wet.0.v ≤ nat_abs bulb.high
  pub size_p : nat_abs air.pressure.0.v ≤ nat_abs recorded_pressure.high
  pub size_a : nat_abs air.a.0.v ≤ nat_abs psychrometer.high

-- no factor is larger than that over water at 50.0 °C
abbrev pub largest_factor : ℕ
largest_factor = 1057500

-- no e is larger before it is rounded: 12345 times the parts of a hundredth and 1000 × 11500 × 1000 × the largest factor
abbrev pub largest_exact : ℕ
largest_exact = 24506250000000000

-- figures by their numbers: e, saturation, deficit, relative humidity, dew point
abbrev pub figures_by : ℕ → ℕ → ℕ → ℕ → ℤ → HumidityFigures
figures_by e saturation deficit relative dew =
    record {
      e = record { 0 = e };
      saturation = record { 0 = saturation };
      deficit = record { 0 = deficit };
      relative = relative;
      dew = record { 0 = record { v = dew } };
    }

-- the figures of e and saturation
pub record FiguresOf (e : ℤ) (s : ℕ) (h : HumidityFigures) : Type 0 where
  pub is_e : pos h.e.0 ≡ e
  pub is_saturation : h.saturation.0 ≡ s
  pub follow : Follow h

-- what e and saturation come to: 22, 15, or the figures
pub record IsByVapour (e : ℤ) (saturation : ℕ) (m : Result HumidityFigures HumidityRefusal) : Type 0 where
  pub figures : HumidityFigures
  pub first : moisture_as m ≡ answer (by_vapour saturation e) figures
  pub worked : m ≡ Ok figures → FiguresOf e saturation figures

-- what both bulbs, the station pressure and A come to
abbrev pub Comes : BulbState → Air → Result HumidityFigures HumidityRefusal → Type 0
Comes s air m = IsMoisture s air.dry.0.v air.wet.0.v air.pressure.0.v air.a.0.v m

-- what the wet bulb comes to decides all, with the dry bulb's entry d: its refusal is the answer, or e and d give it
abbrev pub Decided : BulbState → Air → ℕ → Result Number HumidityRefusal → Type 0
Decided s air d (Ok e) = (m : Result HumidityFigures HumidityRefusal) → IsByVapour e.v d m → Comes s air m
Decided s air d (Err r) = Comes s air (Err r)

abbrev pub Decides : BulbState → Air → Result Number HumidityRefusal → Type 0
Decides s air v = (d : ℕ) → Near water air.dry.0.v d → Decided s air d v
