-- The limits of the settings (document 01, "Settings"; document 02, W5), and refusals 9, 10 and 25.
use Rattle.std.specs.Prelude.{◌≡◌, Bool, true, not, ◌&&◌, ◌||◌, List, [], ◌∷◌, ℕ, zero, suc, ◌+◌, ◌-◌, ◌<◌, eqb, leb, ℤ, pos, neg_ℤ, get_or, Result, Ok, Err}
use Rattle.std.specs.Int.Signed.{le_z}
use Rattle.number.specs.Refusal.{Test, Answer, refused, given, answer}
use Rattle.quantity.specs.Limits.{Limits, inside, pressure_limits, metres_per_second}
use Rattle.quantity.specs.declared.BarometerUnit.{BarometerUnit}
use Rattle.settings.specs.declared.Point.{Point}
use Rattle.settings.specs.declared.RatePoint.{RatePoint}
use Rattle.settings.specs.declared.Settings.{Settings}
use Rattle.settings.specs.declared.SettingsRefusal.{SettingsRefusal}
use Rattle.settings.specs.declared.SettingsRefusal.TheVariants.{OutsideLimits, CertificateBroken, AnemometerBroken}

-- "height H 0 to 60.0 m"
abbrev pub height : Limits
height = record { low = pos 0; high = pos 600 }

-- "sea level difference -30.0 to 30.0 m"
abbrev pub difference : Limits
difference = record { low = neg_ℤ (pos 300); high = pos 300 }

-- "temperature coefficient -50 to 50 thousandths of the unit per °C"
abbrev pub coefficient : Limits
coefficient = record { low = neg_ℤ (pos 50); high = pos 50 }

-- "psychrometer coefficient A 500 to 1000 millionths"
abbrev pub psychrometer : Limits
psychrometer = record { low = pos 500; high = pos 1000 }

-- "corrections -5.0 to 5.0"
abbrev pub correction : Limits
correction = record { low = neg_ℤ (pos 50); high = pos 50 }

-- A test passes at each of n numbers from i on.
unfoldable pub every : (ℕ → Bool) → ℕ → ℕ → Bool
every passes i zero = true
every passes i (suc n) = passes i && every passes (suc i) n

-- The point at a place, from 0.
abbrev pub nowhere : Point
nowhere = record { reading = record { v = pos 0 }; correction = record { 0 = record { v = pos 0 } } }

abbrev pub point_at : List Point → ℕ → Point
point_at points i = get_or points i nowhere

-- "readings within channel 0's limits", "corrections -5.0 to 5.0"
abbrev pub point_holds : BarometerUnit → Point → Bool
point_holds u p = inside (pressure_limits u) p.reading.v && inside correction p.correction.0.v

-- "strictly rising"
abbrev pub rises : Point → Point → Bool
rises p q = not (le_z q.reading.v p.reading.v)

-- "a certificate of 2 to 16 points, readings within channel 0's limits and strictly rising, corrections -5.0 to 5.0"
unfoldable pub certificate_holds : BarometerUnit → ℕ → List Point → Bool
certificate_holds u count points =
    leb 2 count
    && leb count 16
    && every (λ i. point_holds u (point_at points i)) 0 count
    && every (λ i. rises (point_at points i) (point_at points (i + 1))) 0 (count - 1)

-- "whole divisions per second, 0 to 9999"
abbrev pub rate : Limits
rate = record { low = pos 0; high = pos 9999 }

abbrev pub no_rate : RatePoint
no_rate = record { rate = record { 0 = record { v = pos 0 } }; speed = record { v = pos 0 } }

abbrev pub rate_point_at : List RatePoint → ℕ → RatePoint
rate_point_at points i = get_or points i no_rate

-- "or its speeds leave channel 2's limits"
abbrev pub rate_point_holds : RatePoint → Bool
rate_point_holds p = inside rate p.rate.0.v && inside metres_per_second p.speed.v

-- "both strictly rising"
abbrev pub rates_rise : RatePoint → RatePoint → Bool
rates_rise p q = not (le_z q.rate.0.v p.rate.0.v) && not (le_z q.speed.v p.speed.v)

-- "a certificate of 2 to 20 points, whole divisions per second, 0 to 9999, against tenths of m/s, both strictly rising"; with no points
-- the store has none.
unfoldable pub anemometer_holds : ℕ → List RatePoint → Bool
anemometer_holds count points =
    eqb count 0
    || (leb 2 count
    && leb count 20
    && every (λ i. rate_point_holds (rate_point_at points i)) 0 count
    && every (λ i. rates_rise (rate_point_at points i) (rate_point_at points (i + 1))) 0 (count - 1))

-- The settings other than the certificates.
unfoldable pub others_hold : ℤ → ℤ → ℤ → ℤ → Bool
others_hold h d k a = inside height h && inside difference d && inside coefficient k && inside psychrometer a

-- "Settings test in number order." 9: "a setting other than the certificate outside limits"; 10: "certificate breaks its rules"; 25: "that
-- certificate breaks its rules, or its speeds leave channel 2's limits, tested at opening after 10"
abbrev pub tests : Settings → List (Test ℕ)
tests s =
    record { refusal = 9; holds = not (others_hold s.height.0.v s.difference.0.v s.coefficient.0.v s.psychrometer.0.v) }
    ∷ record { refusal = 10; holds = not (certificate_holds s.unit s.count s.points) }
    ∷ record { refusal = 25; holds = not (anemometer_holds s.anemometer.count s.anemometer.points) }
    ∷ []

unfoldable pub checked : Settings → Answer ℕ (Unit {0})
checked s = answer (tests s) tt

-- Document 01's number of each case.
abbrev pub checked_as : Result (Unit {0}) SettingsRefusal → Answer ℕ (Unit {0})
checked_as (Ok a) = given a
checked_as (Err OutsideLimits) = refused 9
checked_as (Err CertificateBroken) = refused 10
checked_as (Err AnemometerBroken) = refused 25

-- ---- "the same settings"

-- A certificate is its points: what stands behind their count is none of it.
pub record SameSettings (g h : Settings) : Type 0 where
  pub unit : g.unit ≡ h.unit
  pub height : g.height.0.v ≡ h.height.0.v
  pub difference : g.difference.0.v ≡ h.difference.0.v
  pub coefficient : g.coefficient.0.v ≡ h.coefficient.0.v
  pub psychrometer : g.psychrometer.0.v ≡ h.psychrometer.0.v
  pub count : g.count ≡ h.count
  pub point : (i : ℕ) → i < g.count → point_at g.points i ≡ point_at h.points i
  pub rates : g.anemometer.count ≡ h.anemometer.count
  pub rate : (i : ℕ) → i < g.anemometer.count → rate_point_at g.anemometer.points i ≡ rate_point_at h.anemometer.points i
