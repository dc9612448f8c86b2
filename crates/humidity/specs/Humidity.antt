-- Humidity (document 01, "Humidity"; document 02, W3), and refusals 7, 13, 20, 21, 22 and 15. Temperatures are in tenths of °C, the
-- station pressure in tenths of hPa, pressures of vapour in hundredths of hPa, the psychrometer coefficient A in millionths.
use Rattle.std.specs.Prelude.{◌≡◌, Bool, true, false, not, ◌&&◌, cond, List, [], ◌∷◌, ℕ, ◌*◌, ℤ, pos, ◌+ℤ◌, ◌-ℤ◌, ◌*ℤ◌, Result, Ok, Err}
use Rattle.std.specs.Int.Signed.{le_z}
use Rattle.number.specs.Round.{rounded}
use Rattle.number.specs.Refusal.{Test, Answer, refused, given, answer}
use Rattle.quantity.specs.Limits.{inside, bulb, frost, doubtful, recorded_pressure}
use Rattle.quantity.specs.declared.BulbState.{BulbState}
use Rattle.quantity.specs.declared.BulbState.TheVariants.{Water, Ice, Unknown}
use Rattle.settings.specs.Settings.{psychrometer}
use Rattle.vapour.specs.Vapour.{Near, DewPoint, lowest_vapour, relative_humidity, vapour_deficit, water, ice}
use Rattle.humidity.specs.declared.HumidityFigures.{HumidityFigures}
use Rattle.humidity.specs.declared.HumidityRefusal.{HumidityRefusal}
use Rattle.humidity.specs.declared.HumidityRefusal.TheVariants.{WetAboveDry, TooWarmForIce, UnknownOutsideRange, AboveSaturation, TooDry, OutsideLimits}

-- ---- vapour pressure

-- Over water "(1 + 0.00115 wet)", over ice "factor 0.8822, and no 0.00115 term": in millionths
abbrev pub water_factor : ℤ → ℤ
water_factor wet = pos 1000000 +ℤ pos 115 *ℤ wet

abbrev pub ice_factor : ℤ
ice_factor = pos 882200

-- "A × pressure × (dry - wet)" times such a factor is whole in 10¹² parts of a hundredth of hPa.
abbrev pub parts : ℕ
parts = 1000000000000

abbrev pub less_by : ℤ → ℤ → ℤ → ℤ → ℤ → ℤ
less_by factor a p dry wet = a *ℤ p *ℤ (dry -ℤ wet) *ℤ factor

-- e before it is rounded: the table's entry of the wet bulb less that, in these parts
abbrev pub exact : ℕ → ℤ → ℤ → ℤ → ℤ → ℤ → ℤ
exact table factor a p dry wet = pos table *ℤ pos parts -ℤ less_by factor a p dry wet

-- Vapour pressure e by the state, w the wet bulb's entry over water and i that over ice, "rounded once to 0.01 hPa". Water: "table(wet)
-- - A × pressure × (dry - wet) × (1 + 0.00115 wet)". Ice: its own table and factor. Unknown: "if wet isn't below dry it is ice,
-- otherwise e is the mean of the two before rounding".
unfoldable pub vapour_pressure : BulbState → ℕ → ℕ → ℤ → ℤ → ℤ → ℤ → ℤ
vapour_pressure Water w i a p dry wet = rounded (exact w (water_factor wet) a p dry wet) parts
vapour_pressure Ice w i a p dry wet = rounded (exact i ice_factor a p dry wet) parts
vapour_pressure Unknown w i a p dry wet =
    cond (le_z dry wet)
    (rounded (exact i ice_factor a p dry wet) parts)
    (rounded (exact w (water_factor wet) a p dry wet +ℤ exact i ice_factor a p dry wet) (2 * parts))

-- The wet bulb's entries, w over water and i over ice, in the tables that its state asks for.
abbrev pub EntriesFor : BulbState → ℤ → ℕ → ℕ → Type 0
EntriesFor Water wet w i = Near water wet w
EntriesFor Ice wet w i = Near ice wet i
EntriesFor Unknown wet w i = Near water wet w × Near ice wet i

-- ---- the reasons

-- 13: "wet bulb above dry bulb"; "13 is for water only"
abbrev pub wet_above_dry : BulbState → ℤ → ℤ → Bool
wet_above_dry Water dry wet = not (le_z wet dry)
wet_above_dry Ice dry wet = false
wet_above_dry Unknown dry wet = false

-- 20: "state 1 or 2 with wet bulb above 0.0"
abbrev pub too_warm_for_ice : BulbState → ℤ → Bool
too_warm_for_ice Water wet = false
too_warm_for_ice Ice wet = not (le_z wet frost.high)
too_warm_for_ice Unknown wet = not (le_z wet frost.high)

-- 21: "unknown outside its air range"
abbrev pub unknown_outside : BulbState → ℤ → Bool
unknown_outside Water dry = false
unknown_outside Ice dry = false
unknown_outside Unknown dry = not (inside doubtful dry)

-- 22: "e above saturation over water at dry"
abbrev pub above_saturation : ℕ → ℤ → Bool
above_saturation saturation e = not (le_z e (pos saturation))

-- 15: "e below 0.19 hPa"
abbrev pub too_dry : ℤ → Bool
too_dry e = not (le_z (pos lowest_vapour) e)

-- "20, 21 and 22 come in that order after 13 and before 15": of a saturation at the dry bulb, and of e as it is worked.
abbrev pub by_vapour : ℕ → ℤ → List (Test ℕ)
by_vapour saturation e =
    record { refusal = 22; holds = above_saturation saturation e }
    ∷ record { refusal = 15; holds = too_dry e }
    ∷ []

abbrev pub moisture_tests : BulbState → ℤ → ℤ → ℕ → ℤ → List (Test ℕ)
moisture_tests s dry wet saturation e =
    record { refusal = 13; holds = wet_above_dry s dry wet }
    ∷ record { refusal = 20; holds = too_warm_for_ice s wet }
    ∷ record { refusal = 21; holds = unknown_outside s dry }
    ∷ by_vapour saturation e

-- Each figure is within its limits: the bulbs those of channels 4 and 5, the pressure a watch file's, A those of the settings.
abbrev pub within_limits : ℤ → ℤ → ℤ → ℤ → Bool
within_limits dry wet p a = inside bulb dry && inside bulb wet && (inside recorded_pressure p && inside psychrometer a)

-- 7 is tested before all of them.
abbrev pub tests : BulbState → ℤ → ℤ → ℤ → ℤ → ℕ → ℤ → List (Test ℕ)
tests s dry wet p a saturation e = record { refusal = 7; holds = not (within_limits dry wet p a) } ∷ moisture_tests s dry wet saturation e

-- ---- the figures

-- The three figures that follow from e and saturation: deficit, relative humidity and dew point, each by its one definition.
pub record Follow (h : HumidityFigures) : Type 0 where
  pub deficit : h.deficit.0 ≡ vapour_deficit h.e.0 h.saturation.0
  pub relative : h.relative ≡ relative_humidity h.e.0 h.saturation.0
  pub dew : DewPoint h.e.0 h.dew.0.v

-- The figures of both bulbs: saturation is the dry bulb's entry in the table over water, whatever the state; e is worked from the wet
-- bulb's.
pub record IsHumidity (s : BulbState) (dry wet p a : ℤ) (h : HumidityFigures) : Type 0 where
  pub w : ℕ
  pub i : ℕ
  pub entries : EntriesFor s wet w i
  pub saturation : Near water dry h.saturation.0
  pub e : pos h.e.0 ≡ vapour_pressure s w i a p dry wet
  pub follow : Follow h

-- Document 01's number of each case, and its values.
abbrev pub moisture_as : Result HumidityFigures HumidityRefusal → Answer ℕ HumidityFigures
moisture_as (Ok h) = given h
moisture_as (Err WetAboveDry) = refused 13
moisture_as (Err TooWarmForIce) = refused 20
moisture_as (Err UnknownOutsideRange) = refused 21
moisture_as (Err AboveSaturation) = refused 22
moisture_as (Err TooDry) = refused 15
moisture_as (Err OutsideLimits) = refused 7

-- What the wet bulb's state, both bulbs, the station pressure and A come to: the first refusal of the tests, or the figures. The dry
-- bulb has an entry, d, wherever test 7 lets it pass, and the wet bulb those that its state asks for wherever test 20 does too; e is
-- worked from them. Where a test refuses there are no figures, and `figures` is free.
pub record IsMoisture (s : BulbState) (dry wet p a : ℤ) (m : Result HumidityFigures HumidityRefusal) : Type 0 where
  pub d : ℕ
  pub w : ℕ
  pub i : ℕ
  pub near : within_limits dry wet p a ≡ true → Near water dry d
  pub entries : within_limits dry wet p a ≡ true → too_warm_for_ice s wet ≡ false → EntriesFor s wet w i
  pub figures : HumidityFigures
  pub first : moisture_as m ≡ answer (tests s dry wet p a d (vapour_pressure s w i a p dry wet)) figures
  pub worked : m ≡ Ok figures → IsHumidity s dry wet p a figures
