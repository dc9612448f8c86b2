-- Saturation of water vapour, the dew point, relative humidity and deficit (document 01, "Humidity"). Temperatures in tenths of °C
-- unless it says thousandths, pressures of vapour in hundredths of hPa.
use Rattle.std.specs.Prelude.{◌≡◌, Bool, true, false, ◌&&◌, cond, ℕ, suc, ◌+◌, ◌*◌, ◌-◌, leb, eqb, ℤ, pos, negsuc, ◌*ℤ◌, ◌+ℤ◌, ◌-ℤ◌, Option, Some, None}
use Rattle.number.specs.Round.{nearest}
use Rattle.quantity.specs.Limits.{Limits, inside, bulb, frost}
use Rattle.vapour.specs.Exp.{BelowExp, BelowReciprocal}
use Rattle.vapour.specs.declared.Saturations.{Saturations}
use Rattle.vapour.specs.declared.VapourPressure.{VapourPressure}
use Rattle.vapour.specs.declared.DewTemperature.{DewTemperature}

-- The constants of a formula scale · exp (factor · t / (offset + t)) hPa at t °C: scale and factor in ten-thousandths, offset in
-- thousandths of a degree.
pub record Formula : Type 0 where
  pub scale : ℕ
  pub factor : ℕ
  pub offset : ℕ

-- "Saturation pressure over water at t °C is 6.1121 exp(17.5043 t / (241.2 + t)) hPa."
abbrev pub water : Formula
water = record { scale = 61121; factor = 175043; offset = 241200 }

-- "State 1 is ice: saturation by formula (14a)" of 004: 6.1121 exp(22.4893 t / (272.881 + t)) hPa
abbrev pub ice : Formula
ice = record { scale = 61121; factor = 224893; offset = 272881 }

-- u / v hundredths of hPa lie below the exact saturation at t thousandths of a degree. From 0 up the exponent is
-- factor · m / (10000 · (offset + m)), under 0 minus factor · m / (10000 · (offset - m)); u / v is compared over scale / 100.
-- It means the formula above -offset (-241.2 °C over water, -272.881 over ice); from there down nothing lies below, as if saturation were 0.
unfoldable pub Below : Formula → ℤ → ℕ → ℕ → Type 0
Below f (pos m) u v = BelowExp (f.factor * m) (10000 * (f.offset + m)) (100 * u) (f.scale * v)
Below f (negsuc n) u v = BelowReciprocal (f.factor * suc n) (10000 * (f.offset - suc n)) (100 * u) (f.scale * v)

-- "Each entry lies within half a hundredth of the exact value.": r - 1/2 < exact saturation at t ≤ r + 1/2
pub record Near (f : Formula) (t : ℤ) (r : ℕ) : Type 0 where
  pub low : Below f (pos 100 *ℤ t) (2 * r - 1) 2
  pub high : Below f (pos 100 *ℤ t) (2 * r + 1) 2 → ⊥

-- "Dew point: the tenth T with exact saturation at T - 0.05 ≤ e < exact saturation at T + 0.05."
pub record DewPoint (e : ℕ) (t : ℤ) : Type 0 where
  pub reached : Below water (pos 100 *ℤ t -ℤ pos 50) e 1 → ⊥
  pub short : Below water (pos 100 *ℤ t +ℤ pos 50) e 1

-- "One table for -40.0 to 50.0 °C", over water: both bulbs have their entries, or one of them lies outside.
abbrev pub AreSaturations : ℤ → ℤ → Option Saturations → Type 0
AreSaturations dry wet (Some s) =
    ((inside bulb dry && inside bulb wet) ≡ true) × Near water dry s.dry.0 × Near water wet s.wet.0
AreSaturations dry wet None = (inside bulb dry && inside bulb wet) ≡ false

-- "A second table is wanted from -40.0 to 0.0": a bulb has its entry, or lies outside.
abbrev pub IsOverIce : ℤ → Option VapourPressure → Type 0
IsOverIce t (Some e) = (inside frost t ≡ true) × Near ice t e.0
IsOverIce t None = inside frost t ≡ false

-- A table by tenths within limits: any function that gives each tenth its entry.
abbrev pub IsTable : Formula → Limits → (ℤ → ℕ) → Type 0
IsTable f limits table = (t : ℤ) → inside limits t ≡ true → Near f t (table t)

-- "One table for -40.0 to 50.0 °C by tenths", and the second over ice. There are such (proofs/TablesExist).
pub record Tables : Type 0 where
  pub over_water : ℤ → ℕ
  pub over_ice : ℤ → ℕ

pub record AreTables (tables : Tables) : Type 0 where
  pub of_water : IsTable water bulb tables.over_water
  pub of_ice : IsTable ice frost tables.over_ice

-- A watch file's range of e and of saturation, which is the table's: "e 19 to saturation, saturation 19 to 12345".
abbrev pub lowest_vapour : ℕ
lowest_vapour = 19

abbrev pub highest_vapour : ℕ
highest_vapour = 12345

abbrev pub recorded_vapour : ℕ → Bool
recorded_vapour e = leb lowest_vapour e && leb e highest_vapour

-- The dew point of e in that range.
abbrev pub IsDew : ℕ → Option DewTemperature → Type 0
IsDew e (Some t) = (recorded_vapour e ≡ true) × DewPoint e t.0.v
IsDew e None = recorded_vapour e ≡ false

-- Whether t is the dew point of e in that range.
abbrev pub TellsDew : ℕ → ℤ → Bool → Type 0
TellsDew e t true = (recorded_vapour e ≡ true) × DewPoint e t
TellsDew e t false = recorded_vapour e ≡ true → DewPoint e t → ⊥

-- "Relative humidity: 100 e / table(dry), rounded to 1 %." No saturation of the table is 0; of a saturation of 0 it is 0.
abbrev pub relative_humidity : ℕ → ℕ → ℕ
relative_humidity e saturation = cond (eqb saturation 0) 0 (nearest (100 * e) saturation)

-- "Deficit: table(dry) - e." 0 where e is the larger, which no answer's is.
abbrev pub vapour_deficit : ℕ → ℕ → ℕ
vapour_deficit e saturation = saturation - e
