-- From a message to what is kept of it: its values rounded, refusal 7, and the figures of document 01's table.
use Rattle.std.specs.Prelude.{Bool, not, ◌&&◌, List, [], ◌∷◌, ◌++◌, ℕ, ℤ, pos, negsuc, Result, Ok, Err}
use Rattle.number.specs.Refusal.{Test, Answer, refused, given, answer}
use Rattle.quantity.specs.Limits.{inside, pressure_limits, wheelhouse, bulb, metres_per_second, knots}
use Rattle.quantity.specs.Limits as limits
use Rattle.quantity.specs.Convert.{kept_direction}
use Rattle.quantity.specs.declared.BarometerUnit.{BarometerUnit}
use Rattle.quantity.specs.declared.BarometerUnit.TheVariants as unit
use Rattle.quantity.specs.declared.BulbState.{BulbState}
use Rattle.quantity.specs.declared.BulbState.TheVariants.{Water}
use Rattle.quantity.specs.declared.Minute.{Minute}
use Rattle.wire.specs.Bytes.{minute}
use Rattle.message.specs.Value.{tenths, degrees}
use Rattle.wire.specs.Decode.{test, wire_tests, message, number_of}
use Rattle.wire.specs.declared.MessageRefusal.{MessageRefusal}
use Rattle.wire.specs.declared.Message.{Message}
use Rattle.wire.specs.declared.Message.TheVariants.{Barometer, Wheelhouse, ApparentWind, ShipMotion, DryBulb, WetBulb}
use Rattle.message.specs.declared.Reading.{Reading}
use Rattle.message.specs.declared.Reading.TheVariants as kept

-- A figure of the table's column "Values kept", with its unit: tenths, but for directions, which are whole degrees. Beside the wet
-- bulb's temperature stands what is on its wick.
pub data Figure : Type 0 where
  hPa mmHg °C m/s kn deg : ℤ → Figure
  wick : BulbState → Figure
  none : Figure

-- A figure by its unit: what its number comes to in each, and what stands where it has none.
abbrev pub by_unit : {A : Type 0} → (inHPa inMmHg in°C inM/s inKn inDeg : ℤ → A) → A → Figure → A
by_unit inHPa inMmHg in°C inM/s inKn inDeg other (hPa z) = inHPa z
by_unit inHPa inMmHg in°C inM/s inKn inDeg other (mmHg z) = inMmHg z
by_unit inHPa inMmHg in°C inM/s inKn inDeg other (°C z) = in°C z
by_unit inHPa inMmHg in°C inM/s inKn inDeg other (m/s z) = inM/s z
by_unit inHPa inMmHg in°C inM/s inKn inDeg other (kn z) = inKn z
by_unit inHPa inMmHg in°C inM/s inKn inDeg other (deg z) = inDeg z
by_unit inHPa inMmHg in°C inM/s inKn inDeg other (wick s) = other
by_unit inHPa inMmHg in°C inM/s inKn inDeg other none = other

-- Of the units that it could have, a formula takes one: in that the number is itself, in any other it is 0.
abbrev pub itself : ℤ → ℤ
itself z = z

abbrev pub nought : ℤ → ℤ
nought z = pos 0

-- What a figure says of the wick: one that says nothing of it leaves it to be water, and no answer is worked from that.
abbrev pub on_wick : Figure → BulbState
on_wick (hPa z) = Water
on_wick (mmHg z) = Water
on_wick (°C z) = Water
on_wick (m/s z) = Water
on_wick (kn z) = Water
on_wick (deg z) = Water
on_wick (wick s) = s
on_wick none = Water

-- What is kept of a message.
pub record Entry : Type 0 where
  pub channel : ℕ
  pub minute : ℕ
  pub first : Figure
  pub second : Figure

-- "tenths of hPa or mm Hg"
abbrev pub pressure : BarometerUnit → ℤ → Figure
pressure unit.Hectopascals z = hPa z
pressure unit.Millimetres z = mmHg z

-- "A direction of 360 is kept as 0." (One below 0 is refused.)
abbrev pub compass : ℤ → ℤ
compass (pos n) = pos (kept_direction n)
compass (negsuc n) = negsuc n

-- The table, row by row: what is kept of a message, and whether it lies outside its limits.
abbrev pub entry : BarometerUnit → ℕ → Message → Entry
entry u t (Barometer x) = record { channel = 0; minute = t; first = pressure u (tenths x); second = none }
entry u t (Wheelhouse x) = record { channel = 1; minute = t; first = °C (tenths x); second = none }
entry u t (ApparentWind p) = record { channel = 2; minute = t; first = m/s (tenths p.speed); second = deg (compass (degrees p.angle)) }
entry u t (ShipMotion p) = record { channel = 3; minute = t; first = kn (tenths p.speed); second = deg (compass (degrees p.angle)) }
entry u t (DryBulb x) = record { channel = 4; minute = t; first = °C (tenths x); second = none }
entry u t (WetBulb s x) = record { channel = 5; minute = t; first = °C (tenths x); second = wick s }

abbrev pub outside : BarometerUnit → Message → Bool
outside u (Barometer x) = not (inside (pressure_limits u) (tenths x))
outside u (Wheelhouse x) = not (inside wheelhouse (tenths x))
outside u (ApparentWind p) = not (inside metres_per_second (tenths p.speed) && inside limits.degrees (degrees p.angle))
outside u (ShipMotion p) = not (inside knots (tenths p.speed) && inside limits.degrees (degrees p.angle))
outside u (DryBulb x) = not (inside bulb (tenths x))
outside u (WetBulb s x) = not (inside bulb (tenths x))

-- "Numbered refusals", 1 to 7, in number order.
abbrev pub limit_tests : BarometerUnit → Message → List (Test ℕ)
limit_tests u m = test 7 (outside u m) ∷ []

abbrev pub tests : BarometerUnit → List ℕ → List (Test ℕ)
tests u m = wire_tests m ++ limit_tests u (message m)

-- What a message comes to on a station whose barometer reads in this unit.
unfoldable pub received : BarometerUnit → List ℕ → Answer ℕ Entry
received u m = answer (tests u m) (entry u (minute m) (message m))

-- Document 01's values of each case.
abbrev pub entry_of : ℕ → Reading → Entry
entry_of t (kept.Hectopascals p) = record { channel = 0; minute = t; first = hPa p.0.v; second = none }
entry_of t (kept.Millimetres p) = record { channel = 0; minute = t; first = mmHg p.0.v; second = none }
entry_of t (kept.Wheelhouse x) = record { channel = 1; minute = t; first = °C x.0.v; second = none }
entry_of t (kept.ApparentWind v d) = record { channel = 2; minute = t; first = m/s (pos v.0); second = deg (pos d.0) }
entry_of t (kept.ShipMotion v d) = record { channel = 3; minute = t; first = kn (pos v.0); second = deg (pos d.0) }
entry_of t (kept.DryBulb x) = record { channel = 4; minute = t; first = °C x.0.v; second = none }
entry_of t (kept.WetBulb s x) = record { channel = 5; minute = t; first = °C x.0.v; second = wick s }

abbrev pub received_as : Result (Minute × Reading) MessageRefusal → Answer ℕ Entry
received_as (Err r) = refused (number_of r)
received_as (Ok s) = given (entry_of s.0.0 s.1)
