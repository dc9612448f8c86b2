-- The watch with a gap: the station's settings, the messages sent, and what a minute's recall says.
use Rattle.std.specs.Prelude.{cond, List, [], ◌∷◌, ◌++◌, ℕ, eqb, pos, nat_abs, replicate}
use Rattle.number.specs.declared.Kept.{Kept}
use Rattle.quantity.specs.declared.BarometerUnit.TheVariants.{Hectopascals}
use Rattle.octets.specs.Bytes.{bytes32}
use Rattle.message.specs.Receive.{Figure, by_unit, itself, nought}
use Rattle.settings.specs.Settings.{nowhere, no_rate}
use Rattle.settings.specs.declared.Point.{Point}
use Rattle.settings.specs.declared.Settings.{Settings}
use Rattle.cell.specs.Cells.{Recall, absent, recalled}
use Rattle.store.specs.History.{Sent, bytes}

abbrev tenths : ℕ → Kept
tenths n = record { v = pos n }

-- A station at the sea's height, with a barometer in hPa that needs no correction, and no anemometer.
abbrev pub uncorrected : ℕ → Point
uncorrected reading = record { reading = tenths reading; correction = record { 0 = tenths 0 } }

abbrev pub ship : Settings
ship =
    record {
      unit = Hectopascals;
      height = record { 0 = tenths 0 };
      difference = record { 0 = tenths 0 };
      coefficient = record { 0 = tenths 0 };
      psychrometer = record { 0 = tenths 662 };
      count = 2;
      points = uncorrected 8500 ∷ uncorrected 11000 ∷ replicate 14 nowhere;
      anemometer = record { count = 0; points = replicate 20 no_rate };
    }

-- The message of a channel at a minute with the pattern of one value.
abbrev pub sent : ℕ → ℕ → ℕ → List ℕ
sent channel minute value = channel ∷ 0 ∷ 0 ∷ 0 ∷ bytes32 minute ++ bytes32 value ++ bytes32 0

-- The messages up to each minute, newest first: 1013.2 hPa and 12.5 °C; 1009.7 hPa and 13.0 °C; 1008.4 hPa and 13.5 °C.
abbrev pub to_100 : List Sent
to_100 = bytes (sent 1 100 0x4148_0000) ∷ bytes (sent 0 100 0x447d_4ccd) ∷ []

abbrev pub to_280 : List Sent
to_280 = bytes (sent 1 280 0x4150_0000) ∷ bytes (sent 0 280 0x447c_6ccd) ∷ to_100

abbrev pub to_400 : List Sent
to_400 = bytes (sent 1 400 0x4158_0000) ∷ bytes (sent 0 400 0x447c_199a) ∷ to_280

-- A pressure in tenths of hPa, and the wheelhouse's temperature in tenths of °C without its sign; 0 where there is none.
abbrev pub pressure_of : Figure → ℕ
pressure_of f = nat_abs (by_unit itself nought nought nought nought nought (pos 0) f)

abbrev pub temperature_of : Figure → ℕ
temperature_of f = nat_abs (by_unit nought nought itself nought nought nought (pos 0) f)

abbrev pub pressure_in : Recall → ℕ
pressure_in absent = 0
pressure_in (recalled e) = pressure_of e.first

abbrev pub temperature_in : Recall → ℕ
temperature_in absent = 0
temperature_in (recalled e) = cond (eqb e.channel 1) (temperature_of e.first) 0
