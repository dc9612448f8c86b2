-- A watch, and what document 01 answers on it to each question, by computation. Assumes nothing.
use mathlib.Core.Path.{◌≡◌, refl, ap}
use mathlib.Core.Bool.{true}
use mathlib.Core.List.{List, [], ◌∷◌, ◌++◌}
use Prim.Native.Nat.{ℕ}
use lib.Dec.{T, lit<}
use lib.Ieee.{of_bits}
use lib.IntN.{ℤ, pos, neg_ℤ}
use lib.ListN.{replicate}
use Rattle.number.specs.Round.{nearest, rounded}
use Rattle.number.specs.Refusal.{given, answer}
use Rattle.quantity.specs.Limits.{inside, bulb, frost}
use Rattle.quantity.specs.declared.BarometerUnit.TheVariants as unit
use Rattle.message.specs.Value.{to_whole}
use Rattle.message.specs.Receive.{received}
use Rattle.settings.specs.Settings.{checked, every, certificate_holds, no_rate, anemometer_holds, others_hold}
use Rattle.settings.specs.declared.Settings.{Settings}
use Rattle.settings.specs.declared.Point.{Point}
use Rattle.window.specs.Window.{absents}
use Rattle.cell.specs.Cells.{is_present}
use Rattle.store.specs.Block.{hearing, outcome, recall_of}
use Rattle.store.specs.History.{Sent, bytes, history, remembered, store_of}
use Rattle.store.proofs.HistoryLaws.{store_remembers}
use Rattle.sine.specs.Sines.{sines}
use Rattle.sine.specs.Sine.{fold, size, sine, cosine}
use Rattle.certificate.specs.Line.{value_from, none_round}
use Rattle.pressure.specs.Pressure.{scale, outside, temperature, height, sea_level, station_pressure, tenths_in}
use Rattle.wind.specs.Wind.{sum, N, M, meets, count, between, turned, compass, from}
use Rattle.wind.specs.Answer.{within_limits}
use Rattle.wind.proofs.WindTest.{is_nearest, is_wind, tested}
use Rattle.vapour.specs.Vapour.{water, ice, Tables, AreTables}
use Rattle.vapour.proofs.SaturationLaws.{near_test, near_by_test, near_one}
use Rattle.vapour.proofs.DewLaws.{dew_test, dew_by_test}
use Rattle.humidity.specs.Humidity.{vapour_pressure}
use Rattle.humidity.specs.Parts.{figures_by}
use Rattle.station.specs.Source.{heard}
use Rattle.station.specs.Questions.{Answers, Tells}
use Rattle.station.specs.Questions as asked
use Rattle.std.specs.Prelude.{Result, Ok, Err}
use Rattle.quantity.specs.declared.Hectopascals.{Hectopascals}
use Rattle.wind.specs.declared.Wind.{Wind}
use Rattle.humidity.specs.declared.HumidityFigures.{HumidityFigures}
use Rattle.station.specs.declared.QuestionRefusal.{QuestionRefusal}
use Rattle.station.specs.declared.QuestionRefusal.TheVariants.{MissingReading}
use Rattle.station.specs.declared.PressureTendency.{PressureTendency}
use Rattle.heard.proofs.RefusalsInOrder.{message_by_messages}
use Rattle.octets.specs.Bytes.{bytes32}

-- ---- settings and messages

abbrev point : ℕ → Point
point reading = record { reading = record { v = pos reading }; correction = record { 0 = record { v = pos 0 } } }

-- In hPa at sea level; certificate 850.0:0, 1100.0:0; A 662.
abbrev pub ship : Settings
ship =
    record {
      unit = unit.Hectopascals;
      height = record { 0 = record { v = pos 0 } };
      difference = record { 0 = record { v = pos 0 } };
      coefficient = record { 0 = record { v = pos 0 } };
      psychrometer = record { 0 = record { v = pos 662 } };
      count = 2;
      points = point 8500 ∷ replicate 15 (point 11000);
      anemometer = record { count = 0; points = replicate 20 no_rate };
    }

-- The message of a channel with a state at a minute with the patterns of two values, and that of state 0.
abbrev stated : ℕ → ℕ → ℕ → ℕ → ℕ → List ℕ
stated channel state minute first second = channel ∷ state ∷ 0 ∷ 0 ∷ bytes32 minute ++ bytes32 first ++ bytes32 second

abbrev sent : ℕ → ℕ → ℕ → ℕ → List ℕ
sent channel minute first second = stated channel 0 minute first second

-- All but the barometer, at 100 and 280, newest first. Wheelhouse 12.5 °C; 2.5 m/s at 40° and course 260 at 12.5 kn, then 0 at 0° and
-- course 30 at 10.0 kn; bulbs 20.0 and 15.0 °C, then both 0.0 °C.
abbrev pub others : List Sent
others =
    bytes (sent 5 280 0 0)
    ∷ bytes (sent 4 280 0 0)
    ∷ bytes (sent 3 280 0x4120_0000 0x41f0_0000)
    ∷ bytes (sent 2 280 0 0)
    ∷ bytes (sent 1 280 0x4148_0000 0)
    ∷ bytes (sent 5 100 0x4170_0000 0)
    ∷ bytes (sent 4 100 0x41a0_0000 0)
    ∷ bytes (sent 3 100 0x4148_0000 0x4382_0000)
    ∷ bytes (sent 2 100 0x4020_0000 0x4220_0000)
    ∷ bytes (sent 1 100 0x4148_0000 0)
    ∷ []

-- Then the barometer: 1000.0 hPa at 100; at 280 1001.0, with nothing or another reading between, or 999.0.
abbrev pub at_100 : List ℕ
at_100 = sent 0 100 0x447a_0000 0

abbrev pub at_280 : List ℕ
at_280 = sent 0 280 0x447a_4000 0

abbrev pub quiet : List Sent
quiet = bytes at_280 ∷ bytes at_100 ∷ others

abbrev pub busier : List Sent
busier = bytes at_280 ∷ bytes (sent 0 200 0x447a_0000 0) ∷ bytes at_100 ∷ others

abbrev pub falling : List Sent
falling = bytes (sent 0 280 0x4479_c000 0) ∷ bytes at_100 ∷ others

pub good : checked ship ≡ given tt
unfolding checked answer every certificate_holds anemometer_holds others_hold
good = refl

-- ---- hearing

pub hears_at_100 : outcome (hearing (store_of ship others) at_100) ≡ given tt
unfolding answer history received to_whole nearest of_bits
hears_at_100 = ap outcome (message_by_messages ship good others at_100)

pub kept_at_100 : is_present (recall_of (store_of ship (bytes at_100 ∷ others)) 0 100) ≡ true
unfolding answer history received to_whole nearest of_bits remembered
kept_at_100 = ap is_present ((store_remembers ship good (bytes at_100 ∷ others)).cells 0 (lit< tt) 100)

-- ---- pressure

abbrev pub pressed : ℤ → Result Hectopascals QuestionRefusal
pressed p = Ok (record { 0 = record { v = p } })

abbrev pub missing : ℕ → ℕ → Result Hectopascals QuestionRefusal
missing channel minute = Err (MissingReading channel (record { 0 = minute }))

pub pressures :
    Tells asked.pressure (heard ship quiet) 100 (pressed (pos 10000))
    × Tells asked.pressure (heard ship quiet) 280 (pressed (pos 10010))
    × Tells asked.pressure (heard ship (bytes at_100 ∷ others)) 280 (missing 0 280)
unfolding Answers answer history received to_whole nearest rounded of_bits remembered every value_from none_round scale outside temperature height sea_level tenths_in
pressures = (λ tables tabled. (refl, refl), λ tables tabled. (refl, refl), λ tables tabled. refl)

-- ---- tendency

abbrev pub changed : ℤ → ℕ → Result PressureTendency QuestionRefusal
changed c n = Ok (record { change = record { 0 = record { v = c } }; absent = n })

pub tendencies :
    Tells asked.tendency (heard ship quiet) 280 (changed (pos 10) 179)
    × Tells asked.tendency (heard ship busier) 280 (changed (pos 10) 178)
    × Tells asked.tendency (heard ship falling) 280 (changed (neg_ℤ (pos 10)) 179)
unfolding Answers answer history received to_whole nearest rounded of_bits remembered absents every value_from none_round scale outside temperature height sea_level tenths_in
tendencies = (
  λ tables tabled. (refl, record { change = refl; absent = refl }),
  λ tables tabled. (refl, record { change = refl; absent = refl }),
  λ tables tabled. (refl, record { change = refl; absent = refl }),
)

-- ---- wind

abbrev pub blown : ℕ → ℕ → Result Wind QuestionRefusal
blown v d = Ok (record { speed = record { 0 = v }; direction = record { 0 = d } })

pub winds : Tells asked.wind (heard ship others) 100 (blown 48 60) × Tells asked.wind (heard ship others) 280 (blown 51 210)
unfolding Answers answer history received to_whole nearest of_bits remembered sines fold size sine cosine sum N M meets count between turned compass from within_limits is_nearest is_wind
winds = (λ tables tabled. (refl, tested 260 125 25 40 48 60 refl), λ tables tabled. (refl, tested 30 100 0 0 51 210 refl))

-- ---- humidity

abbrev pub moist : ℕ → ℕ → ℕ → ℕ → ℤ → Result HumidityFigures QuestionRefusal
moist e saturation deficit relative dew = Ok (figures_by e saturation deficit relative dew)

-- any tables' entries of a bulb
over_water_lem : (tables : Tables) → AreTables tables → (t : ℤ) (n : ℕ) → inside bulb t ≡ true → T (near_test water t n) → tables.over_water t ≡ n
over_water_lem tables tabled t n i passed = near_one water t (tables.over_water t) n (tabled.of_water t i) (near_by_test water t n passed)

over_ice_lem : (tables : Tables) → AreTables tables → (t : ℤ) (n : ℕ) → inside frost t ≡ true → T (near_test ice t n) → tables.over_ice t ≡ n
over_ice_lem tables tabled t n i passed = near_one ice t (tables.over_ice t) n (tabled.of_ice t i) (near_by_test ice t n passed)

pub humidities :
    Tells asked.humidity (heard ship quiet) 100 (moist 1366 2335 969 59 (pos 116)) × Tells asked.humidity (heard ship quiet) 280 (moist 611 611 0 100 (pos 0))
unfolding Answers answer history received to_whole nearest rounded of_bits remembered every value_from none_round scale outside station_pressure tenths_in vapour_pressure near_test dew_test
humidities = (
  λ tables tabled. (
    rw (over_water_lem tables tabled (pos 150) 1703 refl tt, over_water_lem tables tabled (pos 200) 2335 refl tt),
    record {
      w = 1703;
      i = 0;
      entries = near_by_test water (pos 150) 1703 tt;
      saturation = near_by_test water (pos 200) 2335 tt;
      e = refl;
      follow = record { deficit = refl; relative = refl; dew = dew_by_test 1366 (pos 116) tt };
    },
  ),
  λ tables tabled. (
    rw (over_water_lem tables tabled (pos 0) 611 refl tt),
    record {
      w = 611;
      i = 0;
      entries = near_by_test water (pos 0) 611 tt;
      saturation = near_by_test water (pos 0) 611 tt;
      e = refl;
      follow = record { deficit = refl; relative = refl; dew = dew_by_test 611 (pos 0) tt };
    },
  ),
)

-- Both bulbs at -10.0 °C at 300, with water or with ice on the wick: two messages that differ in the state alone, and two answers.
abbrev pub frosty : ℕ → List Sent
frosty state = bytes (stated 5 state 300 0xc120_0000 0) ∷ bytes (sent 4 300 0xc120_0000 0) ∷ bytes (sent 0 300 0x447a_0000 0) ∷ quiet

pub state_decides :
    Tells asked.humidity (heard ship (frosty 0)) 300 (moist 287 287 0 100 (neg_ℤ (pos 100)))
    × Tells asked.humidity (heard ship (frosty 1)) 300 (moist 260 287 27 91 (neg_ℤ (pos 112)))
unfolding Answers answer history received to_whole nearest rounded of_bits remembered every value_from none_round scale outside station_pressure tenths_in vapour_pressure near_test dew_test
state_decides = (
  λ tables tabled. (
    rw (over_water_lem tables tabled (neg_ℤ (pos 100)) 287 refl tt),
    record {
      w = 287;
      i = 0;
      entries = near_by_test water (neg_ℤ (pos 100)) 287 tt;
      saturation = near_by_test water (neg_ℤ (pos 100)) 287 tt;
      e = refl;
      follow = record { deficit = refl; relative = refl; dew = dew_by_test 287 (neg_ℤ (pos 100)) tt };
    },
  ),
  λ tables tabled. (
    rw (over_water_lem tables tabled (neg_ℤ (pos 100)) 287 refl tt, over_ice_lem tables tabled (neg_ℤ (pos 100)) 260 refl tt),
    record {
      w = 287;
      i = 260;
      entries = near_by_test ice (neg_ℤ (pos 100)) 260 tt;
      saturation = near_by_test water (neg_ℤ (pos 100)) 287 tt;
      e = refl;
      follow = record { deficit = refl; relative = refl; dew = dew_by_test 260 (neg_ℤ (pos 112)) tt };
    },
  ),
)
