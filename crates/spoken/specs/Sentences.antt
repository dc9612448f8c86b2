-- What people read of an answer and of a reading.
use Rattle.std.specs.Prelude.{cond, List, ◌++◌, ℕ, eqb, ℤ}
use Rattle.text.specs.Letters.{letters}
use Rattle.text.specs.Text.{decimal}
use Rattle.spoken.specs.Figures.{tenths, hundredths, tenths_of, change_of, degree, celsius, minutes}

-- ---- the four answers

-- `1005.7 hPa at sea level`
abbrev pub pressure_text : ℤ → List ℕ
pressure_text p = tenths_of p ++ letters " hPa at sea level"

-- `-0.1 hPa in three hours, 11 minutes without a reading`
abbrev pub tendency_text : ℤ → ℕ → List ℕ
tendency_text change absent = change_of change ++ (letters " hPa in three hours, " ++ (minutes absent ++ letters " without a reading"))

-- `4.5 m/s from 166°`; no speed is a calm
abbrev pub wind_text : ℕ → ℕ → List ℕ
wind_text speed direction = cond (eqb speed 0) (letters "calm") (tenths speed ++ (letters " m/s from " ++ (decimal direction ++ degree)))

-- `vapour pressure 9.10 hPa, saturation 12.00 hPa, deficit 2.90 hPa, relative humidity 76 %, dew point 5.5 °C`
abbrev pub vapour_text : ℕ → ℕ → ℕ → List ℕ
vapour_text e saturation deficit =
    letters "vapour pressure "
    ++ (hundredths e ++ (letters " hPa, saturation " ++ (hundredths saturation ++ (letters " hPa, deficit " ++ hundredths deficit))))

abbrev pub humidity_text : ℕ → ℕ → ℕ → ℕ → ℤ → List ℕ
humidity_text e saturation deficit relative dew =
    vapour_text e saturation deficit
    ++ (letters " hPa, relative humidity " ++ (decimal relative ++ (letters " %, dew point " ++ (tenths_of dew ++ celsius))))

-- ---- a reading, by its channel

-- `1004.2 hPa`, `753.1 mm Hg`: the unit is 0 for hPa
abbrev pub barometer_text : ℕ → ℤ → List ℕ
barometer_text unit p = tenths_of p ++ cond (eqb unit 0) (letters " hPa") (letters " mm Hg")

-- What is on the wet bulb: 0 water, 1 ice, else unknown.
abbrev pub wick_text : ℕ → List ℕ
wick_text n = cond (eqb n 0) (letters "water on it") (cond (eqb n 1) (letters "ice on it") (letters "state unknown"))

-- `12.4 °C`; the apparent wind `8.5 m/s, 30° from the bow`; the ship `10.2 knots, course 45°`; the wet bulb `9.8 °C, water on it`
abbrev pub reading_text : ℕ → ℕ → ℤ → ℕ → List ℕ
reading_text channel unit first second =
    cond (eqb channel 0) (barometer_text unit first)
    (cond (eqb channel 2) (tenths_of first ++ (letters " m/s, " ++ (decimal second ++ (degree ++ letters " from the bow"))))
    (cond (eqb channel 3) (tenths_of first ++ (letters " knots, course " ++ (decimal second ++ degree)))
    (cond (eqb channel 5) (tenths_of first ++ (celsius ++ (letters ", " ++ wick_text second)))
    (tenths_of first ++ celsius))))
