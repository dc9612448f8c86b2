-- What people read, worked by the definitions: an answer of each kind, a reading of each channel, and refusals. Assumes nothing.
use mathlib.Core.Path.{◌≡◌, refl}
use mathlib.Core.List.{◌++◌}
use lib.IntN.{pos, negsuc}
use Rattle.text.specs.Letters.{letters}
use Rattle.text.specs.Text.{digits, decimal}
use Rattle.spoken.specs.Figures.{degree, celsius}
use Rattle.spoken.specs.Sentences.{pressure_text, tendency_text, wind_text, humidity_text, reading_text}
use Rattle.spoken.specs.Refusals.{refusal_text}

-- ---- answers

pub a_pressure : pressure_text (pos 10057) ≡ letters "1005.7 hPa at sea level"
unfolding digits decimal
a_pressure = refl

pub a_fall : tendency_text (negsuc 0) 11 ≡ letters "-0.1 hPa in three hours, 11 minutes without a reading"
unfolding digits decimal
a_fall = refl

pub a_rise : tendency_text (pos 4) 1 ≡ letters "+0.4 hPa in three hours, 1 minute without a reading"
unfolding digits decimal
a_rise = refl

pub no_change : tendency_text (pos 0) 0 ≡ letters "0.0 hPa in three hours, 0 minutes without a reading"
unfolding digits decimal
no_change = refl

pub a_wind : wind_text 45 166 ≡ letters "4.5 m/s from 166" ++ degree
unfolding digits decimal
a_wind = refl

pub a_calm : wind_text 0 0 ≡ letters "calm"
a_calm = refl

pub a_humidity : humidity_text 910 1200 290 76 (negsuc 54)
    ≡ letters "vapour pressure 9.10 hPa, saturation 12.00 hPa, deficit 2.90 hPa, relative humidity 76 %, dew point -5.5" ++ celsius
unfolding digits decimal
a_humidity = refl

-- ---- readings

pub a_barometer : reading_text 0 0 (pos 10042) 0 ≡ letters "1004.2 hPa"
unfolding digits decimal
a_barometer = refl

pub a_barometer_of_mercury : reading_text 0 1 (pos 7531) 0 ≡ letters "753.1 mm Hg"
unfolding digits decimal
a_barometer_of_mercury = refl

pub a_wheelhouse : reading_text 1 0 (pos 124) 0 ≡ letters "12.4" ++ celsius
unfolding digits decimal
a_wheelhouse = refl

pub an_apparent_wind : reading_text 2 0 (pos 85) 30 ≡ letters "8.5 m/s, 30" ++ (degree ++ letters " from the bow")
unfolding digits decimal
an_apparent_wind = refl

pub a_motion : reading_text 3 0 (pos 102) 45 ≡ letters "10.2 knots, course 45" ++ degree
unfolding digits decimal
a_motion = refl

pub a_dry_bulb : reading_text 4 0 (negsuc 0) 0 ≡ letters "-0.1" ++ celsius
unfolding digits decimal
a_dry_bulb = refl

pub a_wet_bulb : reading_text 5 0 (pos 98) 0 ≡ letters "9.8" ++ (celsius ++ letters ", water on it")
unfolding digits decimal
a_wet_bulb = refl

-- ---- refusals

pub no_reading : refusal_text 11 0 820 ≡ letters "the barometer has no reading at minute 820"
unfolding digits decimal
no_reading = refl

pub a_minute_late : refusal_text 19 1 0 ≡ letters "the minute is 1 minute earlier than the channel's newest reading"
unfolding digits decimal
a_minute_late = refl

pub an_hour_late : refusal_text 19 60 0 ≡ letters "the minute is 60 minutes earlier than the channel's newest reading"
unfolding digits decimal
an_hour_late = refl

pub no_store_lem : refusal_text 255 0 0 ≡ letters "the store was never opened"
no_store_lem = refl

pub no_record : refusal_text 254 0 0 ≡ letters "there is no such record"
no_record = refl
