-- Lines of answers, worked by the definitions: one of each kind, and refusals with what they also return. Assumes nothing.
use mathlib.Core.Path.{◌≡◌, refl}
use mathlib.Core.List.{[], ◌∷◌}
use lib.IntN.{pos, negsuc}
use Rattle.text.specs.Letters.{letters}
use Rattle.text.specs.Text.{digits, decimal, decimal_of}
use Rattle.std.specs.Prelude.{Ok, Err}
use Rattle.settings.specs.declared.SettingsRefusal.TheVariants as settings
use Rattle.store.specs.declared.HearingRefusal.TheVariants as hearing
use Rattle.station.specs.declared.QuestionRefusal.TheVariants as question
use Rattle.writer.specs.declared.WriteRefusal.TheVariants as written
use Rattle.hexadecimal.specs.Row.{row}
use Rattle.answer.specs.Answer.{opening_line, hearing_line, noting_line, pressure_line, tendency_line, wind_line, humidity_line, written_line}

pub opened : opening_line (Ok tt) ≡ letters "open\n"
opened = refl

pub broken_certificate : opening_line (Err settings.CertificateBroken) ≡ letters "refused 10\n"
unfolding digits decimal row
broken_certificate = refl

pub heard : hearing_line (Ok tt) ≡ letters "heard\n"
heard = refl

pub repeated : hearing_line (Err hearing.Repeated) ≡ letters "refused 8\n"
unfolding digits decimal row
repeated = refl

-- an hour late
pub late : hearing_line (Err (hearing.Late 60)) ≡ letters "refused 19 60\n"
unfolding digits decimal row
late = refl

pub broken_anemometer : opening_line (Err settings.AnemometerBroken) ≡ letters "refused 25\n"
unfolding digits decimal row
broken_anemometer = refl

pub noted : noting_line (Ok tt) ≡ letters "noted\n"
noted = refl

-- an entry without a course
pub no_course : noting_line (Err (hearing.NoCourse (record { 0 = 820 }))) ≡ letters "refused 11 3 820\n"
unfolding digits decimal row
no_course = refl

pub outside_dial : noting_line (Err hearing.OutsideDial) ≡ letters "refused 23\n"
unfolding digits decimal row
outside_dial = refl

-- a block that is no store
pub no_store_lem : hearing_line (Err hearing.NoStore) ≡ letters "refused 255\n"
unfolding digits decimal row
no_store_lem = refl

-- document 01's certificate figure
pub a_pressure : pressure_line 280 (Ok (record { 0 = record { v = pos 9900 } })) ≡ letters "P 280 9900\n"
unfolding digits decimal decimal_of
a_pressure = refl

-- "tendency at 400 is refusal 11, channel 0, minute 220"
pub missing : tendency_line 400 (Err (question.MissingReading 0 (record { 0 = 220 }))) ≡ letters "refused 11 0 220\n"
unfolding digits decimal row
missing = refl

pub a_tendency : tendency_line 280 (Ok (record { change = record { 0 = record { v = negsuc 17 } }; absent = 179 })) ≡ letters "T 280 -18 179\n"
unfolding digits decimal decimal_of
a_tendency = refl

pub outside_certificate : pressure_line 7 (Err (question.OutsideCertificate (record { 0 = 7 }))) ≡ letters "refused 12 7\n"
unfolding digits decimal row
outside_certificate = refl

pub a_wind : wind_line 280 (Ok (record { speed = record { 0 = 48 }; direction = record { 0 = 60 } })) ≡ letters "W 280 48 60\n"
unfolding digits decimal
a_wind = refl

-- "Dry and wet -40.0: e 0.19, 100 %, dew -39.9."
pub a_humidity : humidity_line 0
    (Ok
    (record {
      e = record { 0 = 19 };
      saturation = record { 0 = 19 };
      deficit = record { 0 = 0 };
      relative = 100;
      dew = record { 0 = record { v = negsuc 398 } };
    }))
    ≡ letters "H 0 19 19 0 100 -399\n"
unfolding digits decimal decimal_of
a_humidity = refl

pub too_dry_lem : humidity_line 0 (Err question.TooDry) ≡ letters "refused 15\n"
unfolding digits decimal row
too_dry_lem = refl

-- the bytes of document 01's example of a watch file
pub a_file : written_line (0x57 ∷ 0x54 ∷ 1 ∷ 1 ∷ 2 ∷ 0 ∷ 0x0C ∷ 0 ∷ 0x18 ∷ 1 ∷ 0 ∷ 0 ∷ 0xEE ∷ 0xFF ∷ 0xB3 ∷ []) (Ok 15)
    ≡ letters "file 5754010102000c0018010000eeffb3\n"
unfolding row
a_file = refl

pub no_room : written_line [] (Err (written.TooShort 15)) ≡ letters "refused 17 15\n"
unfolding digits decimal row
no_room = refl

pub one_too_many : written_line [] (Err (written.BreaksRules 48)) ≡ letters "refused 16 48\n"
unfolding digits decimal row
one_too_many = refl
