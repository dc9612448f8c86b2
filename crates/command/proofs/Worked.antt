-- Lines worked by the definitions: each form once, each fault once, and the settings and records that lines say. Assumes nothing.
use mathlib.Core.Path.{◌≡◌, refl}
use mathlib.Core.List.{List, [], ◌∷◌}
use Prim.Native.Nat.{ℕ}
use lib.IntN.{ℤ, pos, neg_ℤ}
use lib.ListN.{replicate}
use Rattle.number.specs.declared.Kept.{Kept}
use Rattle.text.specs.Letters.{letters}
use Rattle.quantity.specs.declared.BarometerUnit.TheVariants.{Millimetres}
use Rattle.number.specs.Refusal.{refused, answer}
use Rattle.settings.specs.Settings.{nowhere, no_rate, every, certificate_holds, anemometer_holds, others_hold, checked}
use Rattle.settings.specs.declared.Point.{Point}
use Rattle.settings.specs.declared.RatePoint.{RatePoint}
use Rattle.settings.specs.declared.Settings.{Settings}
use Rattle.watchfile.specs.declared.Body.TheVariants as body
use Rattle.line.specs.Words.{before, words_from, more, same}
use Rattle.line.specs.Numeral.{every_digit, whole, signed}
use Rattle.hexadecimal.specs.Hex.{hex_value, is_hex}
use Rattle.command.specs.Forms.{Told, told, fields_told, fits, list_told, word_told, may_end, line_told}
use Rattle.command.specs.Commands.{by_table, command_of}
use Rattle.values.specs.Values.{each, before_word, settings_of, records_of}
use Rattle.std.specs.Prelude.{Option, Some, None, Result, Ok, Err}
use Rattle.line.specs.declared.Place.{Place}
use Rattle.command.specs.declared.Verb.{Verb}
use Rattle.command.specs.declared.Deed.{Deed}
use Rattle.command.specs.declared.Fault.{Fault}
use Rattle.command.specs.declared.Verb.TheVariants.{Open, Hear, Note, Wind, Read}
use Rattle.command.specs.declared.Fault.TheVariants.{NotACommand, WordCount, NotSuch, Misshapen}

abbrev place : ℕ → ℕ → Place
place from to = record { from = from; to = to }

abbrev does : Verb → ℕ → Result (Option Deed) Fault
does verb words = Ok (Some (record { verb = verb; words = words }))

abbrev number : ℤ → Kept
number z = record { v = z }

abbrev point : ℤ → ℤ → Point
point reading correction = record { reading = number reading; correction = record { 0 = number correction } }

abbrev rate_point : ℤ → ℤ → RatePoint
rate_point rate speed = record { rate = record { 0 = number rate }; speed = number speed }

-- a line, the command and the numbers that it says
pub record Line : Type 0 where
  pub text : List ℕ
  pub says : Told (Result (Option Deed) Fault)

abbrev row : List ℕ → Result (Option Deed) Fault → List ℕ → Line
row text outcome numbers = record { text = text; says = record { numbers = numbers; outcome = outcome } }

abbrev said : List Line → List (Told (Result (Option Deed) Fault))
said [] = []
said (l ∷ ls) = command_of l.text ∷ said ls

abbrev expected : List Line → List (Told (Result (Option Deed) Fault))
expected [] = []
expected (l ∷ ls) = l.says ∷ expected ls

abbrev Right : List Line → Type 0
Right ls = said ls ≡ expected ls

pub the_commands : Right (
    row (letters "") (Ok None) []
    ∷ row (letters " \t# a remark") (Ok None) []
    ∷ row (letters "hear 0a0B") (does Hear 1) (0 ∷ [])
    ∷ row (letters "read ") (does Read 0) []
    ∷ row (letters "  wind\t-0 ") (does Wind 1) (0 ∷ [])
    ∷ row (letters "note 820 45 9990 40 60") (does Note 5) (820 ∷ 45 ∷ 9990 ∷ 40 ∷ 60 ∷ [])
    ∷ [])
unfolding before words_from more same every_digit whole hex_value is_hex told fields_told fits list_told word_told may_end line_told by_table command_of
the_commands = refl

-- the numbers of the words before the fault stay
pub the_faults : Right (
    row (letters "Wind 5") (Err (NotACommand (place 0 4))) []
    ∷ row (letters "winds 5") (Err (NotACommand (place 0 5))) []
    ∷ row (letters "note 820 45 9990 40") (Err WordCount) (820 ∷ 45 ∷ 9990 ∷ 40 ∷ [])
    ∷ row (letters "wind 4294967295 1") (Err WordCount) (4294967295 ∷ [])
    ∷ row (letters "wind 4294967296 1") (Err (NotSuch 0x6E (place 5 15))) []
    ∷ row (letters "wind -1") (Err (NotSuch 0x6E (place 5 7))) []
    ∷ row (letters "wind 1-") (Err (NotSuch 0x6E (place 5 7))) []
    ∷ row (letters "wind -") (Err (NotSuch 0x6E (place 5 6))) []
    ∷ row (letters "read 575") (Err (NotSuch 0x78 (place 5 8))) []
    ∷ row (letters "read 57 54") (Err WordCount) (0 ∷ [])
    ∷ row (letters "open inHg x") (Err (NotSuch 0x75 (place 5 9))) []
    ∷ row (letters "open mmHg 2147483648") (Err (NotSuch 0x7A (place 10 20))) (1 ∷ [])
    ∷ [])
unfolding before words_from more same every_digit whole signed hex_value is_hex told fields_told fits list_told word_told may_end line_told by_table command_of
the_faults = refl

-- the words of lists
pub the_lists : Right (
    row (letters "open hPa 2147483647 -2147483648 -0 007 1:-2") (does Open 6) (0 ∷ 4294967295 ∷ 0 ∷ 2147483648 ∷ 2147483655 ∷ 2147483649 ∷ 2147483646 ∷ [])
    ∷ row (letters "open hPa 0 0 0 0 1") (Err (Misshapen (place 17 18))) (0 ∷ 2147483648 ∷ 2147483648 ∷ 2147483648 ∷ 2147483648 ∷ 2147483649 ∷ [])
    ∷ row (letters "open hPa 0 0 0 0 1:2 anemometer 3:4") (does Open 8) (0 ∷ 2147483648 ∷ 2147483648 ∷ 2147483648 ∷ 2147483648 ∷ 2147483649 ∷ 2147483650 ∷ 4294967296 ∷ 0 ∷ 2147483651 ∷ 2147483652 ∷ [])
    ∷ row (letters "open hPa 0 0 0 anemometer") (Err (NotSuch 0x7A (place 15 25))) (0 ∷ 2147483648 ∷ 2147483648 ∷ 2147483648 ∷ [])
    ∷ row (letters "open hPa 0 0 0 0 anemometers") (Err (NotSuch 0x7A (place 17 28))) (0 ∷ 2147483648 ∷ 2147483648 ∷ 2147483648 ∷ 2147483648 ∷ [])
    ∷ row (letters "open hPa 0 0 0 0 anemometer:1") (Err (Misshapen (place 17 29))) (0 ∷ 2147483648 ∷ 2147483648 ∷ 2147483648 ∷ 2147483648 ∷ 4294967296 ∷ 0 ∷ [])
    ∷ row (letters "write 9 P:5:98 p:6:9") (Err (Misshapen (place 15 20))) (9 ∷ 0x50 ∷ 5 ∷ 98 ∷ 0 ∷ 0 ∷ 0 ∷ 0 ∷ [])
    ∷ row (letters "write 9 P:5:9:8") (Err (Misshapen (place 8 15))) (9 ∷ 0x50 ∷ 5 ∷ 9 ∷ 0 ∷ 0 ∷ 0 ∷ 0 ∷ [])
    ∷ row (letters "write 9 T:180:-18:256") (Err (NotSuch 0x6F (place 8 21))) (9 ∷ 0x54 ∷ 180 ∷ 2147483630 ∷ [])
    ∷ [])
unfolding before words_from more same every_digit whole signed told fields_told fits list_told word_told may_end line_told by_table command_of
the_lists = refl

-- document 01's settings, with no anemometer
pub the_settings : settings_of (command_of (letters "open mmHg 101 -268 24 662 7300:-4 7500:-8")).numbers 7
    ≡ record {
      unit = Millimetres;
      height = record { 0 = number (pos 101) };
      difference = record { 0 = number (neg_ℤ (pos 268)) };
      coefficient = record { 0 = number (pos 24) };
      psychrometer = record { 0 = number (pos 662) };
      count = 2;
      points = point (pos 7300) (neg_ℤ (pos 4)) ∷ point (pos 7500) (neg_ℤ (pos 8)) ∷ replicate 14 nowhere;
      anemometer = record { count = 0; points = replicate 20 no_rate };
    }
unfolding before words_from more same every_digit whole signed told fields_told fits list_told word_told may_end line_told by_table command_of each before_word settings_of
the_settings = refl

-- and with one
abbrev with_anemometer : Settings
with_anemometer = settings_of (command_of (letters "open mmHg 101 -268 24 662 7300:-4 7500:-8 anemometer 0:1 12:-9 13:20")).numbers 11

pub the_barometers : (with_anemometer.count ≡ 2) × (with_anemometer.points ≡ point (pos 7300) (neg_ℤ (pos 4)) ∷ point (pos 7500) (neg_ℤ (pos 8)) ∷ replicate 14 nowhere)
unfolding before words_from more same every_digit whole signed told fields_told fits list_told word_told may_end line_told by_table command_of each before_word settings_of
the_barometers = (refl, refl)

pub the_anemometers : with_anemometer.anemometer
    ≡ record { count = 3; points = rate_point (pos 0) (pos 1) ∷ rate_point (pos 12) (neg_ℤ (pos 9)) ∷ rate_point (pos 13) (pos 20) ∷ replicate 17 no_rate }
unfolding before words_from more same every_digit whole signed told fields_told fits list_told word_told may_end line_told by_table command_of each before_word settings_of
the_anemometers = refl

-- the word alone
pub no_anemometer : (settings_of (command_of (letters "open hPa 0 0 0 500 9000:0 9100:0 anemometer")).numbers 8).anemometer ≡ record { count = 0; points = replicate 20 no_rate }
unfolding before words_from more same every_digit whole signed told fields_told fits list_told word_told may_end line_told by_table command_of each before_word settings_of
no_anemometer = refl

-- a second `anemometer` is a point that breaks the rules
pub a_second : checked (settings_of (command_of (letters "open hPa 0 0 0 500 9000:0 9100:0 anemometer 0:1 anemometer 2:3")).numbers 11) ≡ refused 25
unfolding before words_from more same every_digit whole signed told fields_told fits list_told word_told may_end line_told by_table command_of each before_word settings_of every certificate_holds anemometer_holds others_hold checked answer
a_second = refl

-- the points behind the 16th are counted only
pub seventeen : (settings_of [] 22).count ≡ 17
unfolding before_word settings_of
seventeen = refl

-- a record of each kind
pub the_records : records_of (command_of (letters "write 820 P:5:9857 T:180:-18:179 W:181:0:0 H:242:19:12345:12326:0:-399")).numbers 5
    ≡ (record { minute = 5; body = body.Pressure 9857 }
    ∷ record { minute = 180; body = body.Tendency (number (neg_ℤ (pos 18))) 179 }
    ∷ record { minute = 181; body = body.Wind 0 0 }
    ∷ record { minute = 242; body = body.Humidity 19 12345 12326 0 (number (neg_ℤ (pos 399))) }
    ∷ replicate 44 (record { minute = 0; body = body.Pressure 0 }))
unfolding before words_from more same every_digit whole signed told fields_told fits list_told word_told may_end line_told by_table command_of each records_of
the_records = refl
