-- What the store does with an entry of the hand anemometer (document 02, W5), for any block whatever.
use Rattle.std.specs.Prelude.{◌≡◌, Bool, true, false, not, List, [], ◌∷◌, ◌++◌, ℕ, ltb, ℤ, pos, Option, Some, None, Result, Ok, Err}
use Rattle.number.specs.Refusal.{Numbered, numbered, Test, test, Answer, refused, given, answer}
use Rattle.quantity.specs.Limits.{last_minute, inside, degrees}
use Rattle.message.specs.Receive.{Entry, m/s, deg, entry_of}
use Rattle.message.specs.declared.Reading.TheVariants.{ApparentWind}
use Rattle.cell.specs.Cells.{Recall, is_present, in_degrees}
use Rattle.anemometer.specs.Anemometer.{Certificate, certificate_held, dial_holds, speed, no_speed, from_bow}
use Rattle.anemometer.specs.declared.Note.{Note}
use Rattle.quantity.specs.declared.Degrees.{Degrees}
use Rattle.quantity.specs.declared.MetresPerSecond.{MetresPerSecond}
use Rattle.store.specs.Block.{newest_tests, next_in, no_store, kept_by, recall_of, refusal_as, heard_as, outcome, wind_channel, course_channel}
use Rattle.store.specs.declared.HearingRefusal.{HearingRefusal}

-- What an entry is kept as: "a second way to feed channel 2". The course is what is kept of channel 3 at its minute.
abbrev pub wind_entry : Certificate → Recall → Note → Entry
wind_entry c course n =
    record {
      channel = wind_channel;
      minute = n.minute;
      first = m/s (speed c n);
      second = deg (pos (from_bow n.direction (in_degrees course)));
    }

-- "23, then 11 for the course, then 24": whether 24 holds is given.
abbrev pub work_tests : Recall → Bool → Note → List (Test Numbered)
work_tests course beyond n =
    test 23 [] (not (dial_holds n))
    ∷ test 11 (course_channel ∷ n.minute ∷ []) (not (is_present course))
    ∷ test 24 [] beyond
    ∷ []

-- "an entry tests 5, 7 for the direction, 8, 19, 23, then 11 for the course, then 24"; 8 and 19 by the minute after channel 2's newest.
abbrev pub note_tests : ℕ → Recall → Bool → Note → List (Test Numbered)
note_tests following course beyond n =
    test 5 [] (ltb last_minute n.minute)
    ∷ test 7 [] (not (inside degrees (pos n.direction)))
    ∷ (newest_tests following n.minute ++ work_tests course beyond n)

-- ---- of a block

-- The course at an entry's minute.
abbrev pub course_at : List ℕ → Note → Recall
course_at s n = recall_of s course_channel n.minute

unfoldable pub worked : List ℕ → Note → Answer Numbered Entry
worked s n = answer (work_tests (course_at s n) (no_speed (certificate_held s) n) n) (wind_entry (certificate_held s) (course_at s n) n)

-- What an entry comes to: whether there is a store to hear it is tested first.
unfoldable pub noting : List ℕ → Note → Answer Numbered Entry
noting s n =
    answer
    (no_store s ∷ note_tests (next_in s wind_channel) (course_at s n) (no_speed (certificate_held s) n) n)
    (wind_entry (certificate_held s) (course_at s n) n)

-- The block after it: "Refused, nothing changes. An accepted entry moves channel 2's window as a message does."
unfoldable pub noted_by : List ℕ → Note → List ℕ
noted_by s n = kept_by s (noting s n)

-- The documents' number and values of each case.
abbrev pub worked_as : ℕ → Result (MetresPerSecond × Degrees) HearingRefusal → Answer Numbered Entry
worked_as m (Ok wind) = given (entry_of m (ApparentWind wind.0 wind.1))
worked_as m (Err h) = refused (refusal_as h)

-- What is kept of a minute, as a course.
abbrev pub IsCourse : Recall → Option Degrees → Type 0
IsCourse x None = is_present x ≡ false
IsCourse x (Some d) = (is_present x ≡ true) × (in_degrees x ≡ d.0)

-- An entry was heard, and answered by h.
pub record Notes (s s' : List ℕ) (n : Note) (h : Result (Unit {0}) HearingRefusal) : Type 0 where
  pub answer : heard_as h ≡ outcome (noting s n)
  pub block : s' ≡ noted_by s n
