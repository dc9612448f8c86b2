-- The three demands, sentence by sentence, of calls that the contracts allow. proofs/Proved.antt proves all of it.
use Rattle.std.specs.Prelude.{◌≡◌, true, false, List, [], ◌++◌, ◌↔◌, ℕ, ◌≤◌, ◌<◌, ℤ, pos, nat_abs, length, take, drop, get_or, Option, Some, None, Result, Ok}
use Rattle.number.specs.Refusal.{Numbered, refused, given, Holds, First}
use Rattle.settings.specs.Settings.{checked_as}
use Rattle.settings.specs.Settings as settings
use Rattle.settings.specs.declared.Settings.{Settings}
use Rattle.settings.specs.declared.SettingsRefusal.{SettingsRefusal}
use Rattle.cell.specs.Cells.{absent, in_degrees}
use Rattle.message.specs.declared.Reading.{Reading}
use Rattle.anemometer.specs.Anemometer.{certificate_in, speed, from_bow}
use Rattle.anemometer.specs.declared.Note.{Note}
use Rattle.store.specs.Block.{heard_as, wind_channel, course_channel}
use Rattle.store.specs.History.{Sent, next_of, history}
use Rattle.store.specs.declared.HearingRefusal.{HearingRefusal}
use Rattle.wind.specs.Answer.{IsWind}
use Rattle.wind.specs.declared.Wind.{Wind}
use Rattle.vapour.specs.Vapour.{Tables, AreTables}
use Rattle.station.specs.Source.{heard, in_knots}
use Rattle.station.specs.Questions.{Asked, pressure, tendency, wind, humidity, question, Reply, is_in, reads, Tells}
use Rattle.settings.specs.Settings.{SameSettings}
use Rattle.heard.specs.Feeds.{fed_to, messages_of, Replaced, message_tests, tests_of_entry}
use Rattle.octets.specs.Bytes.{AreBytes}
use Rattle.watchfile.specs.Format.{DewRule, blank, figures_of, reading, file_tests, write_tests, record_right}
use Rattle.watchfile.specs.declared.Record.{Record}
use Rattle.watchfile.specs.declared.Figures.{Figures}
use Rattle.reader.specs.Read.{verdict_as}
use Rattle.reader.specs.declared.Broken.{Broken}
use Rattle.handed.specs.Words.{records_in}
use Rattle.writer.specs.Write.{offered, written_as}
use Rattle.writer.specs.declared.WriteRefusal.{WriteRefusal}
use Rattle.listing.specs.Listing.{listing_of, list_tests, listed_as}
use Rattle.listing.specs.declared.TooShort.{TooShort}
use Rattle.desk.specs.Records.{pressure_record, tendency_record, wind_record, humidity_record}
use Rattle.demands.specs.Working.{Opens, Hears, Notes, Recalls, Asks, Working, Replies, ReadsFile, ReadsRecord, HandedOn, WritesFile, ListsFile, Enters}

-- ---- 1. "Any message, setting, question or file gets an answer or, exactly when its reason holds and no earlier test has refused, one
-- of the numbered refusals, and the work always ends. Callers are never trusted to have checked." (That each function answers whatever
-- it is given, and ends, is what the prover checks of each: no contract here has a `requires`.)

pub record Demand1 : Type 0 where
  pub setting : (b : List ℕ) (g : Settings) (c : Result (Unit {0}) SettingsRefusal) (b' : List ℕ) → Opens b g c b'
      → (n : ℕ) → (checked_as c ≡ refused n) ↔ First (settings.tests g) n
  pub message : (g : Settings) (M : List Sent) (b : List ℕ) → Working g M b → (m : List ℕ) (h : Result (Unit {0}) HearingRefusal) (b' : List ℕ) → Hears b m h b'
      → (n : Numbered) → (heard_as h ≡ refused n) ↔ First (message_tests g M m) n
  pub entry : (g : Settings) (M : List Sent) (b : List ℕ) → Working g M b → (e : Note) (h : Result (Unit {0}) HearingRefusal) (b' : List ℕ) → Notes b e h b'
      → (n : Numbered) → (heard_as h ≡ refused n) ↔ First (tests_of_entry g M e) n
  pub asked : (q : Asked) (g : Settings) (M : List Sent) (m : ℕ) (x : Reply q) → Replies q g M m x
      → (tables : Tables) → AreTables tables → (n : Numbered) → ((question q).told x ≡ refused n) ↔ First ((question q).tests [] tables (heard g M) m) n
  pub write : (dew : ℕ → ℤ) → DewRule dew → (words before after : List ℕ) (w : Result ℕ WriteRefusal) → WritesFile words before w after
      → (n : Numbered) → (written_as w ≡ refused n) ↔ First (write_tests dew (offered words) (length (records_in words)) (length before)) n
  pub file : (dew : ℕ → ℤ) → DewRule dew → (s : List ℕ) (x : Result ℕ Broken) → ReadsFile s x
      → (n : Numbered) → (verdict_as x ≡ refused n) ↔ First (file_tests dew s) n
  pub listing : (dew : ℕ → ℤ) → DewRule dew → (s before after : List ℕ) (l : Result ℕ TooShort) → ListsFile s before l after
      → (n : Numbered) → (listed_as l ≡ refused n) ↔ First (list_tests (listing_of (reading dew s)) (length before)) n
  -- Settings that no test refuses open a store, on any memory, and it goes on whatever it is sent.
  pub opens : (b : List ℕ) (g : Settings) (c : Result (Unit {0}) SettingsRefusal) (b' : List ℕ) → Opens b g c b' → ((n : ℕ) → Holds (settings.tests g) n → ⊥) → Working g [] b'
  pub goes_on : (g : Settings) (M : List Sent) (b : List ℕ) → Working g M b → (m : List ℕ) → (h : Result (Unit {0}) HearingRefusal) × (b' : List ℕ) × Hears b m h b'
  pub takes_entries : (g : Settings) (M : List Sent) (b : List ℕ) → Working g M b → (e : Note) → (h : Result (Unit {0}) HearingRefusal) × (b' : List ℕ) × Notes b e h b'
  -- "A refused message or question changes nothing in the store, and a refused write changes no byte lent to it." A refused opening
  -- leaves the block too, and a refused listing the text.
  pub refused_opening : (b : List ℕ) (g : Settings) (c : Result (Unit {0}) SettingsRefusal) (b' : List ℕ) (n : ℕ) → Opens b g c b' → checked_as c ≡ refused n → b' ≡ b
  pub refused_message : (b m : List ℕ) (h : Result (Unit {0}) HearingRefusal) (b' : List ℕ) (n : Numbered) → Hears b m h b' → heard_as h ≡ refused n → b' ≡ b
  pub refused_entry : (b : List ℕ) (e : Note) (h : Result (Unit {0}) HearingRefusal) (b' : List ℕ) (n : Numbered) → Notes b e h b' → heard_as h ≡ refused n → b' ≡ b
  pub refused_question : (q : Asked) (b : List ℕ) (m : ℕ) (x : Reply q) (b' : List ℕ) (n : Numbered) → Asks q b m x b' → (question q).told x ≡ refused n → b' ≡ b
  pub refused_write : (words before after : List ℕ) (w : Result ℕ WriteRefusal) (n : Numbered)
      → WritesFile words before w after → written_as w ≡ refused n → after ≡ before
  pub refused_listing : (s before after : List ℕ) (l : Result ℕ TooShort) (n : Numbered) → ListsFile s before l after → listed_as l ≡ refused n → after ≡ before

-- ---- 2. "Pressure, tendency, true wind and humidity are exactly those that RD 52.04.651 defines, as document 01 fixes it, worked from
-- the readings heard, and refused only for the listed reasons."

-- The record of an answer's figures, sign and all.
abbrev pub RecordOf : (q : Asked) → ℕ → (question q).Figures → Record → Type 0
RecordOf pressure m p r = (p ≡ pos (nat_abs p)) × (r ≡ pressure_record m p)
RecordOf tendency m t r = r ≡ tendency_record m t
RecordOf wind m w r = r ≡ wind_record m w.speed w.direction
RecordOf humidity m h r = r ≡ humidity_record m h

-- The wind of an entry: ship's course and speed as channel 3 keeps them at its minute.
abbrev pub WindOfEntry : Settings → List Sent → Note → Wind → Type 0
WindOfEntry g M e w =
    let ship = (heard g M).recall course_channel e.minute in
    IsWind (in_degrees ship) (in_knots ship) (nat_abs (speed (certificate_in g) e)) (from_bow e.direction (in_degrees ship)) (Some w)

pub record Demand2 : Type 0 where
  pub told : (q : Asked) (g : Settings) (M : List Sent) (m : ℕ) (x : Reply q) → Replies q g M m x → Tells q (heard g M) m x
  -- An entry that was taken: the wind of its minute is the one of the speed by its dial and the compass direction less the course.
  pub entered : (g : Settings) (M : List Sent) (b : List ℕ) → Working g M b → (e : Note) (b' : List ℕ) → Notes b e (Ok tt) b'
      → (x : Reply wind) (b'' : List ℕ) → Asks wind b' e.minute x b'' → (w : Wind) × ((question wind).told x ≡ given w) × (WindOfEntry g M e w)
  -- Every figure makes a record that a watch file takes.
  pub recorded : (q : Asked) (g : Settings) (M : List Sent) (m : ℕ) (x : Reply q) → Replies q g M m x → (e : Option Record) → Enters q m x e
      → (f : (question q).Figures) → (question q).told x ≡ given f
      → (r : Record) × (e ≡ Some r) × (RecordOf q m f r) × ((dew : ℕ → ℤ) → DewRule dew → record_right dew 0 r ≡ true)
  -- "A good watch file read and written again has the same bytes,": its records as they were read, in any buffer that has room for them
  pub file_again : (s : List ℕ) → AreBytes s → (count : ℕ) → ReadsFile s (Ok count) → (words : List ℕ) → HandedOn s count words
      → (before after : List ℕ) (w : Result ℕ WriteRefusal) → length s ≤ length before → WritesFile words before w after
      → (w ≡ Ok (length s)) × (take (length s) after ≡ s)
  -- "and accepted records written and read again are the same.": so many, and each by its figures
  pub records_again : (words before after : List ℕ) (size : ℕ) → WritesFile words before (Ok size) after
      → ((x : Result ℕ Broken) → ReadsFile (take size after) x → x ≡ Ok (length (records_in words)))
      × ((i : ℕ) (f : Figures) → ReadsRecord (take size after) i f → i < length (records_in words) → f ≡ figures_of (get_or (records_in words) i blank))
  -- A listing is document 01's, and what stood behind it in the buffer stays.
  pub listed : (dew : ℕ → ℤ) → DewRule dew → (s before after : List ℕ) (size : ℕ) → ListsFile s before (Ok size) after
      → (size ≡ length (listing_of (reading dew s))) × (after ≡ listing_of (reading dew s) ++ drop size before)

-- ---- 3. "Open two stores with the same settings and send each any messages, bad ones included." Entries are sent too, and are channel 2's.

-- After M a minute of a channel is missing, and the channel has accepted a later one.
pub record Passed (g : Settings) (M : List Sent) (c j : ℕ) : Type 0 where
  pub missing : (heard g M).recall c j ≡ absent
  pub later : j < next_of (history g c M)

pub record Demand3 : Type 0 where
  -- "If the messages of the channels that feed an answer are alike and in the same order, that answer, its refusal and its count of
  -- missing minutes are alike,"
  pub alike : (q : Asked) (g h : Settings) → SameSettings g h → (M N : List Sent) (m : ℕ) → fed_to q M ≡ fed_to q N
      → (x y : Reply q) → Replies q g M m x → Replies q h N m y → x ≡ y
  -- "and are what demand 2 gives for those messages alone."
  pub alone : (q : Asked) (g : Settings) (M : List Sent) (m : ℕ) (x : Reply q) → Replies q g M m x → Tells q (heard g (fed_to q M)) m x
  -- Entries do not matter to an answer that channel 2 does not feed.
  pub entries_apart : (q : Asked) → is_in (question q).channels wind_channel ≡ false → (g h : Settings) → SameSettings g h → (M : List Sent) (m : ℕ)
      → (x y : Reply q) → Replies q g M m x → Replies q h (messages_of M) m y → x ≡ y
  -- "Replacing fed values by other acceptable ones at minutes the answer doesn't read changes nothing either."
  pub replaced : (q : Asked) (g h : Settings) → SameSettings g h → (M N : List Sent) (m : ℕ) → Replaced g (reads q m) M N
      → (x y : Reply q) → Replies q g M m x → Replies q h N m y → x ≡ y
  -- "A missing minute stays missing once its channel has accepted a later one.": whatever N is heard after M. So it is of the messages,
  -- so a block recalls it, and no question that reads it is answered with figures.
  pub missing_stays : (g : Settings) (M N : List Sent) (c j : ℕ) → Passed g M c j → (heard g (N ++ M)).recall c j ≡ absent
  pub recall_stays : (g : Settings) (M N : List Sent) (c j : ℕ) → Passed g M c j
      → (b : List ℕ) → Working g (N ++ M) b → (x : Option Reading) → Recalls b c j x → x ≡ None
  pub answer_stays : (q : Asked) (g : Settings) (M N : List Sent) (c j m : ℕ) → Passed g M c j → reads q m c j ≡ true
      → (x : Reply q) → Replies q g (N ++ M) m x → (n : Numbered) × ((question q).told x ≡ refused n)
