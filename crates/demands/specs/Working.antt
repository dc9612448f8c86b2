-- A station at work, by the contracts of its functions as the check reads them (`Reads.Post`): what they allow, and no more, is what the
-- demands speak of.
use Rattle.std.specs.Prelude.{◌≡◌, List, [], ◌∷◌, ℕ, ◌*◌, ◌<◌, length, take, drop, Option, Result, Ok}
use Rattle.settings.specs.declared.Settings.{Settings}
use Rattle.settings.specs.declared.SettingsRefusal.{SettingsRefusal}
use Rattle.message.specs.declared.Reading.{Reading}
use Rattle.anemometer.specs.declared.Note.{Note}
use Rattle.store.specs.History.{Sent, bytes, note}
use Rattle.store.specs.declared.HearingRefusal.{HearingRefusal}
use Rattle.store.proofs.recall.Reads as to_recall
use Rattle.station.specs.Questions.{Asked, pressure, tendency, wind, humidity, Reply}
use Rattle.station.proofs.«open».Reads as to_open
use Rattle.station.proofs.hear.Reads as to_hear
use Rattle.station.proofs.note.Reads as to_note
use Rattle.station.proofs.pressure.Reads as for_pressure
use Rattle.station.proofs.tendency.Reads as for_tendency
use Rattle.station.proofs.wind.Reads as for_wind
use Rattle.station.proofs.humidity.Reads as for_humidity
use Rattle.watchfile.specs.declared.Figures.{Figures}
use Rattle.reader.specs.declared.Broken.{Broken}
use Rattle.reader.proofs.read.Reads as to_read
use Rattle.reader.proofs.record_at.Reads as to_record
use Rattle.handed.specs.Words.{words_of}
use Rattle.writer.specs.declared.WriteRefusal.{WriteRefusal}
use Rattle.writer.proofs.write.Reads as to_write
use Rattle.listing.specs.declared.TooShort.{TooShort}
use Rattle.listing.proofs.list.Reads as to_list
use Rattle.watchfile.specs.declared.Record.{Record}
use Rattle.desk.proofs.pressure_record.Reads as of_pressure
use Rattle.desk.proofs.tendency_record.Reads as of_tendency
use Rattle.desk.proofs.wind_record.Reads as of_wind
use Rattle.desk.proofs.humidity_record.Reads as of_humidity

-- A call that a contract allows: lifetimes, arguments, answer and the arguments at exit, of which something is said.
abbrev pub Call : {L : Type 0} {A R S : L → Type 0} → ((κs : L) → A κs → R κs → S κs → Type 0) → ((κs : L) → A κs → R κs → S κs → Type 0) → Type 0
Call {L} {A} {R} {S} Post Which = (κs : L) × (a : A κs) × (r : R κs) × (s : S κs) × (Post κs a r s) × (Which κs a r s)

-- ---- the store

-- A block b was to be opened with g: the answer is c, and the block is b' then.
abbrev pub Opens : List ℕ → Settings → Result (Unit {0}) SettingsRefusal → List ℕ → Type 0
Opens b g c b' = Call to_open.Post (λ κs a r s. (a.0.now ≡ b) × (a.1.0 ≡ g) × (r ≡ c) × (s.0.now ≡ b'))

-- A block b was sent a message m.
abbrev pub Hears : List ℕ → List ℕ → Result (Unit {0}) HearingRefusal → List ℕ → Type 0
Hears b m h b' = Call to_hear.Post (λ κs a r s. (a.0.now ≡ b) × (a.1.0.now ≡ m) × (r ≡ h) × (s.0.now ≡ b'))

-- A block b was handed an entry n of the hand anemometer.
abbrev pub Notes : List ℕ → Note → Result (Unit {0}) HearingRefusal → List ℕ → Type 0
Notes b n h b' = Call to_note.Post (λ κs a r s. (a.0.now ≡ b) × (a.1.0 ≡ n) × (r ≡ h) × (s.0.now ≡ b'))

-- A block b was asked what it keeps of a channel's minute.
abbrev pub Recalls : List ℕ → ℕ → ℕ → Option Reading → Type 0
Recalls b c j x = Call to_recall.Post (λ κs a r s. (a.0.now ≡ b) × (a.1.0 ≡ c) × (a.1.1.0 ≡ j) × (r ≡ x))

-- A block b was asked a question at minute m.
abbrev pub Asks : (q : Asked) → List ℕ → ℕ → Reply q → List ℕ → Type 0
Asks pressure b m x b' = Call for_pressure.Post (λ κs a r s. (a.0.now ≡ b) × (a.1.0 ≡ m) × (r ≡ x) × (s.0.now ≡ b'))
Asks tendency b m x b' = Call for_tendency.Post (λ κs a r s. (a.0.now ≡ b) × (a.1.0 ≡ m) × (r ≡ x) × (s.0.now ≡ b'))
Asks wind b m x b' = Call for_wind.Post (λ κs a r s. (a.0.now ≡ b) × (a.1.0 ≡ m) × (r ≡ x) × (s.0.now ≡ b'))
Asks humidity b m x b' = Call for_humidity.Post (λ κs a r s. (a.0.now ≡ b) × (a.1.0 ≡ m) × (r ≡ x) × (s.0.now ≡ b'))

-- The block of a store that was opened with g, on whatever memory, and then sent the messages and entries M, newest first, whatever it
-- answered.
unfoldable pub Working : Settings → List Sent → List ℕ → Type 0
Working g [] b = (before : List ℕ) × (Opens before g (Ok tt) b)
Working g (bytes m ∷ M) b = (before : List ℕ) × (Working g M before) × ((h : Result (Unit {0}) HearingRefusal) × (Hears before m h b))
Working g (note n ∷ M) b = (before : List ℕ) × (Working g M before) × ((h : Result (Unit {0}) HearingRefusal) × (Notes before n h b))

-- Such a store is asked a question at minute m, and answers x.
pub record Replies (q : Asked) (g : Settings) (M : List Sent) (m : ℕ) (x : Reply q) : Type 0 where
  pub block : List ℕ
  pub after : List ℕ
  pub working : Working g M block
  pub asks : Asks q block m x after

-- ---- files

-- The bytes s were read, and the record with index i of them.
abbrev pub ReadsFile : List ℕ → Result ℕ Broken → Type 0
ReadsFile s x = Call to_read.Post (λ κs a r _. (a.0.now ≡ s) × (r ≡ x))

abbrev pub ReadsRecord : List ℕ → ℕ → Figures → Type 0
ReadsRecord s i f = Call to_record.Post (λ κs a r _. (a.0.now ≡ s) × (a.1.0 ≡ i) × (r ≡ f))

-- The words hold `count` records as they were read from s, one behind the other.
pub record HandedOn (s : List ℕ) (count : ℕ) (words : List ℕ) : Type 0 where
  pub long : length words ≡ 7 * count
  pub each : (i : ℕ) → i < count → (f : Figures) × (ReadsRecord s i f) × (take 7 (drop (7 * i) words) ≡ words_of f)

-- The records that words hold were to be written into the buffer `before`, which is `after` then.
abbrev pub WritesFile : List ℕ → List ℕ → Result ℕ WriteRefusal → List ℕ → Type 0
WritesFile words before w after =
    Call to_write.Post (λ κs a r s. (a.0.now ≡ before) × (a.1.0.now ≡ words) × (r ≡ w) × (s.0.now ≡ after))

-- The file s was to be listed in the buffer `before`, which is `after` then.
abbrev pub ListsFile : List ℕ → List ℕ → Result ℕ TooShort → List ℕ → Type 0
ListsFile s before l after =
    Call to_list.Post (λ κs a r x. (a.0.now ≡ s) × (a.1.0.now ≡ before) × (r ≡ l) × (x.1.0.now ≡ after))

-- The entry that the watch officer's desk makes of an answer at minute m.
abbrev pub Enters : (q : Asked) → ℕ → Reply q → Option Record → Type 0
Enters pressure m x e = Call of_pressure.Post (λ κs a r s. (a.0 ≡ m) × (a.1.0 ≡ x) × (r ≡ e))
Enters tendency m x e = Call of_tendency.Post (λ κs a r s. (a.0 ≡ m) × (a.1.0 ≡ x) × (r ≡ e))
Enters wind m x e = Call of_wind.Post (λ κs a r s. (a.0 ≡ m) × (a.1.0 ≡ x) × (r ≡ e))
Enters humidity m x e = Call of_humidity.Post (λ κs a r s. (a.0 ≡ m) × (a.1.0 ≡ x) × (r ≡ e))
