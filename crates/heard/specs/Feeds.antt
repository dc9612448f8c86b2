-- What it means for an answer that settings, messages and entries are alike, the reasons by which a message or an entry is refused, and
-- memory that is no store.
use Rattle.std.specs.Prelude.{◌≡◌, Bool, true, false, ◌||◌, cond, List, [], ◌∷◌, ◌++◌, ◌⊎◌, ℕ, ltb, pos}
use Rattle.number.specs.Refusal.{Numbered, Test, plain, given}
use Rattle.quantity.specs.Limits.{inside, degrees, last_minute}
use Rattle.quantity.specs.declared.BarometerUnit.{BarometerUnit}
use Rattle.wire.specs.Bytes.{minute}
use Rattle.wire.specs.Decode.{message}
use Rattle.message.specs.Receive.{Entry, entry, received, tests}
use Rattle.settings.specs.declared.Settings.{Settings}
use Rattle.block.specs.Layout.{WORDS}
use Rattle.block.specs.Words.{listed}
use Rattle.anemometer.specs.Anemometer.{certificate_in, dial_holds, outside}
use Rattle.anemometer.specs.declared.Note.{Note}
use Rattle.store.specs.Block.{newest_tests, wind_channel, course_channel}
use Rattle.store.specs.Noting.{wind_entry}
use Rattle.store.specs.History.{Sent, bytes, note, next_of, remembered, entry_tests, history, belongs}
use Rattle.station.specs.Questions.{Asked, question}

-- ---- "the messages of the channels that feed an answer"

-- "Messages of wrong length or with a channel above 5 belong to no channel." "An entry belongs to channel 2."
unfoldable pub feeds : List ℕ → Sent → Bool
feeds [] x = false
feeds (c ∷ cs) x = belongs c x || feeds cs x

-- What these channels were sent alone, in the same order: for wind "the order of channels 2 and 3 together".
unfoldable pub fed : List ℕ → List Sent → List Sent
fed cs [] = []
fed cs (x ∷ M) = cond (feeds cs x) (x ∷ fed cs M) (fed cs M)

-- What feeds a question's answer.
abbrev pub fed_to : Asked → List Sent → List Sent
fed_to q M = fed (question q).channels M

-- The messages without the entries. "The other answers do not see it."
abbrev pub is_message : Sent → Bool
is_message (bytes m) = true
is_message (note n) = false

unfoldable pub messages_of : List Sent → List Sent
messages_of [] = []
messages_of (x ∷ M) = cond (is_message x) (x ∷ messages_of M) (messages_of M)

-- ---- messages and entries with other values

-- "Replacing fed values by other acceptable ones at minutes the answer doesn't read": two messages of the same channel and minute,
-- neither refused by 1 to 7.
pub record Exchanged (u : BarometerUnit) (reads : ℕ → ℕ → Bool) (a b : List ℕ) : Type 0 where
  pub was : Entry
  pub is : Entry
  pub was_received : received u a ≡ given was
  pub is_received : received u b ≡ given is
  pub channel : was.channel ≡ is.channel
  pub minute : was.minute ≡ is.minute
  pub unread : reads was.channel was.minute ≡ false

-- An entry that is refused at most for what was heard before it: by none of 5, 7, 23 and 24.
pub record Acceptable (g : Settings) (n : Note) : Type 0 where
  pub minute : ltb last_minute n.minute ≡ false
  pub direction : inside degrees (pos n.direction) ≡ true
  pub dial : dial_holds n ≡ true
  pub rate : outside (certificate_in g) n ≡ false

-- Two such entries of the same minute.
pub record Renoted (g : Settings) (reads : ℕ → ℕ → Bool) (a b : Note) : Type 0 where
  pub was : Acceptable g a
  pub is : Acceptable g b
  pub minute : a.minute ≡ b.minute
  pub unread : reads wind_channel a.minute ≡ false

abbrev pub Other : Settings → (ℕ → ℕ → Bool) → Sent → Sent → Type 0
Other g reads (bytes a) (bytes b) = Exchanged g.unit reads a b
Other g reads (note a) (note b) = Renoted g reads a b
Other g reads (bytes a) (note b) = ⊥
Other g reads (note a) (bytes b) = ⊥

-- Lists that are the same but for such messages and entries.
abbrev pub Replaced : Settings → (ℕ → ℕ → Bool) → List Sent → List Sent → Type 0
Replaced g reads [] [] = Unit
Replaced g reads [] (b ∷ N) = ⊥
Replaced g reads (a ∷ M) [] = ⊥
Replaced g reads (a ∷ M) (b ∷ N) = ((a ≡ b) ⊎ Other g reads a b) × Replaced g reads M N

-- ---- the reasons of refusals by what was heard

-- What a message would be kept as.
abbrev pub would_keep : Settings → List ℕ → Entry
would_keep g m = entry g.unit (minute m) (message m)

-- 1 to 7 by the message alone, then 8 and 19 by the newest that its channel has accepted.
abbrev pub message_tests : Settings → List Sent → List ℕ → List (Test Numbered)
message_tests g M m = plain (tests g.unit m) ++ newest_tests (next_of (history g (would_keep g m).channel M)) (minute m)

-- Those of an entry, by what channels 2 and 3 have accepted.
abbrev pub tests_of_entry : Settings → List Sent → Note → List (Test Numbered)
tests_of_entry g M n = entry_tests g (history g wind_channel M) (history g course_channel M) n

-- What it would be kept as.
abbrev pub would_note : Settings → List Sent → Note → Entry
would_note g M n = wind_entry (certificate_in g) (remembered (history g course_channel M) n.minute) n

-- ---- "a refused opening gives no store"

-- Memory of zeros, as long as a store, which no opening made.
abbrev pub zeros : List ℕ
zeros = listed (λ i. 0) 0 WORDS
