-- What was heard means: messages, and entries of the hand anemometer, in one list, the newest first, the refused ones among them.
use Rattle.std.specs.Prelude.{◌≡◌, Bool, true, ◌&&◌, cond, List, [], ◌∷◌, ℕ, ◌+◌, ◌<◌, eqb, leb, length, take}
use Rattle.number.specs.Refusal.{Numbered, Test, Answer, refused, given, answer}
use Rattle.wire.specs.Bytes.{channel}
use Rattle.message.specs.Receive.{Entry, received}
use Rattle.settings.specs.declared.Settings.{Settings}
use Rattle.window.specs.Layout.{MINUTES}
use Rattle.window.specs.Window.{next, present}
use Rattle.cell.specs.Cells.{CHANNELS, Recall, absent, recalled, is_present}
use Rattle.block.specs.Layout.{SETTINGS, WORDS}
use Rattle.block.specs.Words.{opened, is_store, unit_of, window_of}
use Rattle.anemometer.specs.Anemometer.{certificate_in, outside}
use Rattle.anemometer.specs.declared.Note.{Note}
use Rattle.store.specs.Block.{heard_by, recall_of, wind_channel, course_channel}
use Rattle.store.specs.Noting.{wind_entry, note_tests, noted_by}

-- "What a store has heard is now a list of messages and entries in one order."
pub data Sent : Type 0 where
  bytes : List ℕ → Sent
  note : Note → Sent

-- ---- what a channel accepted

-- The minute after the newest that was accepted; 0 where none was.
abbrev pub next_of : List Entry → ℕ
next_of [] = 0
next_of (e ∷ H) = e.minute + 1

-- "A minute without an accepted message is absent"
abbrev pub lookup : List Entry → ℕ → Recall
lookup [] j = absent
lookup (e ∷ H) j = cond (eqb e.minute j) (recalled e) (lookup H j)

-- "Each channel keeps its newest accepted minute and the 255 minutes before it."
unfoldable pub remembered : List Entry → ℕ → Recall
remembered H j = cond (leb (next_of H) (j + MINUTES)) (lookup H j) absent

-- An entry by what channels 2 and 3 have accepted: "the course enters from channel 3 at that minute".
abbrev pub entry_tests : Settings → List Entry → List Entry → Note → List (Test Numbered)
entry_tests g wind course n = note_tests (next_of wind) (remembered course n.minute) (outside (certificate_in g) n) n

unfoldable pub entered : Settings → List Entry → List Entry → Note → Answer Numbered Entry
entered g wind course n = answer (entry_tests g wind course n) (wind_entry (certificate_in g) (remembered course n.minute) n)

-- "A message must be later than its channel's newest."
abbrev pub added : ℕ → List Entry → Entry → List Entry
added c H e = cond (eqb e.channel c && leb (next_of H) e.minute) (e ∷ H) H

abbrev pub grown : {R : Type 0} → ℕ → List Entry → Answer R Entry → List Entry
grown c H (refused n) = H
grown c H (given e) = added c H e

-- What a channel accepted of all that was sent, newest first.
unfoldable pub history : Settings → ℕ → List Sent → List Entry
history g c [] = []
history g c (bytes m ∷ M) = grown c (history g c M) (received g.unit m)
history g c (note n ∷ M) = grown c (history g c M) (entered g (history g wind_channel M) (history g course_channel M) n)

-- Which channel was sent it. Messages of wrong length or with a channel above 5 belong to no channel; "An entry belongs to channel 2."
abbrev pub belongs : ℕ → Sent → Bool
belongs c (bytes m) = eqb (length m) 16 && eqb (channel m) c
belongs c (note n) = eqb wind_channel c

-- ---- the block

-- The block is a store and holds what M means, on a station with the settings g.
pub record Remembers (s : List ℕ) (g : Settings) (M : List Sent) : Type 0 where
  pub long : length s ≡ WORDS
  pub is_a_store : is_store s ≡ true
  pub unit : unit_of s ≡ g.unit
  pub settings : take SETTINGS s ≡ take SETTINGS (opened g)
  pub newest : (c : ℕ) → c < CHANNELS → next (window_of c s) ≡ next_of (history g c M)
  pub bits : (c : ℕ) → c < CHANNELS → (j : ℕ) → present (window_of c s) j ≡ is_present (remembered (history g c M) j)
  pub cells : (c : ℕ) → c < CHANNELS → (j : ℕ) → recall_of s c j ≡ remembered (history g c M) j

-- The block of a station with these settings that then heard M.
abbrev pub store_of : Settings → List Sent → List ℕ
store_of g [] = opened g
store_of g (bytes m ∷ M) = heard_by (store_of g M) m
store_of g (note n ∷ M) = noted_by (store_of g M) n
