-- What the store does, for any block whatever.
use Rattle.std.specs.Prelude.{◌≡◌, Bool, true, false, not, cond, List, [], ◌∷◌, ◌++◌, ℕ, ◌+◌, ◌-◌, eqb, ltb, Option, Some, None, Result, Ok, Err}
use Rattle.number.specs.Refusal.{Numbered, numbered, Test, test, plain, Answer, refused, given, answer}
use Rattle.quantity.specs.Limits.{minutes_between}
use Rattle.quantity.specs.declared.BarometerUnit.{BarometerUnit}
use Rattle.wire.specs.Bytes.{minute}
use Rattle.wire.specs.Decode.{message, number_of}
use Rattle.message.specs.Receive.{Entry, entry, tests}
use Rattle.settings.specs.Settings.{checked}
use Rattle.settings.specs.declared.Settings.{Settings}
use Rattle.window.specs.Window.{next, accepted, present, absents}
use Rattle.window.specs.Window as window
use Rattle.cell.specs.Cells.{CHANNELS, cell_of, Recall, absent, cell_says}
use Rattle.block.specs.Layout.{NO_STORE}
use Rattle.block.specs.Words.{opened, is_store, unit_of, window_of, replaced}
use Rattle.store.specs.declared.HearingRefusal.{HearingRefusal}
use Rattle.store.specs.declared.HearingRefusal.TheVariants.{Message, Repeated, Late, OutsideDial, NoCourse, OutsideAnemometer, NoStore}

-- A block after an opening with these settings: "a refused opening gives no store", and leaves the block as it was.
abbrev pub is_given : {R A : Type 0} → Answer R A → Bool
is_given (refused n) = false
is_given (given a) = true

unfoldable pub opened_by : List ℕ → Settings → List ℕ
opened_by s g = cond (is_given (checked g)) (opened g) s

-- ---- hearing

-- What a message would be kept as.
abbrev pub entry_of_bytes : List ℕ → List ℕ → Entry
entry_of_bytes s m = entry (unit_of s) (minute m) (message m)

-- "8, minute equal to the newest, and 19, minute earlier, which returns the difference; 19 stands directly after 8." The minute
-- that follows the newest is 0 where there is no newest, and then neither holds.
abbrev pub newest_tests : ℕ → ℕ → List (Test Numbered)
newest_tests following m = test 8 [] (eqb (m + 1) following) ∷ test 19 ((following - (m + 1)) ∷ []) (ltb (m + 1) following) ∷ []

-- The minute after a channel's newest.
abbrev pub next_in : List ℕ → ℕ → ℕ
next_in s c = next (window_of c s)

-- The refusals of a message, 1 to 8 and 19, in this order.
abbrev pub hear_tests : List ℕ → List ℕ → List (Test Numbered)
hear_tests s m = let e = entry_of_bytes s m in plain (tests (unit_of s) m) ++ newest_tests (next_in s e.channel) e.minute

-- "a refused opening gives no store": a block that no opening marked hears nothing, and answers no question.
abbrev pub no_store : List ℕ → Test Numbered
no_store s = test NO_STORE [] (not (is_store s))

-- What a message comes to: whether there is a store to hear it is tested first.
unfoldable pub hearing : List ℕ → List ℕ → Answer Numbered Entry
hearing s m = answer (no_store s ∷ hear_tests s m) (entry_of_bytes s m)

-- The block after a message: "A refused message changes nothing"; what is kept changes its channel's part alone.
abbrev pub kept : List ℕ → Entry → List ℕ
kept s e = replaced s e.channel (accepted (window_of e.channel s) e.minute (cell_of e))

abbrev pub kept_by : {R : Type 0} → List ℕ → Answer R Entry → List ℕ
kept_by s (refused n) = s
kept_by s (given e) = kept s e

unfoldable pub heard_by : List ℕ → List ℕ → List ℕ
heard_by s m = kept_by s (hearing s m)

-- ---- asking

-- What a channel's window keeps of a minute, read by the channel.
abbrev pub recall_in : BarometerUnit → ℕ → ℕ → Option ℕ → Recall
recall_in u c m None = absent
recall_in u c m (Some v) = cell_says u c m v

unfoldable pub recall_of : List ℕ → ℕ → ℕ → Recall
recall_of s c m = cond (ltb c CHANNELS) (recall_in (unit_of s) c m (window.kept (window_of c s) m)) absent

-- The minute after a channel's newest; 0 where nothing is heard of it, or it is none.
abbrev pub following_of : List ℕ → ℕ → ℕ
following_of s c = cond (ltb c CHANNELS) (next_in s c) 0

-- "the number of absent .. minutes among the 179 strictly between"
unfoldable pub absent_of : List ℕ → ℕ → ℕ → ℕ
absent_of s c m = cond (ltb c CHANNELS) (absents (present (window_of c s)) m minutes_between) minutes_between

-- ---- the documents' number and values of each case, and the number of a block that is no store

-- "2 apparent wind", "3 ship motion"
abbrev pub wind_channel : ℕ
wind_channel = 2

abbrev pub course_channel : ℕ
course_channel = 3

abbrev pub refusal_as : HearingRefusal → Numbered
refusal_as (Message r) = numbered (number_of r) []
refusal_as Repeated = numbered 8 []
refusal_as (Late minutes) = numbered 19 (minutes ∷ [])
refusal_as OutsideDial = numbered 23 []
refusal_as (NoCourse m) = numbered 11 (course_channel ∷ m.0 ∷ [])
refusal_as OutsideAnemometer = numbered 24 []
refusal_as NoStore = numbered NO_STORE []

abbrev pub heard_as : Result (Unit {0}) HearingRefusal → Answer Numbered (Unit {0})
heard_as (Ok u) = given tt
heard_as (Err h) = refused (refusal_as h)

abbrev pub outcome : {R : Type 0} → Answer R Entry → Answer R (Unit {0})
outcome (refused n) = refused n
outcome (given e) = given tt

-- What an entry comes to, by its channel's newest.
abbrev pub offered : List ℕ → Entry → Answer Numbered Entry
offered s e = answer (newest_tests (next_in s e.channel) e.minute) e

-- An entry was offered to the store, and answered by h.
pub record Keeps (s s' : List ℕ) (e : Entry) (h : Result (Unit {0}) HearingRefusal) : Type 0 where
  pub answer : heard_as h ≡ outcome (offered s e)
  pub block : s' ≡ kept_by s (offered s e)

-- A message was heard, and answered by h.
pub record Hears (s s' m : List ℕ) (h : Result (Unit {0}) HearingRefusal) : Type 0 where
  pub answer : heard_as h ≡ outcome (hearing s m)
  pub block : s' ≡ heard_by s m
