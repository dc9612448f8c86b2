-- The five empty programs that document 01 wants shut out ("What the contracts settle"), and what it is that a program meets the
-- station's contracts. proofs/NoEmptyProgram.antt proves that none of the five does.
use Rattle.std.specs.Prelude.{◌≡◌, List, [], ◌∷◌, ℕ, ℤ, Result}
use denote.Ref.{at_last}
use Rattle.number.specs.Refusal.{Numbered, Answer, refused, given}
use Rattle.wire.specs.Bytes.{channel}
use Rattle.settings.specs.Settings.{checked_as}
use Rattle.settings.specs.declared.Settings.{Settings}
use Rattle.settings.specs.declared.SettingsRefusal.{SettingsRefusal}
use Rattle.anemometer.specs.declared.Note.{Note}
use Rattle.store.specs.Block.{heard_as}
use Rattle.store.specs.History.{Sent, bytes, note}
use Rattle.store.specs.declared.HearingRefusal.{HearingRefusal}
use Rattle.station.specs.Told.{Change}
use Rattle.station.specs.Questions.{Asked, pressure, tendency, wind, humidity, question, Reply}
use Rattle.station.proofs.«open».Reads as to_open
use Rattle.station.proofs.hear.Reads as to_hear
use Rattle.station.proofs.note.Reads as to_note
use Rattle.station.proofs.pressure.Reads as for_pressure
use Rattle.station.proofs.tendency.Reads as for_tendency
use Rattle.station.proofs.wind.Reads as for_wind
use Rattle.station.proofs.humidity.Reads as for_humidity

-- ---- programs

-- A program, by what its seven functions do: of a block and settings, a message or an entry, an answer and the block that is left; of a
-- block and a minute, an answer.
pub record Program : Type 0 where
  pub opens : List ℕ → Settings → Result (Unit {0}) SettingsRefusal × List ℕ
  pub hears : List ℕ → List ℕ → Result (Unit {0}) HearingRefusal × List ℕ
  pub notes : List ℕ → Note → Result (Unit {0}) HearingRefusal × List ℕ
  pub asks : (q : Asked) → List ℕ → ℕ → Reply q

-- A contract as the check reads it (`Reads.Post`) holds of what is done with any arguments: the answer, and the parameters at exit.
abbrev pub Allows : {L : Type 0} {A R S : L → Type 0} → ((κs : L) → A κs → R κs → S κs → Type 0) → ((κs : L) → A κs → R κs × S κs) → Type 0
Allows {L} {A} {R} {S} Post done = (κs : L) (a : A κs) → Post κs a (done κs a).0 (done κs a).1

-- The program meets the contract of a question, and all seven contracts.
abbrev pub MeetsAsked : Program → Asked → Type 0
MeetsAsked p pressure = Allows for_pressure.Post (λ κs a. (p.asks pressure a.0.now a.1.0, a))
MeetsAsked p tendency = Allows for_tendency.Post (λ κs a. (p.asks tendency a.0.now a.1.0, a))
MeetsAsked p wind = Allows for_wind.Post (λ κs a. (p.asks wind a.0.now a.1.0, a))
MeetsAsked p humidity = Allows for_humidity.Post (λ κs a. (p.asks humidity a.0.now a.1.0, a))

pub record Meets (p : Program) : Type 0 where
  pub opens : Allows to_open.Post (λ κs a. let r = p.opens a.0.now a.1.0 in (r.0, (at_last a.0 r.1, a.1)))
  pub hears : Allows to_hear.Post (λ κs a. let r = p.hears a.0.now a.1.0.now in (r.0, (at_last a.0 r.1, a.1)))
  pub notes : Allows to_note.Post (λ κs a. let r = p.notes a.0.now a.1.0 in (r.0, (at_last a.0 r.1, a.1)))
  pub asks : (q : Asked) → MeetsAsked p q

-- ---- programs in use

-- A store is opened on some memory with some settings, sent messages and entries (the newest first, the refused ones among them), and
-- asked for a minute.
pub record Use : Type 0 where
  pub memory : List ℕ
  pub settings : Settings
  pub messages : List Sent
  pub minute : ℕ

-- The block that a program then has.
unfoldable pub block_of : Program → List ℕ → Settings → List Sent → List ℕ
block_of p s g [] = (p.opens s g).1
block_of p s g (bytes m ∷ M) = (p.hears (block_of p s g M) m).1
block_of p s g (note n ∷ M) = (p.notes (block_of p s g M) n).1

abbrev pub block : Program → Use → List ℕ
block p u = block_of p u.memory u.settings u.messages

-- What it answers, as document 01 tells it.
abbrev pub opening_in : Program → Use → Answer ℕ (Unit {0})
opening_in p u = checked_as (p.opens u.memory u.settings).0

abbrev pub hearing_in : Program → List ℕ → Use → Answer Numbered (Unit {0})
hearing_in p m u = heard_as (p.hears (block p u) m).0

abbrev pub answer_in : (q : Asked) → Program → Use → Answer Numbered (question q).Figures
answer_in q p u = (question q).told (p.asks q (block p u) u.minute)

-- the change of a tendency alone
abbrev pub change_of : Answer Numbered Change → Answer Numbered ℤ
change_of (refused n) = refused n
change_of (given t) = given t.change

abbrev pub change_in : Program → Use → Answer Numbered ℤ
change_in p u = change_of (answer_in tendency p u)

-- ---- the five

-- "one that refuses everything"
abbrev pub Refuses : {R A : Type 0} → (Use → Answer R A) → Type 0
Refuses {R} ask = (u : Use) → (n : R) × (ask u ≡ refused n)

-- "one with a constant answer": wherever it gives figures, they are the same.
abbrev pub Constant : {A : Type 0} → (Use → Answer Numbered A) → Type 0
Constant {A} ask = (u v : Use) (x y : A) → ask u ≡ given x → ask v ≡ given y → x ≡ y

-- The same use with one message more.
abbrev pub after : Use → List ℕ → Use
after u m = record { memory = u.memory; settings = u.settings; messages = bytes m ∷ u.messages; minute = u.minute }

-- "one that stores nothing": no message changes a pressure that it answers, whatever it says of the message and leaves in the block.
abbrev pub StoresNothing : Program → Type 0
StoresNothing p = (u : Use) (m : List ℕ) → answer_in pressure p (after u m) ≡ answer_in pressure p u

-- "one that stores only the first message and merely says yes to the rest": after one that it says it heard, no other of that channel
-- changes a pressure. (So it is too where it stores but the first of all.)
abbrev pub StoresOnlyTheFirst : Program → Type 0
StoresOnlyTheFirst p =
    (u : Use) (m n : List ℕ) → channel m ≡ channel n → hearing_in p m u ≡ given tt → answer_in pressure p (after (after u m) n) ≡ answer_in pressure p (after u m)

-- "one that invents the absent count": it is made from settings, minute and change, whatever was heard.
abbrev pub InventsTheCount : Program → Type 0
InventsTheCount p = (made : Settings → ℕ → ℤ → ℕ) × ((u : Use) (t : Change) → answer_in tendency p u ≡ given t → t.absent ≡ made u.settings u.minute t.change)
