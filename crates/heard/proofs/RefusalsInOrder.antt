-- Demand 1 for questions, messages and entries: refusal n is given exactly when its reason holds and no test before it does, with
-- reasons by what was heard. The one law of refusals at each list. Assumes nothing.
use mathlib.Core.Path.{◌≡◌, refl, sym, ap, ◌∙◌}
use mathlib.Core.List.{List}
use mathlib.Core.Logic.{◌↔◌}
use Prim.Native.Nat.{ℕ, ◌<◌}
use lib.Dec.{lit<}
use Rattle.number.specs.Refusal.{Numbered, Test, Answer, refused, given, answer, Holds, First}
use Rattle.number.proofs.RefusalLaws.{refused_then, then_refused, given_then, then_given, refused_exactly}
use Rattle.number.proofs.Sizes.{impossible}
use Rattle.wire.specs.Bytes.{minute}
use Rattle.wire.specs.Decode.{message}
use Rattle.message.specs.Receive.{entry}
use Rattle.wire.specs.declared.Message.{Message}
use Rattle.wire.specs.declared.Message.TheVariants.{Barometer, Wheelhouse, ApparentWind, ShipMotion, DryBulb, WetBulb}
use Rattle.quantity.specs.declared.BarometerUnit.{BarometerUnit}
use Rattle.settings.specs.Settings.{checked}
use Rattle.settings.specs.declared.Settings.{Settings}
use Rattle.cell.specs.Cells.{CHANNELS}
use Rattle.anemometer.specs.declared.Note.{Note}
use Rattle.store.specs.Block.{hearing}
use Rattle.store.specs.Noting.{noting}
use Rattle.store.specs.History.{Sent, entered, store_of}
use Rattle.store.proofs.EntryLaws.{by_history}
use Rattle.store.proofs.HistoryLaws.{store_remembers, open_hears}
use Rattle.station.specs.Questions.{Answers}
use Rattle.heard.specs.Feeds.{would_keep, message_tests, would_note, tests_of_entry}

-- ---- questions

module _ {A : Type 0} (ts : List (Test Numbered)) (Rule : A → Type 0) where
  -- A question is refused exactly when a reason holds and none before it.
  pub question_refused : (a : Answer Numbered A) → Answers ts Rule a → (n : Numbered) → (a ≡ refused n) ↔ First ts n
  unfolding Answers
  question_refused (refused r) w n = (
    λ e. refused_then tt ts n (w ∙ (let z : r ≡ n = cc in ap refused z)),
    λ h. let e : ◌≡◌ {A = Answer Numbered (Unit {0})} (refused r) (refused n) = sym w ∙ then_refused tt ts n h.0 h.1 h.2 in let z : r ≡ n = cc in ap refused z,
  )
  question_refused (given x) w n = (
    λ e. impossible (cc),
    λ h. let e : ◌≡◌ {A = Answer Numbered (Unit {0})} (given tt) (refused n) = sym w.0 ∙ then_refused tt ts n h.0 h.1 h.2 in impossible (cc),
  )

  -- It is answered, by its rule, exactly when no reason holds.
  pub question_given : (a : Answer Numbered A) → Answers ts Rule a → ((x : A) × (a ≡ given x) × Rule x) ↔ ((n : Numbered) → Holds ts n → ⊥)
  unfolding Answers
  question_given (refused r) w = (
    λ h. (let e = h.1 in impossible (cc)),
    λ f. let e : ◌≡◌ {A = Answer Numbered (Unit {0})} (refused r) (given tt) = sym w ∙ then_given tt ts f in impossible (cc),
  )
  question_given (given x) w = (λ h. given_then tt ts w.0, λ f. (x, refl, w.1))

-- ---- messages

-- whatever the bytes, a message would be kept in one of the six channels
entry_low : (u : BarometerUnit) (t : ℕ) (m : Message) → (entry u t m).channel < CHANNELS
entry_low u t (Barometer x) = lit< tt
entry_low u t (Wheelhouse x) = lit< tt
entry_low u t (ApparentWind x) = lit< tt
entry_low u t (ShipMotion x) = lit< tt
entry_low u t (DryBulb x) = lit< tt
entry_low u t (WetBulb s x) = lit< tt

entry_minute : (u : BarometerUnit) (t : ℕ) (m : Message) → (entry u t m).minute ≡ t
entry_minute u t (Barometer x) = refl
entry_minute u t (Wheelhouse x) = refl
entry_minute u t (ApparentWind x) = refl
entry_minute u t (ShipMotion x) = refl
entry_minute u t (DryBulb x) = refl
entry_minute u t (WetBulb s x) = refl

module _ (g : Settings) (good : checked g ≡ given tt) (M : List Sent) (m : List ℕ) where
  -- The store tests a message by what was heard before.
  pub message_by_messages : hearing (store_of g M) m ≡ answer (message_tests g M m) (would_keep g m)
  message_by_messages =
      let e = would_keep g m in
      let r = store_remembers g good M in
      let low = entry_low g.unit (minute m) (message m) in
      open_hears g good M m ∙ rw (r.unit, r.newest e.channel low, entry_minute g.unit (minute m) (message m))

  pub message_refused_exactly : (n : Numbered) → (hearing (store_of g M) m ≡ refused n) ↔ First (message_tests g M m) n
  message_refused_exactly n =
      let law = refused_exactly (would_keep g m) (message_tests g M m) n in
      (λ e. law.0 (sym message_by_messages ∙ e), λ w. message_by_messages ∙ law.1 w)

-- ---- entries

module _ (g : Settings) (good : checked g ≡ given tt) (M : List Sent) (n : Note) where
  -- The store tests an entry by what was heard before.
  pub entry_by_messages : noting (store_of g M) n ≡ answer (tests_of_entry g M n) (would_note g M n)
  unfolding entered
  entry_by_messages = by_history g good (store_of g M) M n (store_remembers g good M)

  pub entry_refused_exactly : (x : Numbered) → (noting (store_of g M) n ≡ refused x) ↔ First (tests_of_entry g M n) x
  entry_refused_exactly x =
      let law = refused_exactly (would_note g M n) (tests_of_entry g M n) x in
      (λ e. law.0 (sym entry_by_messages ∙ e), λ w. entry_by_messages ∙ law.1 w)
