-- "8, minute equal to the newest, and 19, minute earlier, which returns the difference": of whatever answer the contract of `hear` allows,
-- to a message that none of 1 to 7 refuses, by what its channel has accepted before. Assumes nothing.
use mathlib.Core.Path.{◌≡◌, sym, ap, ◌∙◌}
use mathlib.Core.List.{List, [], ◌∷◌}
use Prim.Native.Nat.{ℕ, ◌+◌, ◌-◌, ◌<◌}
use native.Mathlib.Omega.{arith}
use Rattle.number.specs.Refusal.{Numbered, Answer, given, answer}
use Rattle.message.specs.Receive.{Entry, received}
use Rattle.settings.specs.declared.Settings.{Settings}
use Rattle.store.specs.Block.{newest_tests, outcome, Hears}
use Rattle.store.specs.History.{Sent, next_of, history, Remembers}
use Rattle.std.specs.Prelude.{Result, Ok, Err}
use Rattle.store.specs.declared.HearingRefusal.{HearingRefusal}
use Rattle.store.specs.declared.HearingRefusal.TheVariants.{Repeated, Late}
use Rattle.store.proofs.NewestLaws.{later, repeated, late}
use Rattle.store.proofs.HistoryLaws.{by_newest}
use Rattle.store.proofs.SingleAnswers.{hearing_of, hearing_back}

module _ (s : List ℕ) (g : Settings) (M : List Sent) (r : Remembers s g M) (m : List ℕ) (e : Entry) (is : received g.unit m ≡ given e)
    (s' : List ℕ) (h : Result (Unit {0}) HearingRefusal) (hears : Hears s s' m h) where
  told : (H : List Entry) → history g e.channel M ≡ H → (a : Answer Numbered Entry) → answer (newest_tests (next_of H) e.minute) e ≡ a
      → h ≡ hearing_of (outcome a)
  told H accepted a told-as =
      let newest = ap (λ (K : List Entry). answer (newest_tests (next_of K) e.minute) e) accepted in
      sym (hearing_back h)
      ∙ ap hearing_of hears.answer
      ∙ ap (λ (x : Answer Numbered Entry). hearing_of (outcome x)) (by_newest g s M m r e is ∙ newest ∙ told-as)

  -- The first message of a channel gets neither.
  pub first_is_heard : history g e.channel M ≡ [] → h ≡ Ok tt
  unfolding hearing_of
  first_is_heard none = told [] none (given e) (later 0 e.minute e (omega arith))

  module _ (newest : Entry) (H : List Entry) (accepted : history g e.channel M ≡ newest ∷ H) where
    pub later_is_heard : newest.minute < e.minute → h ≡ Ok tt
    unfolding hearing_of
    later_is_heard l = told (newest ∷ H) accepted (given e) (later (newest.minute + 1) e.minute e (omega arith))

    pub equal_is_repeated : e.minute ≡ newest.minute → h ≡ Err Repeated
    unfolding hearing_of
    equal_is_repeated q = told (newest ∷ H) accepted _ (repeated (newest.minute + 1) e.minute e (omega arith))

    pub earlier_is_late : e.minute < newest.minute → h ≡ Err (Late (newest.minute - e.minute))
    unfolding hearing_of
    earlier_is_late l =
        let d : newest.minute + 1 - (e.minute + 1) ≡ newest.minute - e.minute = omega arith in
        told (newest ∷ H) accepted _ (late (newest.minute + 1) e.minute e (omega arith)) ∙ ap (λ (k : ℕ). Err (Late k)) d
