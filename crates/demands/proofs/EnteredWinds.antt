-- The wind of an entry that was taken: channel 2 keeps what the entry says at its minute, channel 3 what it kept before, so the answer
-- is the wind of both. Assumes nothing.
use mathlib.Core.Path.{◌≡◌, refl, sym, ap, subst, ◌∙◌}
use mathlib.Core.Bool.{Bool, true, false, not}
use mathlib.Core.List.{List, [], ◌∷◌}
use Prim.Native.Nat.{ℕ}
use lib.Dec.{ltb}
use lib.IntN.{nat_abs}
use borrow.Author.Tests.{not-false}
use Rattle.number.specs.Refusal.{Numbered, Answer, refused, given, answer}
use Rattle.number.proofs.RefusalLaws.{given_then, given_is, given_not_refused}
use Rattle.number.proofs.Sizes.{fails, impossible}
use Rattle.quantity.specs.Limits.{last_minute}
use Rattle.message.specs.Receive.{Entry}
use Rattle.settings.specs.declared.Settings.{Settings}
use Rattle.cell.specs.Cells.{Recall, recalled, is_present, in_degrees}
use Rattle.anemometer.specs.Anemometer.{certificate_in, speed, from_bow}
use Rattle.anemometer.specs.declared.Note.{Note}
use Rattle.store.specs.Block.{heard_as, outcome, wind_channel, course_channel}
use Rattle.store.specs.Noting.{noting}
use Rattle.store.specs.History.{Sent, note, history, remembered, entered, store_of}
use Rattle.std.specs.Prelude.{Ok}
use Rattle.store.proofs.StoreTheorems.{stranger, entry_remembered}
use Rattle.vapour.proofs.TablesExist.{the_tables}
use Rattle.wind.specs.Answer.{IsWind}
use Rattle.wind.specs.declared.Wind.{Wind}
use Rattle.station.specs.Source.{Source, heard}
use Rattle.station.specs.Questions.{question, wind, Reply, Answers, wind_tests, WindRule}
use Rattle.heard.specs.Feeds.{tests_of_entry, would_note}
use Rattle.heard.proofs.RefusalsInOrder.{entry_by_messages}
use Rattle.demands.specs.Working.{Asks, Notes, Working}
use Rattle.demands.specs.Demands.{WindOfEntry}
use Rattle.demands.proofs.WorkingLaws.{note_answer, good, block, replies}

-- what was told without what is kept
outcome_given : (a : Answer Numbered Entry) → given tt ≡ outcome a → (e : Entry) × (a ≡ given e)
outcome_given (refused n) h = impossible (cc)
outcome_given (given e) h = (e, refl)

module _ (g : Settings) (M : List Sent) (b : List ℕ) (w : Working g M b) (n : Note) (b' : List ℕ) (v : Notes b n (Ok tt) b') where
  -- no test refused it
  passed : answer (tests_of_entry g M n) (would_note g M n) ≡ given (would_note g M n)
  unfolding entered
  passed =
      let told = outcome_given (noting (store_of g M) n) (note_answer b n (Ok tt) b' v ∙ ap (λ (s : List ℕ). outcome (noting s n)) (block g M b w)) in
      let is = sym (entry_by_messages g (good g M b w) M n) ∙ told.1 in
      is ∙ ap given (sym (given_is (tests_of_entry g M n) (would_note g M n) told.0 is))

  abbrev S : Source
  S = heard g (note n ∷ M)

  -- what both channels keep then
  felt : S.recall wind_channel n.minute ≡ recalled (would_note g M n)
  unfolding entered
  felt = entry_remembered g M n passed

  moved : S.recall course_channel n.minute ≡ (heard g M).recall course_channel n.minute
  moved = ap (λ (H : List Entry). remembered H n.minute) (stranger g course_channel M (note n) refl)

  there : is_present ((heard g M).recall course_channel n.minute) ≡ true
  there = not-false _ (fails _ (λ h. given_then (would_note g M n) (tests_of_entry g M n) passed _ (5, (h, refl))))

  in_time : ltb last_minute n.minute ≡ false
  in_time = fails _ (λ h. given_then (would_note g M n) (tests_of_entry g M n) passed _ (0, (h, refl)))

  no_refusal : answer {A = Unit {0}} (wind_tests S n.minute) tt ≡ given tt
  unfolding answer
  no_refusal = rw (in_time, felt, moved, there)

  pub entered_wind : (x : Reply wind) (b'' : List ℕ) → Asks wind b' n.minute x b'' → (w : Wind) × ((question wind).told x ≡ given w) × (WindOfEntry g M n w)
  unfolding Working Answers
  entered_wind x b'' a =
      go ((question wind).told x) (replies wind g (note n ∷ M) n.minute x (record { block = b'; after = b''; working = working; asks = a }) the_tables.0 the_tables.1)
    where
      working : Working g (note n ∷ M) b'
      working = (b, w, (Ok tt, v))

      go : (r : Answer Numbered Wind) → Answers (wind_tests S n.minute) (WindRule S n.minute) r → (w : Wind) × (r ≡ given w) × (WindOfEntry g M n w)
      go (refused k) e = given_not_refused (sym no_refusal ∙ e)
      go (given w) e = (w, refl, rw (felt, moved) at e.1)
