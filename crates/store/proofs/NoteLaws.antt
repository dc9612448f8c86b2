-- From the tests that the code makes to what the store answers an entry, and what the block then holds. Assumes nothing.
use mathlib.Core.Path.{◌≡◌, refl, sym, ap, ◌∙◌}
use mathlib.Core.Bool.{true, false}
use mathlib.Core.List.{List}
use Prim.Native.Nat.{ℕ, ◌<◌, ◌≤◌}
use lib.Dec.{leb, ltb}
use lib.IntN.{pos}
use borrow.Author.Tests.{leb-true, leb-false, le-ltb, lt-ltb}
use Rattle.number.specs.Refusal.{Numbered, refused, given, answer}
use Rattle.quantity.specs.Limits.{inside, degrees, last_minute}
use Rattle.message.specs.Receive.{Entry, entry_of}
use Rattle.message.specs.declared.Reading.{Reading}
use Rattle.message.proofs.SingleAnswers.{entry_minute}
use Rattle.wire.specs.declared.MessageRefusal.TheVariants.{MinuteTooLate, OutsideLimits}
use Rattle.cell.specs.Cells.{cell_of}
use Rattle.window.specs.Window.{accepted}
use Rattle.block.specs.Words.{is_store, window_of, replaced}
use Rattle.anemometer.specs.Anemometer.{certificate_held}
use Rattle.anemometer.specs.declared.Note.{Note}
use Rattle.store.specs.Block.{newest_tests, next_in, heard_as, outcome, wind_channel}
use Rattle.store.specs.Noting.{wind_entry, course_at, worked, noting, noted_by, Notes}
use Rattle.std.specs.Prelude.{Result, Ok, Err}
use Rattle.store.specs.declared.HearingRefusal.{HearingRefusal}
use Rattle.store.specs.declared.HearingRefusal.TheVariants.{Message, NoStore}
use Rattle.store.proofs.NewestLaws.{not_later}
use Rattle.store.proofs.NotingLaws.{notes_nothing, too_late_lem, no_direction, not_after, after, noting_channel, noted_refused}

module _ (s : List ℕ) (n : Note) where
  -- it is refused: the block stays
  refuses : (x : Numbered) (h : Result (Unit {0}) HearingRefusal) → noting s n ≡ refused x → heard_as h ≡ refused x → Notes s s n h
  refuses x h e told = record { answer = told ∙ sym (ap outcome e); block = sym (noted_refused s n x e) }

  pub notes_unopened : is_store s ≡ false → Notes s s n (Err NoStore)
  notes_unopened is = refuses _ (Err NoStore) (notes_nothing s n is) refl

  module _ (is : is_store s ≡ true) where
    pub notes_late : leb n.minute last_minute ≡ false → Notes s s n (Err (Message MinuteTooLate))
    notes_late l = refuses _ (Err (Message MinuteTooLate)) (too_late_lem s n is (lt-ltb last_minute n.minute (leb-false n.minute last_minute l))) refl

    module _ (time : leb n.minute last_minute ≡ true) where
      in_time : ltb last_minute n.minute ≡ false
      in_time = le-ltb last_minute n.minute (leb-true n.minute last_minute time)

      pub notes_undirected : inside degrees (pos n.direction) ≡ false → Notes s s n (Err (Message OutsideLimits))
      notes_undirected d = refuses _ (Err (Message OutsideLimits)) (no_direction s n is in_time d) refl

      module _ (way : inside degrees (pos n.direction) ≡ true) where
        -- not later than the newest
        pub notes_behind : (h : Result (Unit {0}) HearingRefusal) {next : ℕ} → next ≡ next_in s wind_channel → n.minute < next
            → ((e : Entry) → heard_as h ≡ outcome (answer (newest_tests next n.minute) e)) → Notes s s n h
        notes_behind h {next} is-next l told =
            let e = not_after s n is in_time way (rw is-next at l) in
            let would = wind_entry (certificate_held s) (course_at s n) n in
            let no = not_later (next_in s wind_channel) n.minute would (rw is-next at l) in
            record {
              answer = told would ∙ ap (λ (k : ℕ). outcome (answer (newest_tests k n.minute) would)) is-next ∙ sym (ap outcome e);
              block = sym (noted_refused s n no.0 (e ∙ no.1));
            }

        module _ {next : ℕ} (is-next : next ≡ next_in s wind_channel) (l : next ≤ n.minute) where
          pub notes_refused : {x : Numbered} {h : Result (Unit {0}) HearingRefusal} → refused x ≡ worked s n → heard_as h ≡ refused x → Notes s s n h
          notes_refused {x} {h} e told = refuses x h (after s n is in_time way (rw is-next at l) ∙ sym e) told

          -- it is worked into a reading, whose cell is kept
          pub notes_kept : (r : Reading) (v : ℕ) → given (entry_of n.minute r) ≡ worked s n → v ≡ cell_of (entry_of n.minute r)
              → Notes s (replaced s wind_channel (accepted (window_of wind_channel s) n.minute v)) n (Ok tt)
          unfolding noted_by
          notes_kept r v e cell =
              let all = after s n is in_time way (rw is-next at l) ∙ sym e in
              let entry = entry_of n.minute r in
              let own : entry.channel ≡ wind_channel = noting_channel s n entry all in
              record { answer = sym (ap outcome all); block = rw (all, own, entry_minute n.minute r, cell) }
