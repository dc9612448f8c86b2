-- What an entry comes to. A block that is no store hears nothing; a store puts it to the tests, and what passes them is kept. Assumes
-- nothing.
use mathlib.Core.Path.{◌≡◌, refl, sym, ap, ◌∙◌}
use mathlib.Core.Bool.{Bool, true, false, not}
use mathlib.Core.List.{List, [], ◌∷◌, ◌++◌}
use Prim.Native.Nat.{ℕ, ◌<◌, ◌≤◌}
use lib.Dec.{leb, ltb}
use lib.IntN.{pos}
use borrow.Author.Tests.{le-ltb, lt-ltb}
use Rattle.number.specs.Refusal.{Numbered, numbered, Test, Answer, refused, given, answer}
use Rattle.number.proofs.RefusalLaws.{refused_stays, given_goes_on, given_is}
use Rattle.quantity.specs.Limits.{inside, degrees, last_minute}
use Rattle.message.specs.Receive.{Entry, m/s, deg}
use Rattle.cell.specs.Cells.{is_present, in_degrees}
use Rattle.block.specs.Layout.{NO_STORE}
use Rattle.block.specs.Words.{is_store}
use Rattle.std.specs.Prelude.{Option, Some, None, Result, Ok, Err}
use Rattle.quantity.specs.declared.Degrees.{Degrees}
use Rattle.quantity.specs.declared.MetresPerSecond.{MetresPerSecond}
use Rattle.anemometer.specs.Anemometer.{certificate_held, dial_holds, speed, no_speed, from_bow, measured, measured_as}
use Rattle.anemometer.specs.declared.DialRefusal.{DialRefusal}
use Rattle.anemometer.specs.declared.DialRefusal.TheVariants.{OutsideDial, OutsideCertificate}
use Rattle.anemometer.specs.declared.Note.{Note}
use Rattle.anemometer.proofs.MeasuredLaws.{was_dial, was_certificate, was_speed}
use Rattle.store.specs.Block.{newest_tests, next_in, kept, kept_by, wind_channel, course_channel}
use Rattle.store.specs.Noting.{wind_entry, work_tests, note_tests, course_at, worked, noting, noted_by, IsCourse}
use Rattle.store.proofs.NewestLaws.{later, not_later}

module _ (s : List ℕ) (n : Note) where
  abbrev tests : List (Test Numbered)
  tests = note_tests (next_in s wind_channel) (course_at s n) (no_speed (certificate_held s) n) n

  abbrev would : Entry
  would = wind_entry (certificate_held s) (course_at s n) n

  pub store_notes : is_store s ≡ true → noting s n ≡ answer tests would
  unfolding noting answer
  store_notes is = rw is

  pub notes_nothing : is_store s ≡ false → noting s n ≡ refused (numbered NO_STORE [])
  unfolding noting answer
  notes_nothing not_is = rw not_is

  -- it is kept in channel 2
  pub noting_channel : (e : Entry) → noting s n ≡ given e → e.channel ≡ wind_channel
  unfolding noting
  noting_channel e h = ap (λ (x : Entry). x.channel) (sym (given_is _ would e h))

  -- the block after it
  pub noted_refused : (x : Numbered) → noting s n ≡ refused x → noted_by s n ≡ s
  unfolding noted_by
  noted_refused x h = rw h

  pub noted_given : (e : Entry) → noting s n ≡ given e → noted_by s n ≡ kept s e
  unfolding noted_by
  noted_given e h = ap (kept_by s) h

  -- ---- the tests of a store, in their order

  module _ (is : is_store s ≡ true) where
    pub too_late_lem : ltb last_minute n.minute ≡ true → noting s n ≡ refused (numbered 5 [])
    unfolding answer
    too_late_lem h = store_notes is ∙ rw h

    module _ (in_time : ltb last_minute n.minute ≡ false) where
      pub no_direction : inside degrees (pos n.direction) ≡ false → noting s n ≡ refused (numbered 7 [])
      unfolding answer
      no_direction h = store_notes is ∙ rw (in_time, h)

      module _ (way : inside degrees (pos n.direction) ≡ true) where
        by_newest : noting s n ≡ answer (newest_tests (next_in s wind_channel) n.minute ++ work_tests (course_at s n) (no_speed (certificate_held s) n) n) would
        unfolding answer
        by_newest = store_notes is ∙ rw (in_time, way)

        -- not later than the newest: 8 or 19
        pub not_after : n.minute < next_in s wind_channel → noting s n ≡ answer (newest_tests (next_in s wind_channel) n.minute) would
        not_after l =
            let no = not_later (next_in s wind_channel) n.minute would l in
            by_newest ∙ refused_stays (newest_tests (next_in s wind_channel) n.minute) (work_tests (course_at s n) (no_speed (certificate_held s) n) n) would would no.0 no.1 ∙ sym no.1

        -- later: what it is worked into decides
        pub after : next_in s wind_channel ≤ n.minute → noting s n ≡ worked s n
        unfolding worked
        after l = by_newest ∙ given_goes_on (newest_tests (next_in s wind_channel) n.minute) _ would would would (later (next_in s wind_channel) n.minute would l)

-- ---- what an entry is worked into

module _ (s : List ℕ) (n : Note) where
  pub worked_dial : dial_holds n ≡ false → refused (numbered 23 []) ≡ worked s n
  unfolding worked answer
  worked_dial h = rw h

  module _ (dial : dial_holds n ≡ true) where
    pub worked_no_course : is_present (course_at s n) ≡ false → refused (numbered 11 (course_channel ∷ n.minute ∷ [])) ≡ worked s n
    unfolding worked answer
    worked_no_course h = rw (dial, h)

    module _ (there : is_present (course_at s n) ≡ true) where
      pub worked_beyond : no_speed (certificate_held s) n ≡ true → refused (numbered 24 []) ≡ worked s n
      unfolding worked answer
      worked_beyond h = rw (dial, there, h)

      pub worked_wind : no_speed (certificate_held s) n ≡ false → (v d : ℕ) → pos v ≡ speed (certificate_held s) n → d ≡ from_bow n.direction (in_degrees (course_at s n))
          → given (record { channel = wind_channel; minute = n.minute; first = m/s (pos v); second = deg (pos d) }) ≡ worked s n
      unfolding worked answer
      worked_wind h v d e f = rw (dial, there, h, e, f)

-- the same by what the dial was told to say, and the course

module _ (s : List ℕ) (n : Note) {told : Result MetresPerSecond DialRefusal} (says : measured_as told ≡ measured (certificate_held s) n) where
  pub told_dial : told ≡ Err OutsideDial → refused (numbered 23 []) ≡ worked s n
  told_dial e = worked_dial s n (was_dial (certificate_held s) n (rw e at says))

  module _ {course : Option Degrees} (is : IsCourse (course_at s n) course) where
    pub told_no_course : (told ≡ Err OutsideDial → ⊥) → course ≡ None → refused (numbered 11 (course_channel ∷ n.minute ∷ [])) ≡ worked s n
    told_no_course not e = worked_no_course s n (dial told says not) (rw e at is)
      where
        dial : (t : Result MetresPerSecond DialRefusal) → measured_as t ≡ measured (certificate_held s) n → (t ≡ Err OutsideDial → ⊥) → dial_holds n ≡ true
        dial (Ok v) h f = (was_speed (certificate_held s) n h).0
        dial (Err OutsideDial) h f = absurd (f refl)
        dial (Err OutsideCertificate) h f = (was_certificate (certificate_held s) n h).0

    pub told_beyond : told ≡ Err OutsideCertificate → {ahead : Degrees} → course ≡ Some ahead → refused (numbered 24 []) ≡ worked s n
    told_beyond e f =
        let w = was_certificate (certificate_held s) n (rw e at says) in
        let k = rw f at is in
        worked_beyond s n w.0 k.0 w.1

    pub told_wind : {v : MetresPerSecond} → told ≡ Ok v → {ahead : Degrees} → course ≡ Some ahead → (d : ℕ) → d ≡ from_bow n.direction ahead.0
        → given (record { channel = wind_channel; minute = n.minute; first = m/s (pos v.0); second = deg (pos d) }) ≡ worked s n
    told_wind {v} e f d g =
        let w = was_speed (certificate_held s) n (rw e at says) in
        let k = rw f at is in
        worked_wind s n w.0 k.0 w.1 v.0 d w.2 (g ∙ ap (from_bow n.direction) (sym k.1))
