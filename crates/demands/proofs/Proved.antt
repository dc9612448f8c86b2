-- The three demands hold. Each sentence from the theorem of the crate that it is about. Assumes nothing.
use mathlib.Core.Path.{◌≡◌, refl, sym, ap, subst, ◌∙◌}
use mathlib.Core.Bool.{Bool, true, false, cond}
use mathlib.Core.List.{List, [], ◌∷◌}
use mathlib.Core.Logic.{◌↔◌}
use Prim.Native.Nat.{ℕ, ◌+◌, ◌-◌}
use denote.Ref.{at_last}
use lib.IntN.{ℤ}
use lib.ListN.{length}
use Rattle.number.specs.Refusal.{Numbered, Test, Answer, refused, given, answer, Holds, First}
use Rattle.number.proofs.RefusalLaws.{refused_exactly, then_given}
use Rattle.number.proofs.Sizes.{impossible}
use Rattle.message.specs.Receive.{Entry}
use Rattle.settings.specs.Settings.{checked, checked_as}
use Rattle.settings.specs.Settings as settings
use Rattle.settings.specs.declared.Settings.{Settings}
use Rattle.std.specs.Prelude.{Result, Ok, Err}
use Rattle.settings.specs.declared.SettingsRefusal.{SettingsRefusal}
use Rattle.settings.proofs.SingleAnswers.{case_of, case_back}
use Rattle.wire.specs.declared.MessageRefusal.TheVariants.{NotSixteenBytes, NoSuchChannel, ByteNotZero, NoSuchState, MinuteTooLate, NotFinite, OutsideLimits}
use Rattle.anemometer.specs.Anemometer.{certificate_held, no_speed}
use Rattle.anemometer.specs.declared.Note.{Note}
use Rattle.store.specs.Block.{wind_channel, opened_by, no_store, next_in, hearing, hear_tests, entry_of_bytes, heard_as, heard_by, outcome}
use Rattle.store.specs.Noting.{wind_entry, note_tests, course_at, noting, noted_by}
use Rattle.store.specs.History.{Sent, store_of}
use Rattle.store.proofs.NotingLaws.{noted_refused}
use Rattle.store.specs.declared.HearingRefusal.{HearingRefusal}
use Rattle.store.specs.declared.HearingRefusal.TheVariants.{Message, Repeated, Late, OutsideDial, NoCourse, OutsideAnemometer, NoStore}
use Rattle.store.proofs.StoreTheorems.{refused_changes_nothing}
use Rattle.station.specs.Source.{heard}
use Rattle.station.specs.Questions.{question}
use Rattle.station.proofs.SingleAnswers.{one_reply}
use Rattle.heard.specs.Feeds.{fed_to, messages_of, would_keep, message_tests, tests_of_entry}
use Rattle.heard.proofs.RefusalsInOrder.{question_refused, message_by_messages, entry_refused_exactly}
use Rattle.heard.proofs.FedLaws.{same_fed, without_entries, fed_again}
use Rattle.heard.proofs.ReplacedLaws.{same_replaced}
use Rattle.octets.specs.Lent.{sized}
use Rattle.octets.proofs.LentLaws.{sized_refused}
use Rattle.watchfile.specs.Format.{DewRule, reading, writing, write_tests}
use Rattle.watchfile.specs.declared.Record.{Record}
use Rattle.watchfile.proofs.DewRules.{the_rule}
use Rattle.handed.specs.Words.{records_in}
use Rattle.writer.specs.Write.{offered, written_as}
use Rattle.writer.specs.declared.WriteRefusal.{WriteRefusal}
use Rattle.writer.proofs.RefusalsInOrder.{writes_in_order}
use Rattle.writer.proofs.WriteTheorems.{refused_leaves_every_byte}
use Rattle.reader.proofs.RefusalsInOrder.{read_refused}
use Rattle.listing.specs.Listing.{listing_of}
use Rattle.listing.proofs.RefusalsInOrder.{list_refused}
use Rattle.listing.proofs.ListTheorems as listed
use Rattle.demands.specs.Working.{Opens, Hears, Notes, Working, WritesFile}
use Rattle.demands.specs.Demands.{Demand1, Demand2, Demand3}
use Rattle.demands.proofs.WorkingLaws.{lent, lent_mut, open_answer, open_block, hear_answer, hear_block, note_answer, note_block, asks_leaves, good, block, replies, replies_on}
use Rattle.demands.proofs.FileLaws.{read_is, write_is, list_is, file_again, records_again, listed_as_lem}
use Rattle.demands.proofs.EnteredAnswers.{recorded}
use Rattle.demands.proofs.EnteredWinds.{entered_wind}
use Rattle.demands.proofs.MissingLaws.{missing, recall_missing, answer_missing}

-- ---- 1

by_settings : (b : List ℕ) (g : Settings) (c : Result (Unit {0}) SettingsRefusal) (b' : List ℕ) → Opens b g c b' → (n : ℕ) → (checked_as c ≡ refused n) ↔ First (settings.tests g) n
unfolding checked
by_settings b g c b' w n =
    let law = refused_exactly tt (settings.tests g) n in
    let is = open_answer b g c b' w in
    (λ e. law.0 (sym is ∙ e), λ f. is ∙ law.1 f)

-- hearing, told without what is kept
outcome_refused : (a : Answer Numbered Entry) (n : Numbered) → (outcome a ≡ refused n) ↔ (a ≡ refused n)
outcome_refused (refused k) n = (λ e. let z : k ≡ n = cc in ap refused z, λ e. let z : k ≡ n = cc in ap refused z)
outcome_refused (given e) n = (λ e. impossible (cc), λ e. impossible (cc))

by_messages : (g : Settings) (M : List Sent) (b : List ℕ) → Working g M b → (m : List ℕ) (h : Result (Unit {0}) HearingRefusal) (b' : List ℕ) → Hears b m h b'
    → (n : Numbered) → (heard_as h ≡ refused n) ↔ First (message_tests g M m) n
by_messages g M b w m h b' v n =
    let law = refused_exactly (would_keep g m) (message_tests g M m) n in
    let is = hear_answer b m h b' v ∙ ap (λ (s : List ℕ). outcome (hearing s m)) (block g M b w) in
    let told = outcome_refused (hearing (store_of g M) m) n in
    let by = message_by_messages g (good g M b w) M m in
    (λ e. law.0 (sym by ∙ told.0 (sym is ∙ e)), λ f. is ∙ told.1 (by ∙ law.1 f))

by_entries : (g : Settings) (M : List Sent) (b : List ℕ) → Working g M b → (e : Note) (h : Result (Unit {0}) HearingRefusal) (b' : List ℕ) → Notes b e h b'
    → (n : Numbered) → (heard_as h ≡ refused n) ↔ First (tests_of_entry g M e) n
by_entries g M b w e h b' v n =
    let law = entry_refused_exactly g (good g M b w) M e n in
    let is = note_answer b e h b' v ∙ ap (λ (s : List ℕ). outcome (noting s e)) (block g M b w) in
    let told = outcome_refused (noting (store_of g M) e) n in
    (λ x. law.0 (told.0 (sym is ∙ x)), λ f. is ∙ told.1 (law.1 f))

by_records : (dew : ℕ → ℤ) → DewRule dew → (words before after : List ℕ) (w : Result ℕ WriteRefusal) → WritesFile words before w after
    → (n : Numbered) → (written_as w ≡ refused n) ↔ First (write_tests dew (offered words) (length (records_in words)) (length before)) n
by_records dew ruled words before after w v n =
    let law = writes_in_order dew (offered words) (length (records_in words)) (length before) n in
    let h = write_is words before w after v dew ruled in
    (λ e. law.0 (sized_refused (writing dew (offered words) (length (records_in words)) (length before)) n (sym h.answer ∙ e)), λ f. h.answer ∙ ap sized (law.1 f))

-- settings that no test refuses are good
opens : (b : List ℕ) (g : Settings) (c : Result (Unit {0}) SettingsRefusal) (b' : List ℕ) → Opens b g c b' → ((n : ℕ) → Holds (settings.tests g) n → ⊥) → Working g [] b'
unfolding checked Working
opens b g c b' w none =
    let is : checked_as c ≡ given tt = open_answer b g c b' w ∙ then_given tt (settings.tests g) none in
    let same : c ≡ Ok tt = sym (case_back c) ∙ ap case_of is ∙ case_back (Ok tt) in
    (b, subst (λ (x : Result (Unit {0}) SettingsRefusal). Opens b g x b') same w)

opening_leaves : (s : List ℕ) (g : Settings) (n : ℕ) → checked g ≡ refused n → opened_by s g ≡ s
unfolding opened_by
opening_leaves s g n e = rw e

-- whatever a message may be refused with is what some answer tells
abbrev Told : List (Test Numbered) → Type 0
Told [] = Unit
Told (t ∷ ts) = ((h : Result (Unit {0}) HearingRefusal) × (heard_as h ≡ refused t.refusal)) × Told ts

some_answer : (ts : List (Test Numbered)) → Told ts → (e : Entry) → (h : Result (Unit {0}) HearingRefusal) × (heard_as h ≡ outcome (answer ts e))
unfolding answer
some_answer [] all e = (Ok tt, refl)
some_answer (t ∷ ts) all e = go t.holds all.0 (some_answer ts all.1 e)
  where
    go : (b : Bool) → (h : Result (Unit {0}) HearingRefusal) × (heard_as h ≡ refused t.refusal) → (h : Result (Unit {0}) HearingRefusal) × (heard_as h ≡ outcome (answer ts e))
        → (h : Result (Unit {0}) HearingRefusal) × (heard_as h ≡ outcome (cond b (refused t.refusal) (answer ts e)))
    go true now later = now
    go false now later = later

goes_on : (b m : List ℕ) → (h : Result (Unit {0}) HearingRefusal) × (b' : List ℕ) × Hears b m h b'
unfolding hearing
goes_on b m =
    let e = entry_of_bytes b m in
    let a = some_answer (no_store b ∷ hear_tests b m) (
      (Err NoStore, refl),
      (
        (Err (Message NotSixteenBytes), refl),
        (
          (Err (Message NoSuchChannel), refl),
          (
            (Err (Message ByteNotZero), refl),
            (
              (Err (Message NoSuchState), refl),
              (
                (Err (Message MinuteTooLate), refl),
                (
                  (Err (Message NotFinite), refl),
                  ((Err (Message OutsideLimits), refl), ((Err Repeated, refl), ((Err (Late (next_in b e.channel - (e.minute + 1))), refl), tt))),
                ),
              ),
            ),
          ),
        ),
      ),
    )
    e in (
      a.0,
      heard_by b m,
      (([], ([], tt)), (lent_mut b, (lent m, tt)), a.0, (at_last (lent_mut b) (heard_by b m), (lent m, tt)), record { answer = a.1; block = refl }, (refl, refl, refl, refl)),
    )

takes_entries : (b : List ℕ) (e : Note) → (h : Result (Unit {0}) HearingRefusal) × (b' : List ℕ) × Notes b e h b'
unfolding noting
takes_entries b e =
    let a = some_answer (no_store b ∷ note_tests (next_in b wind_channel) (course_at b e) (no_speed (certificate_held b) e) e) (
      (Err NoStore, refl),
      (
        (Err (Message MinuteTooLate), refl),
        (
          (Err (Message OutsideLimits), refl),
          (
            (Err Repeated, refl),
            (
              (Err (Late (next_in b wind_channel - (e.minute + 1))), refl),
              ((Err OutsideDial, refl), ((Err (NoCourse (record { 0 = e.minute })), refl), ((Err OutsideAnemometer, refl), tt))),
            ),
          ),
        ),
      ),
    )
    (wind_entry (certificate_held b) (course_at b e) e) in (
      a.0,
      noted_by b e,
      (([], tt), (lent_mut b, (e, tt)), a.0, (at_last (lent_mut b) (noted_by b e), (e, tt)), record { answer = a.1; block = refl }, (refl, refl, refl, refl)),
    )

pub demand_1 : Demand1
demand_1 =
    record {
      setting = by_settings;
      message = by_messages;
      entry = by_entries;
      asked = λ q g M m x w tables tabled n.
          question_refused ((question q).tests [] tables (heard g M) m) ((question q).Rule (heard g M) m) ((question q).told x) (replies q g M m x w tables tabled) n;
      write = by_records;
      file = λ dew ruled s x w n. read_refused dew s x (read_is s x w dew ruled) n;
      listing = λ dew ruled s before after l w n. list_refused (listing_of (reading dew s)) before after l (list_is s before l after w dew ruled) n;
      opens = opens;
      goes_on = λ g M b w m. goes_on b m;
      takes_entries = λ g M b w e. takes_entries b e;
      refused_opening = λ b g c b' n w e. open_block b g c b' w ∙ opening_leaves b g n (sym (open_answer b g c b' w) ∙ e);
      refused_message = λ b m h b' n w e.
          hear_block b m h b' w ∙ refused_changes_nothing b m n ((outcome_refused (hearing b m) n).0 (sym (hear_answer b m h b' w) ∙ e));
      refused_entry = λ b e h b' n w x. note_block b e h b' w ∙ noted_refused b e n ((outcome_refused (noting b e) n).0 (sym (note_answer b e h b' w) ∙ x));
      refused_question = λ q b m x b' n w e. asks_leaves q b m x b' w;
      refused_write = λ words before after w n v e.
          refused_leaves_every_byte the_rule.0 (offered words) (length (records_in words)) before after w n (write_is words before w after v the_rule.0 the_rule.1) e;
      refused_listing = λ s before after l n w e.
          listed.refused_leaves_every_byte (listing_of (reading the_rule.0 s)) before after l n (list_is s before l after w the_rule.0 the_rule.1) e;
    }

-- ---- 2

pub demand_2 : Demand2
demand_2 =
    record {
      told = replies;
      entered = entered_wind;
      recorded = λ q g M m x w e v f is. recorded g (good g M w.block w.working) M m q x (replies q g M m x w) e v f is;
      file_again = file_again;
      records_again = records_again;
      listed = listed_as_lem;
    }

-- ---- 3

pub demand_3 : Demand3
demand_3 =
    record {
      alike = λ q g h same M N m e x y v w.
          one_reply q [] [] (heard g N) m x y (same_fed g M N q m e x (replies q g M m x v)) (replies_on q g h same M N m x y v w);
      alone = λ q g M m x w. same_fed g M (fed_to q M) q m (fed_again (question q).channels M) x (replies q g M m x w);
      entries_apart = λ q none g h same M m x y v w.
          one_reply q [] [] (heard g (messages_of M)) m x y (same_fed g M (messages_of M) q m (without_entries (question q).channels none M) x (replies q g M m x v))
          (replies_on q g h same M (messages_of M) m x y v w);
      replaced = λ q g h same M N m e x y v w.
          one_reply q [] [] (heard g N) m x y (same_replaced g M N q m e x (replies q g M m x v)) (replies_on q g h same M N m x y v w);
      missing_stays = missing;
      recall_stays = recall_missing;
      answer_stays = λ q g M N c j m p r x w. answer_missing g M N c j p q m r x w;
    }
