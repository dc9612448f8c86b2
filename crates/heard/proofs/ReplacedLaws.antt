-- Demand 3, replaced values: where messages are exchanged for others of the same channel and minute, and entries for others of the same
-- minute, a channel's history keeps its minutes, and its values wherever they are read. So the answer stays. One by one. Assumes nothing.
use mathlib.Core.Path.{◌≡◌, refl, sym, ap, ◌∙◌, subst}
use mathlib.Core.Bool.{Bool, true, false, not, ◌&&◌, cond}
use mathlib.Core.List.{List, [], ◌∷◌, ◌++◌}
use mathlib.Core.Logic.{◌⊎◌, inl, inr}
use Prim.Native.Nat.{ℕ, ◌+◌}
use lib.Dec.{eqb, leb}
use borrow.Author.Tests.{eqb-true}
use Rattle.number.specs.Refusal.{Numbered, Test, test, Answer, refused, given, answer}
use Rattle.number.proofs.Sizes.{and_true, never}
use Rattle.quantity.specs.Limits.{minutes_between}
use Rattle.quantity.specs.declared.BarometerUnit.{BarometerUnit}
use Rattle.message.specs.Receive.{Entry, received}
use Rattle.settings.specs.declared.Settings.{Settings}
use Rattle.window.specs.Layout.{MINUTES}
use Rattle.window.proofs.AbsentLaws.{absents_alike}
use Rattle.cell.specs.Cells.{Recall, absent, recalled, is_present}
use Rattle.anemometer.specs.Anemometer.{certificate_in}
use Rattle.anemometer.specs.declared.Note.{Note}
use Rattle.store.specs.Block.{newest_tests, wind_channel, course_channel}
use Rattle.store.specs.Noting.{wind_entry}
use Rattle.store.specs.History.{Sent, bytes, note, next_of, lookup, remembered, entry_tests, entered, added, grown, history}
use Rattle.station.specs.Source.{heard}
use Rattle.station.specs.Questions.{Asked, Reply, reads, Tells}
use Rattle.station.specs.Questions as asked
use Rattle.heard.specs.Feeds.{is_message, Exchanged, Renoted, Replaced}
use Rattle.station.proofs.SourceLaws.{agree_tells}
use Rattle.heard.proofs.FedLaws.{itself}

-- a message is no entry
other_kind : (m : List ℕ) (n : Note) → bytes m ≡ note n → ⊥
other_kind m n e = never (sym (ap is_message e))

-- ---- one channel's history

module _ (reads : ℕ → ℕ → Bool) where
  -- the same minutes, and the same values where they are read
  record Kin (c : ℕ) (H K : List Entry) : Type 0 where
    newest : next_of H ≡ next_of K
    minutes : (j : ℕ) → is_present (lookup H j) ≡ is_present (lookup K j)
    values : (j : ℕ) → reads c j ≡ true → lookup H j ≡ lookup K j

  -- what is remembered
  module _ (c : ℕ) (H K : List Entry) (k : Kin c H K) where
    present_kin : (j : ℕ) → is_present (remembered H j) ≡ is_present (remembered K j)
    unfolding remembered
    present_kin j = rw k.newest (go (lookup H j) (lookup K j) (leb (next_of K) (j + MINUTES)) (k.minutes j))
      where
        go : (x y : Recall) (b : Bool) → is_present x ≡ is_present y → is_present (cond b x absent) ≡ is_present (cond b y absent)
        go x y true p = p
        go x y false p = refl

    value_kin : (j : ℕ) → reads c j ≡ true → remembered H j ≡ remembered K j
    unfolding remembered
    value_kin j r = rw (k.newest, k.values j r)

  module _ (c : ℕ) where
    -- one entry more on both sides, of the same channel and minute, the same or not read
    kin_more : (H K : List Entry) (e f : Entry) → e.minute ≡ f.minute → ((j : ℕ) → reads c j ≡ true → e.minute ≡ j → recalled e ≡ recalled f)
        → Kin c H K → Kin c (e ∷ H) (f ∷ K)
    kin_more H K e f t same k =
        record {
          newest = ap (λ (n : ℕ). n + 1) t;
          minutes = λ j. present (lookup H j) (lookup K j) (eqb e.minute j) (eqb f.minute j) (ap (λ (n : ℕ). eqb n j) t) (k.minutes j);
          values = λ j r. value (eqb e.minute j) (eqb f.minute j) (ap (λ (n : ℕ). eqb n j) t) (λ h. same j r (eqb-true e.minute j h)) (k.values j r);
        }
      where
        present : (x y : Recall) (a b : Bool) → a ≡ b → is_present x ≡ is_present y → is_present (cond a (recalled e) x) ≡ is_present (cond b (recalled f) y)
        present x y true true h p = refl
        present x y true false h p = never (sym h)
        present x y false true h p = never h
        present x y false false h p = p

        value : {x y : Recall} (a b : Bool) → a ≡ b → (a ≡ true → recalled e ≡ recalled f) → x ≡ y → cond a (recalled e) x ≡ cond b (recalled f) y
        value true true h s p = s refl
        value true false h s p = never (sym h)
        value false true h s p = never h
        value false false h s p = p

    itself_kin : (H : List Entry) → Kin c H H
    itself_kin H = record { newest = refl; minutes = λ j. refl; values = λ j r. refl }

    kin_added : (H K : List Entry) (e f : Entry) → e.channel ≡ f.channel → e.minute ≡ f.minute
        → (e.channel ≡ c → (j : ℕ) → reads c j ≡ true → e.minute ≡ j → recalled e ≡ recalled f)
        → Kin c H K → Kin c (added c H e) (added c K f)
    kin_added H K e f s t same k = go (eqb e.channel c && leb (next_of H) e.minute) (eqb f.channel c && leb (next_of K) f.minute) refl rest
      where
        rest : (eqb e.channel c && leb (next_of H) e.minute) ≡ (eqb f.channel c && leb (next_of K) f.minute)
        rest = rw (s, t, k.newest)

        go : (a b : Bool) → (eqb e.channel c && leb (next_of H) e.minute) ≡ a → a ≡ b → Kin c (cond a (e ∷ H) H) (cond b (f ∷ K) K)
        go true true h p =
            kin_more H K e f t (same (eqb-true e.channel c (and_true (eqb e.channel c) (leb (next_of H) e.minute) h).0)) k
        go true false h p = never (sym p)
        go false true h p = never p
        go false false h p = k

    kin_same : (H K : List Entry) (a : Answer ℕ Entry) → Kin c H K → Kin c (grown c H a) (grown c K a)
    kin_same H K (refused n) k = k
    kin_same H K (given e) k = kin_added H K e e refl refl (λ s j r t. refl) k

    -- ---- a message

    kin_message : (u : BarometerUnit) (H K : List Entry) (a b : List ℕ) → Exchanged u reads a b → Kin c H K → Kin c (grown c H (received u a)) (grown c K (received u b))
    kin_message u H K a b x k =
        rw (x.was_received, x.is_received)
        (kin_added H K x.was x.is x.channel x.minute
        (λ s j r t. never (sym x.unread ∙ ap (λ (d : ℕ). reads d x.was.minute) s ∙ ap (reads c) t ∙ r)) k)

    -- ---- an entry

    -- the same tests: both are refused, or both are taken
    kin_answers : (ts : List (Test Numbered)) (H K : List Entry) (e f : Entry) → e.channel ≡ f.channel → e.minute ≡ f.minute
        → (e.channel ≡ c → (j : ℕ) → reads c j ≡ true → e.minute ≡ j → recalled e ≡ recalled f)
        → Kin c H K → Kin c (grown c H (answer ts e)) (grown c K (answer ts f))
    unfolding answer
    kin_answers [] H K e f s t same k = kin_added H K e f s t same k
    kin_answers (x ∷ ts) H K e f s t same k = go x.holds (kin_answers ts H K e f s t same k)
      where
        go : (b : Bool) → Kin c (grown c H (answer ts e)) (grown c K (answer ts f))
            → Kin c (grown c H (cond b (refused x.refusal) (answer ts e))) (grown c K (cond b (refused x.refusal) (answer ts f)))
        go true rest = k
        go false rest = rest

    module _ (g : Settings) (closed : (j : ℕ) → reads wind_channel j ≡ true → reads course_channel j ≡ true)
        (H K W X C D : List Entry) (k : Kin c H K) (wind : Kin wind_channel W X) (course : Kin course_channel C D) where
      -- one and the same: its direction may differ where the course was exchanged, and there it is not read
      kin_noted : (n : Note) → Kin c (grown c H (entered g W C n)) (grown c K (entered g X D n))
      unfolding entered
      kin_noted n =
          let at = remembered C n.minute in
          rw (wind.newest, present_kin course_channel C D course n.minute)
          (kin_answers (entry_tests g X D n) H K (wind_entry (certificate_in g) at n) (wind_entry (certificate_in g) (remembered D n.minute) n) refl refl
          (λ s j r t. ap (λ (x : Recall). recalled (wind_entry (certificate_in g) x n))
          (value_kin course_channel C D course n.minute
          (closed n.minute (ap (λ (d : ℕ). reads d n.minute) s ∙ ap (reads c) t ∙ r)))) k)

      -- another one
      kin_renoted : (a b : Note) → Renoted g reads a b → Kin c (grown c H (entered g W C a)) (grown c K (entered g X D b))
      unfolding entered
      kin_renoted a b x =
          rw (
            x.was.minute,
            x.was.direction,
            x.was.dial,
            x.was.rate,
            x.is.minute,
            x.is.direction,
            x.is.dial,
            x.is.rate,
            wind.newest,
            present_kin course_channel C D course a.minute,
          )
          (moved b.minute x.minute)
        where
          tests : ℕ → List (Test Numbered)
          tests m =
              test 5 [] false ∷ test 7 [] false
              ∷ (newest_tests (next_of X) m ++ (test 23 [] false ∷ test 11 (course_channel ∷ m ∷ []) (not (is_present (remembered D m))) ∷ test 24 [] false ∷ []))

          was : Entry
          was = wind_entry (certificate_in g) (remembered C a.minute) a

          is : Entry
          is = wind_entry (certificate_in g) (remembered D b.minute) b

          moved : (m : ℕ) → a.minute ≡ m → Kin c (grown c H (answer (tests a.minute) was)) (grown c K (answer (tests m) is))
          moved m e =
              subst (λ (y : ℕ). Kin c (grown c H (answer (tests a.minute) was)) (grown c K (answer (tests y) is))) e
              (kin_answers (tests a.minute) H K was is refl x.minute
              (λ s j r t. never (sym x.unread ∙ ap (λ (d : ℕ). reads d a.minute) s ∙ ap (reads c) t ∙ r)) k)

  -- ---- lists

  module _ (g : Settings) (closed : (j : ℕ) → reads wind_channel j ≡ true → reads course_channel j ≡ true) where
    kin : (c : ℕ) (M N : List Sent) → Replaced g reads M N → Kin c (history g c M) (history g c N)
    unfolding history
    kin c [] [] w = itself_kin c []
    kin c [] (b ∷ N) w = absurd w
    kin c (a ∷ M) [] w = absurd w
    kin c (bytes a ∷ M) (bytes b ∷ N) (inl e, w) =
        subst (λ (x : Sent). Kin c (history g c (bytes a ∷ M)) (history g c (x ∷ N))) e (kin_same c (history g c M) (history g c N) (received g.unit a) (kin c M N w))
    kin c (bytes a ∷ M) (bytes b ∷ N) (inr x, w) = kin_message c g.unit (history g c M) (history g c N) a b x (kin c M N w)
    kin c (note a ∷ M) (note b ∷ N) (inl e, w) =
        subst (λ (x : Sent). Kin c (history g c (note a ∷ M)) (history g c (x ∷ N))) e
        (kin_noted c g closed (history g c M) (history g c N) (history g wind_channel M) (history g wind_channel N) (history g course_channel M) (history g course_channel N)
        (kin c M N w) (kin wind_channel M N w) (kin course_channel M N w) a)
    kin c (note a ∷ M) (note b ∷ N) (inr x, w) =
        kin_renoted c g closed (history g c M) (history g c N) (history g wind_channel M) (history g wind_channel N) (history g course_channel M) (history g course_channel N)
        (kin c M N w) (kin wind_channel M N w) (kin course_channel M N w) a b x
    kin c (bytes a ∷ M) (note b ∷ N) (inl e, w) = absurd (other_kind a b e)
    kin c (bytes a ∷ M) (note b ∷ N) (inr x, w) = absurd x
    kin c (note a ∷ M) (bytes b ∷ N) (inl e, w) = absurd (other_kind b a (sym e))
    kin c (note a ∷ M) (bytes b ∷ N) (inr x, w) = absurd x

    pub present_stays : (c : ℕ) (M N : List Sent) → Replaced g reads M N → (j : ℕ)
        → is_present (remembered (history g c M) j) ≡ is_present (remembered (history g c N) j)
    present_stays c M N w j = present_kin c (history g c M) (history g c N) (kin c M N w) j

    pub value_stays : (c : ℕ) (M N : List Sent) → Replaced g reads M N → (j : ℕ) → reads c j ≡ true
        → remembered (history g c M) j ≡ remembered (history g c N) j
    value_stays c M N w j r = value_kin c (history g c M) (history g c N) (kin c M N w) j r

-- ---- the answers

-- where a question reads the wind of a minute it reads its course
pub course_too : (q : Asked) (m j : ℕ) → reads q m wind_channel j ≡ true → reads q m course_channel j ≡ true
course_too asked.pressure m j e = never e
course_too asked.tendency m j e = never e
course_too asked.wind m j e = e
course_too asked.humidity m j e = never e

-- Other values at minutes that a question does not read leave its answer; whether a minute is there does not change.
pub same_replaced : (g : Settings) (M N : List Sent) (q : Asked) (m : ℕ) → Replaced g (reads q m) M N
    → (r : Reply q) → Tells q (heard g M) m r → Tells q (heard g N) m r
same_replaced g M N q m w =
    agree_tells q (heard g M) (heard g N) m
    (record {
      barometer = itself _;
      psychrometer = refl;
      kept = λ c j r. value_stays (reads q m) g (course_too q m) c M N w j r;
      missing = λ i. absents_alike _ _ m minutes_between (λ j a b. present_stays (reads q m) g (course_too q m) 0 M N w j);
    })
