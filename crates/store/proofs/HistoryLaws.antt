-- The block holds what was heard means: an opened block remembers nothing, and with each message or entry it remembers what the
-- longer list means. Channel by channel: what a window means (Means) goes on by the laws of an accepted value, and the
-- other windows stay. Assumes nothing.
use mathlib.Core.Path.{◌≡◌, refl, sym, ap, ◌∙◌, subst}
use mathlib.Core.Bool.{Bool, true, false, ◌&&◌, cond}
use mathlib.Core.List.{List, [], ◌∷◌}
use Prim.Native.Nat.{ℕ, suc, ◌+◌, ◌≤◌, ◌<◌}
use native.Mathlib.Omega.{arith}
use native.Mathlib.Decide.{ℕ_discrete, dec_lt}
use lib.Dec.{eqb, leb, lit<}
use lib.ListN.{get_or, take, length}
use lib.Seq.{get_or-take}
use borrow.Author.Tests.{leb-true, leb-false, eqb-true, lt-ltb, le-leb, lt-leb, eq-eqb, ne_eqb}
use Rattle.number.specs.Refusal.{Numbered, numbered, Answer, refused, given, answer}
use Rattle.quantity.specs.declared.BarometerUnit.{BarometerUnit}
use Rattle.message.specs.Receive.{Entry, received}
use Rattle.settings.specs.Settings.{checked}
use Rattle.settings.specs.declared.Settings.{Settings}
use Rattle.window.specs.Layout.{MINUTES, WINDOW}
use Rattle.window.specs.Window.{next, present, accepted}
use Rattle.window.specs.Window as window
use Rattle.std.specs.Prelude.{Option, Some, None}
use Rattle.window.proofs.PresentLaws.{present_late}
use Rattle.window.proofs.KeptLaws.{absent_kept, length_after, next_after, present_after, kept_after}
use Rattle.cell.specs.Cells.{CHANNELS, is_present}
use Rattle.block.specs.Layout.{SETTINGS, WORDS}
use Rattle.cell.specs.Cells.{cell_of, entry_in}
use Rattle.block.specs.Words.{opened, is_store, unit_of, window_of}
use Rattle.anemometer.specs.declared.Note.{Note}
use Rattle.store.specs.Block.{wind_channel, course_channel, entry_of_bytes, newest_tests, hear_tests, hearing, kept, heard_by, recall_in, recall_of}
use Rattle.cell.specs.Cells.{Recall, absent, recalled}
use Rattle.store.specs.Noting.{noted_by}
use Rattle.store.specs.History.{Sent, bytes, note, next_of, lookup, remembered, entered, added, grown, history, Remembers, store_of}
use Rattle.cell.proofs.CellLaws.{Back, received_back}
use Rattle.block.proofs.BlockLaws.{window_long, replaced_long, here, beside, settings_stay}
use Rattle.block.proofs.OpenedLaws.{opened_long, opened_is_store, opened_unit, opened_next}
use Rattle.store.proofs.NewestLaws.{later, not_later}
use Rattle.store.proofs.NotingLaws.{noted_refused, noted_given}
use Rattle.store.proofs.EntryLaws.{by_history, taken}
use Rattle.store.proofs.HearingLaws.{store_hears, hearing_refused, hearing_given, heard_refused, heard_given}

-- ---- histories

pub remembered_in : (H : List Entry) (j : ℕ) → next_of H ≤ j + MINUTES → remembered H j ≡ lookup H j
unfolding remembered
remembered_in H j l = rw (le-leb (next_of H) (j + MINUTES) l)

pub remembered_gone : (H : List Entry) (j : ℕ) → j + MINUTES < next_of H → remembered H j ≡ absent
unfolding remembered
remembered_gone H j l = rw (lt-leb (next_of H) (j + MINUTES) l)

-- one entry more, later than the others
pub remembered_step : (e : Entry) (H : List Entry) (j : ℕ) → next_of H ≤ e.minute
    → remembered (e ∷ H) j
    ≡ cond (eqb j e.minute) (recalled e) (cond (leb (suc e.minute) (j + MINUTES)) (remembered H j) absent)
remembered_step e H j n = go (ℕ_discrete j e.minute) (dec_lt e.minute (j + MINUTES))
  where
    other : (j ≡ e.minute → ⊥) → lookup (e ∷ H) j ≡ lookup H j
    other p = rw (ne_eqb e.minute j (λ q. p (sym q)))

    own : j ≡ e.minute → lookup (e ∷ H) j ≡ recalled e
    own p = rw (eq-eqb e.minute j (sym p))

    go : Dec (j ≡ e.minute) → Dec (e.minute < j + MINUTES)
        → remembered (e ∷ H) j
        ≡ cond (eqb j e.minute) (recalled e) (cond (leb (suc e.minute) (j + MINUTES)) (remembered H j) absent)
    go (yes p) l = rw (eq-eqb j e.minute p) (remembered_in (e ∷ H) j (omega arith) ∙ own p)
    go (no p) (yes l) =
        rw (ne_eqb j e.minute p, le-leb (suc e.minute) (j + MINUTES) (omega arith))
        (remembered_in (e ∷ H) j (omega arith) ∙ other p ∙ sym (remembered_in H j (omega arith)))
    go (no p) (no l) =
        rw (ne_eqb j e.minute p, lt-leb (suc e.minute) (j + MINUTES) (omega arith)) (remembered_gone (e ∷ H) j (omega arith))

-- what a channel's history grows by
pub grown_other : (c : ℕ) (H : List Entry) (e : Entry) → (e.channel ≡ c → ⊥) → added c H e ≡ H
grown_other c H e ne = rw (ne_eqb e.channel c ne)

grown_early : (c : ℕ) (H : List Entry) (e : Entry) → (e.channel ≡ c → e.minute < next_of H) → added c H e ≡ H
grown_early c H e early = go (ℕ_discrete e.channel c)
  where
    go : Dec (e.channel ≡ c) → added c H e ≡ H
    go (yes p) = rw (eq-eqb e.channel c p, lt-leb (next_of H) e.minute (early p))
    go (no p) = grown_other c H e p

grown_own : (H : List Entry) (e : Entry) → next_of H ≤ e.minute → added e.channel H e ≡ e ∷ H
grown_own H e l = rw (eq-eqb e.channel e.channel refl, le-leb (next_of H) e.minute l)

pub message_step : (g : Settings) (c : ℕ) (M : List Sent) (m : List ℕ) {a : Answer ℕ Entry} → received g.unit m ≡ a
    → history g c (bytes m ∷ M) ≡ grown c (history g c M) a
unfolding history
message_step g c M m r = ap (grown c (history g c M)) r

pub entry_step : (g : Settings) (c : ℕ) (M : List Sent) (n : Note) {a : Answer Numbered Entry}
    → entered g (history g wind_channel M) (history g course_channel M) n ≡ a → history g c (note n ∷ M) ≡ grown c (history g c M) a
unfolding history
entry_step g c M n r = ap (grown c (history g c M)) r

-- ---- one channel

record Means (u : BarometerUnit) (c : ℕ) (w : List ℕ) (H : List Entry) : Type 0 where
  newest : next w ≡ next_of H
  bits : (j : ℕ) → present w j ≡ is_present (remembered H j)
  cells : (j : ℕ) → recall_in u c j (window.kept w j) ≡ remembered H j

present_cond : (a b p : Bool) (e : Entry) (r : Recall) → p ≡ is_present r
    → cond a true (b && p) ≡ is_present (cond a (recalled e) (cond b r absent))
present_cond true b p e r q = refl
present_cond false true p e r q = q
present_cond false false p e r q = refl

recall_cond : (u : BarometerUnit) (c j v : ℕ) (k : Option ℕ) (e : Entry) (r : Recall) (a b : Bool)
    → (a ≡ true → recall_in u c j (Some v) ≡ recalled e) → recall_in u c j k ≡ r
    → recall_in u c j (cond a (Some v) (cond b k None)) ≡ cond a (recalled e) (cond b r absent)
recall_cond u c j v k e r true b own q = own refl
recall_cond u c j v k e r false true own q = q
recall_cond u c j v k e r false false own q = refl

means_nothing : (u : BarometerUnit) (c : ℕ) (w : List ℕ) → next w ≡ 0 → Means u c w []
means_nothing u c w z = record {
  newest = z;
  bits = λ j. gone j ∙ ap is_present (sym (remembered_in [] j (omega arith)));
  cells = λ j. ap (recall_in u c j) (absent_kept w j (gone j)) ∙ sym (remembered_in [] j (omega arith));
}
  where
    gone : (j : ℕ) → present w j ≡ false
    gone j = present_late w j (omega arith)

-- an entry later than all of them is kept
means_more : (u : BarometerUnit) (e : Entry) (w : List ℕ) (H : List Entry) → length w ≡ WINDOW → Back u e → next_of H ≤ e.minute
    → Means u e.channel w H → Means u e.channel (accepted w e.minute (cell_of e)) (e ∷ H)
means_more u e w H long back l k = record {
  newest = next_after w e.minute (cell_of e) long;
  bits = λ j.
      present_after w e.minute (cell_of e) long (omega (arith, k.newest)) j
      ∙ present_cond (eqb j e.minute) (leb (suc e.minute) (j + MINUTES)) (present w j) e (remembered H j) (k.bits j)
      ∙ ap is_present (sym (remembered_step e H j l));
  cells = λ j.
      ap (recall_in u e.channel j) (kept_after w e.minute (cell_of e) long (omega (arith, k.newest)) j)
      ∙ recall_cond u e.channel j (cell_of e) (window.kept w j) e (remembered H j)
      (eqb j e.minute) (leb (suc e.minute) (j + MINUTES)) (own j) (k.cells j)
      ∙ sym (remembered_step e H j l);
}
  where
    own : (j : ℕ) → eqb j e.minute ≡ true → recall_in u e.channel j (Some (cell_of e)) ≡ recalled e
    own j q =
        ap (λ (i : ℕ). recall_in u e.channel i (Some (cell_of e))) (eqb-true j e.minute q)
        ∙ ap (λ (x : Bool). cond x (recalled (entry_in u e.channel e.minute (cell_of e))) absent) back.sound
        ∙ ap recalled back.same

-- ---- the block

recall_is : (s : List ℕ) (u : BarometerUnit) (c j : ℕ) → unit_of s ≡ u → c < CHANNELS
    → recall_of s c j ≡ recall_in u c j (window.kept (window_of c s) j)
unfolding recall_of
recall_is s u c j e l = rw (lt-ltb c CHANNELS l) (ap (λ (v : BarometerUnit). recall_in v c j (window.kept (window_of c s) j)) e)

module _ (g : Settings) where
  means : (s : List ℕ) (M : List Sent) (c : ℕ) → c < CHANNELS → Remembers s g M → Means g.unit c (window_of c s) (history g c M)
  means s M c l r = record {
    newest = r.newest c l;
    bits = r.bits c l;
    cells = λ j. sym (recall_is s g.unit c j r.unit l) ∙ r.cells c l j;
  }

  first_stays : (s : List ℕ) → take SETTINGS s ≡ take SETTINGS (opened g) → get_or s 0 0 ≡ get_or (opened g) 0 0
  first_stays s e = sym (get_or-take SETTINGS s 0 0 (lit< tt)) ∙ ap (λ (l : List ℕ). get_or l 0 0) e ∙ get_or-take SETTINGS (opened g) 0 0 (lit< tt)

  remembers : (s : List ℕ) (M : List Sent) → length s ≡ WORDS → take SETTINGS s ≡ take SETTINGS (opened g)
      → ((c : ℕ) → c < CHANNELS → Means g.unit c (window_of c s) (history g c M)) → Remembers s g M
  remembers s M long same k =
      let first = first_stays s same in
      let unit : unit_of s ≡ g.unit = ap (λ (n : ℕ). unit_of (n ∷ [])) first ∙ opened_unit g in
      record {
        long = long;
        is_a_store = ap (λ (n : ℕ). is_store (n ∷ [])) first ∙ opened_is_store g;
        unit = unit;
        settings = same;
        newest = λ c l. (k c l).newest;
        bits = λ c l. (k c l).bits;
        cells = λ c l j. recall_is s g.unit c j unit l ∙ (k c l).cells j;
      }

  pub opened_remembers : Remembers (opened g) g []
  unfolding history
  opened_remembers =
      remembers (opened g) [] (opened_long g) refl (λ c l. means_nothing g.unit c (window_of c (opened g)) (opened_next g c l))

  -- ---- a message or an entry

  module _ (s : List ℕ) (M : List Sent) (x : Sent) (r : Remembers s g M) where
    -- nothing is kept of it
    unchanged : (s' : List ℕ) → ((c : ℕ) → history g c (x ∷ M) ≡ history g c M) → s' ≡ s → Remembers s' g (x ∷ M)
    unchanged s' same stays =
        subst (λ (y : List ℕ). Remembers y g (x ∷ M)) (sym stays)
        (remembers s (x ∷ M) r.long r.settings (λ c l. subst (Means g.unit c (window_of c s)) (sym (same c)) (means s M c l r)))

    -- it is kept as e
    module _ (e : Entry) (back : Back g.unit e) (lc : e.channel < CHANNELS)
        (step : (c : ℕ) → history g c (x ∷ M) ≡ added c (history g c M) e) (l : next_of (history g e.channel M) ≤ e.minute) where
      before : length (window_of e.channel s) ≡ WINDOW
      before = window_long s e.channel r.long lc

      w : List ℕ
      w = accepted (window_of e.channel s) e.minute (cell_of e)

      long : length w ≡ WINDOW
      unfolding w
      long = length_after (window_of e.channel s) e.minute (cell_of e) before ∙ before

      own : Means g.unit e.channel (window_of e.channel (kept s e)) (history g e.channel (x ∷ M))
      unfolding w
      own =
          rw (
            here s e.channel w r.long lc long,
            step e.channel,
            grown_own (history g e.channel M) e l,
          )
          (means_more g.unit e (window_of e.channel s) (history g e.channel M) before back l (means s M e.channel lc r))

      each : (c : ℕ) → c < CHANNELS → Dec (c ≡ e.channel) → Means g.unit c (window_of c (kept s e)) (history g c (x ∷ M))
      unfolding w
      each c k (yes p) = subst (λ (d : ℕ). Means g.unit d (window_of d (kept s e)) (history g d (x ∷ M))) (sym p) own
      each c k (no p) =
          rw (
            beside s e.channel w r.long lc long c p,
            step c,
            grown_other c (history g c M) e (λ q. p (sym q)),
          )
          (means s M c k r)

      changed : Remembers (kept s e) g (x ∷ M)
      unfolding w
      changed =
          remembers (kept s e) (x ∷ M) (replaced_long s e.channel w r.long lc long)
          (settings_stay s e.channel w r.long lc long ∙ r.settings)
          (λ c k. each c k (ℕ_discrete c e.channel))

  -- ---- a message

  -- What a message comes to that none of 1 to 7 refuses: beside the newest of what was heard.
  pub by_newest : (s : List ℕ) (M : List Sent) (m : List ℕ) → Remembers s g M → (e : Entry) → received g.unit m ≡ given e
      → hearing s m ≡ answer (newest_tests (next_of (history g e.channel M)) e.minute) e
  by_newest s M m r e q =
      hearing_given s m r.is_a_store e (subst (λ (v : BarometerUnit). received v m ≡ given e) (sym r.unit) q)
      ∙ ap (λ (n : ℕ). answer (newest_tests n e.minute) e) (r.newest e.channel (received_back g.unit m e q).1)

  pub heard_remembers : (s : List ℕ) (M : List Sent) (m : List ℕ) → Remembers s g M → Remembers (heard_by s m) g (bytes m ∷ M)
  heard_remembers s M m r = go (received g.unit m) refl
    where
      by_time : (e : Entry) → received g.unit m ≡ given e → (b : Bool) → leb (next_of (history g e.channel M)) e.minute ≡ b
          → Remembers (heard_by s m) g (bytes m ∷ M)
      by_time e q true t =
          let l = leb-true (next_of (history g e.channel M)) e.minute t in
          let back = received_back g.unit m e q in
          subst (λ (x : List ℕ). Remembers x g (bytes m ∷ M))
          (sym (heard_given s m e (by_newest s M m r e q ∙ later (next_of (history g e.channel M)) e.minute e l)))
          (changed s M (bytes m) r e back.0 back.1 (λ c. message_step g c M m q) l)
      by_time e q false t =
          let l = leb-false (next_of (history g e.channel M)) e.minute t in
          let no = not_later (next_of (history g e.channel M)) e.minute e l in
          unchanged s M (bytes m) r (heard_by s m) (λ c. message_step g c M m q ∙ grown_early c (history g c M) e (early c l))
          (heard_refused s m no.0 (by_newest s M m r e q ∙ no.1))
        where
          early : (c : ℕ) → e.minute < next_of (history g e.channel M) → e.channel ≡ c → e.minute < next_of (history g c M)
          early c l p = subst (λ (d : ℕ). e.minute < next_of (history g d M)) p l

      go : (a : Answer ℕ Entry) → received g.unit m ≡ a → Remembers (heard_by s m) g (bytes m ∷ M)
      go (refused n) q =
          let seen : received (unit_of s) m ≡ refused n = subst (λ (v : BarometerUnit). received v m ≡ refused n) (sym r.unit) q in
          unchanged s M (bytes m) r (heard_by s m) (λ c. message_step g c M m q) (heard_refused s m (numbered n []) (hearing_refused s m r.is_a_store n seen))
      go (given e) q = by_time e q (leb (next_of (history g e.channel M)) e.minute) refl

  -- ---- an entry, with settings that a store opens with

  module _ (good : checked g ≡ given tt) where
    pub noted_remembers : (s : List ℕ) (M : List Sent) (n : Note) → Remembers s g M → Remembers (noted_by s n) g (note n ∷ M)
    noted_remembers s M n r = go (entered g (history g wind_channel M) (history g course_channel M) n) refl
      where
        go : (a : Answer Numbered Entry) → entered g (history g wind_channel M) (history g course_channel M) n ≡ a → Remembers (noted_by s n) g (note n ∷ M)
        go (refused x) q =
            unchanged s M (note n) r (noted_by s n) (λ c. entry_step g c M n q) (noted_refused s n x (by_history g good s M n r ∙ q))
        go (given e) q =
            let w = taken g good (history g wind_channel M) (history g course_channel M) n e q in
            subst (λ (x : List ℕ). Remembers x g (note n ∷ M)) (sym (noted_given s n e (by_history g good s M n r ∙ q)))
            (changed s M (note n) r e w.back (subst (λ (c : ℕ). c < CHANNELS) (sym w.channel) (lit< tt)) (λ c. entry_step g c M n q)
            (subst (λ (c : ℕ). next_of (history g c M) ≤ e.minute) (sym w.channel) w.later))

    -- ---- the store

    pub store_remembers : (M : List Sent) → Remembers (store_of g M) g M
    store_remembers [] = opened_remembers
    store_remembers (bytes m ∷ M) = heard_remembers (store_of g M) M m (store_remembers M)
    store_remembers (note n ∷ M) = noted_remembers (store_of g M) M n (store_remembers M)

    -- A block that was opened is a store, and stays one whatever is sent.
    pub store_is_open : (M : List Sent) → is_store (store_of g M) ≡ true
    store_is_open M = (store_remembers M).is_a_store

    -- So it puts every message to the tests of the documents.
    pub open_hears : (M : List Sent) (m : List ℕ) → hearing (store_of g M) m ≡ answer (hear_tests (store_of g M) m) (entry_of_bytes (store_of g M) m)
    open_hears M m = store_hears (store_of g M) m (store_is_open M)
