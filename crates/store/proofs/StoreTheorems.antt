-- What document 01 says of the store, in its words: of refused openings and messages, of the channels beside each other, of absent minutes and
-- of the minutes that are kept. Each from the laws of hearing and of histories. Assumes nothing.
use mathlib.Core.Path.{◌≡◌, refl, sym, ap, subst, ◌∙◌}
use mathlib.Core.Bool.{Bool, true, false, ◌&&◌, cond}
use mathlib.Core.List.{List, [], ◌∷◌, ◌++◌}
use Prim.Native.Nat.{ℕ, suc, ◌+◌, ◌≤◌, ◌<◌}
use native.Mathlib.Omega.{arith}
use lib.Dec.{eqb, leb, lit<}
use lib.ListN.{take, length}
use borrow.Author.Tests.{leb-true, le-leb, lt-ltb, eq-eqb, ne_eqb}
use Rattle.number.specs.Refusal.{Numbered, numbered, Answer, refused, given}
use Rattle.number.proofs.Sizes.{never, either_way, and_true}
use Rattle.quantity.specs.Limits.{minutes_between}
use Rattle.wire.specs.Bytes.{channel}
use Rattle.message.specs.Receive.{Entry, received}
use Rattle.settings.specs.Settings.{checked}
use Rattle.settings.specs.declared.Settings.{Settings}
use Rattle.window.specs.Layout.{MINUTES, WINDOW}
use Rattle.window.specs.Window.{present, accepted, absents}
use Rattle.window.proofs.KeptLaws.{length_after}
use Rattle.window.proofs.AbsentLaws.{absents_alike}
use Rattle.cell.specs.Cells.{CHANNELS, cell_of, absent, recalled, is_present}
use Rattle.block.specs.Layout.{SETTINGS, WORDS, NO_STORE}
use Rattle.block.specs.Words.{is_store, unit_of, window_of}
use Rattle.anemometer.specs.declared.Note.{Note}
use Rattle.store.specs.Block.{opened_by, hearing, kept, heard_by, absent_of, wind_channel, course_channel}
use Rattle.store.specs.Noting.{noting, noted_by}
use Rattle.store.specs.History.{Sent, bytes, note, next_of, lookup, remembered, entered, added, grown, history, belongs, Remembers}
use Rattle.cell.proofs.ReceivedLaws.{received_long, received_channel}
use Rattle.cell.proofs.CellLaws.{received_back}
use Rattle.block.proofs.BlockLaws.{window_long, beside, settings_stay}
use Rattle.store.proofs.OpenLaws.{opens_not}
use Rattle.store.proofs.HearingLaws.{hears_nothing, hearing_was, heard_refused, heard_given}
use Rattle.store.proofs.NotingLaws.{noted_refused, noted_given, noting_channel}
use Rattle.store.proofs.EntryLaws.{entered_channel, entered_later}
use Rattle.store.proofs.HistoryLaws.{remembered_in, remembered_gone, remembered_step, grown_other, message_step, entry_step}

-- "a refused opening gives no store": a block that was none still hears nothing.
pub refused_opening_gives_no_store : (s m : List ℕ) (g : Settings) (n : ℕ) → checked g ≡ refused n → is_store s ≡ false
    → hearing (opened_by s g) m ≡ refused (numbered NO_STORE [])
refused_opening_gives_no_store s m g n e is = hears_nothing (opened_by s g) m (ap is_store (sym (opens_not s g n e)) ∙ is)

-- "A refused message changes nothing"
pub refused_changes_nothing : (s m : List ℕ) (n : Numbered) → hearing s m ≡ refused n → heard_by s m ≡ s
refused_changes_nothing s m n h = heard_refused s m n h

-- ---- what a message or an entry that was kept leaves as it was

module _ (s : List ℕ) (long : length s ≡ WORDS) where
  module _ (e : Entry) (low : e.channel < CHANNELS) where
    before : length (window_of e.channel s) ≡ WINDOW
    before = window_long s e.channel long low

    abbrev after : List ℕ
    after = accepted (window_of e.channel s) e.minute (cell_of e)

    after_long : length after ≡ WINDOW
    after_long = length_after (window_of e.channel s) e.minute (cell_of e) before ∙ before

    others : (d : ℕ) → (d ≡ e.channel → ⊥) → window_of d (kept s e) ≡ window_of d s
    others d ne = beside s e.channel after long low after_long d ne

    settings : take SETTINGS (kept s e) ≡ take SETTINGS s
    settings = settings_stay s e.channel after long low after_long

  module _ (m : List ℕ) where
    pub other_channels_stay : (e : Entry) → hearing s m ≡ given e → (d : ℕ) → (d ≡ e.channel → ⊥) → window_of d (heard_by s m) ≡ window_of d s
    other_channels_stay e h d ne = ap (window_of d) (heard_given s m e h) ∙ others e (received_back (unit_of s) m e (hearing_was s m e h)).1 d ne

    pub settings_stay_heard : take SETTINGS (heard_by s m) ≡ take SETTINGS s
    settings_stay_heard = go (hearing s m) refl
      where
        go : (a : Answer Numbered Entry) → hearing s m ≡ a → take SETTINGS (heard_by s m) ≡ take SETTINGS s
        go (refused n) h = ap (take SETTINGS) (heard_refused s m n h)
        go (given e) h = ap (take SETTINGS) (heard_given s m e h) ∙ settings e (received_back (unit_of s) m e (hearing_was s m e h)).1

  -- "An accepted entry moves channel 2's window as a message does", and no other.
  module _ (n : Note) where
    pub other_channels_stay_noted : (d : ℕ) → (d ≡ wind_channel → ⊥) → window_of d (noted_by s n) ≡ window_of d s
    other_channels_stay_noted d ne = go (noting s n) refl
      where
        go : (a : Answer Numbered Entry) → noting s n ≡ a → window_of d (noted_by s n) ≡ window_of d s
        go (refused x) h = ap (window_of d) (noted_refused s n x h)
        go (given e) h =
            let wind = noting_channel s n e h in
            ap (window_of d) (noted_given s n e h) ∙ others e (subst (λ (c : ℕ). c < CHANNELS) (sym wind) (lit< tt)) d (λ q. ne (q ∙ wind))

    pub settings_stay_noted : take SETTINGS (noted_by s n) ≡ take SETTINGS s
    settings_stay_noted = go (noting s n) refl
      where
        go : (a : Answer Numbered Entry) → noting s n ≡ a → take SETTINGS (noted_by s n) ≡ take SETTINGS s
        go (refused x) h = ap (take SETTINGS) (noted_refused s n x h)
        go (given e) h = ap (take SETTINGS) (noted_given s n e h) ∙ settings e (subst (λ (c : ℕ). c < CHANNELS) (sym (noting_channel s n e h)) (lit< tt))

-- ---- what a channel was not sent

-- A message or an entry of another channel, or of none, adds nothing to a channel's history.
pub stranger : (g : Settings) (c : ℕ) (M : List Sent) (x : Sent) → belongs c x ≡ false → history g c (x ∷ M) ≡ history g c M
stranger g c M (bytes m) f = go (received g.unit m) refl
  where
    belonged : (e : Entry) → received g.unit m ≡ given e → e.channel ≡ c → belongs c (bytes m) ≡ true
    belonged e r q = rw (eq-eqb (length m) 16 (received_long g.unit m e r), eq-eqb (channel m) c (sym (received_channel g.unit m e r) ∙ q))

    go : (a : Answer ℕ Entry) → received g.unit m ≡ a → history g c (bytes m ∷ M) ≡ history g c M
    go (refused n) r = message_step g c M m r
    go (given e) r = message_step g c M m r ∙ grown_other c (history g c M) e (λ q. never (sym f ∙ belonged e r q))
stranger g c M (note n) f = go (entered g (history g wind_channel M) (history g course_channel M) n) refl
  where
    go : (a : Answer Numbered Entry) → entered g (history g wind_channel M) (history g course_channel M) n ≡ a → history g c (note n ∷ M) ≡ history g c M
    go (refused x) r = entry_step g c M n r
    go (given e) r =
        entry_step g c M n r
        ∙ grown_other c (history g c M) e (λ q. never (sym f ∙ eq-eqb wind_channel c (sym (entered_channel g (history g wind_channel M) (history g course_channel M) n e r) ∙ q)))

-- An entry that was taken is what is remembered of its minute.
pub entry_remembered : (g : Settings) (M : List Sent) (n : Note) {e : Entry} → entered g (history g wind_channel M) (history g course_channel M) n ≡ given e
    → remembered (history g wind_channel (note n ∷ M)) n.minute ≡ recalled e
entry_remembered g M n {e} h =
    let w = entered_later g (history g wind_channel M) (history g course_channel M) n e h in
    ap (λ (H : List Entry). remembered H n.minute) (entry_step g wind_channel M n h ∙ rw (eq-eqb e.channel wind_channel w.0, le-leb (next_of (history g wind_channel M)) e.minute w.1))
    ∙ remembered_in (e ∷ history g wind_channel M) n.minute (omega (arith, w.2))
    ∙ rw (eq-eqb e.minute n.minute w.2)

-- ---- absent minutes

-- a minute before the newest that is absent
abbrev Missed : List Entry → ℕ → Type 0
Missed H j = (remembered H j ≡ absent) × (j < next_of H)

missed_step : (e : Entry) (H : List Entry) (j : ℕ) → next_of H ≤ e.minute → Missed H j → Missed (e ∷ H) j
missed_step e H j n w = (
  remembered_step e H j n
      ∙ rw (ne_eqb j e.minute (λ q. omega arith), w.0) (either_way (λ r. r ≡ absent) (leb (suc e.minute) (j + MINUTES)) absent absent refl refl),
  omega arith,
)

missed_grown : {R : Type 0} (c : ℕ) (H : List Entry) (a : Answer R Entry) (j : ℕ) → Missed H j → Missed (grown c H a) j
missed_grown c H (refused n) j w = w
missed_grown c H (given e) j w = go (eqb e.channel c && leb (next_of H) e.minute) refl
  where
    go : (b : Bool) → (eqb e.channel c && leb (next_of H) e.minute) ≡ b → Missed (cond b (e ∷ H) H) j
    go true t = missed_step e H j (leb-true (next_of H) e.minute (and_true (eqb e.channel c) (leb (next_of H) e.minute) t).1) w
    go false t = w

missed_on : (g : Settings) (c : ℕ) (N M : List Sent) (j : ℕ) → Missed (history g c M) j → Missed (history g c (N ++ M)) j
unfolding history
missed_on g c [] M j w = w
missed_on g c (bytes m ∷ N) M j w = missed_grown c (history g c (N ++ M)) (received g.unit m) j (missed_on g c N M j w)
missed_on g c (note n ∷ N) M j w =
    missed_grown c (history g c (N ++ M)) (entered g (history g wind_channel (N ++ M)) (history g course_channel (N ++ M)) n) j (missed_on g c N M j w)

-- "A minute without an accepted message is absent", and stays so, whatever else is sent.
pub stays_absent_on : (g : Settings) (c : ℕ) (N M : List Sent) (j : ℕ)
    → remembered (history g c M) j ≡ absent → j < next_of (history g c M) → remembered (history g c (N ++ M)) j ≡ absent
stays_absent_on g c N M j a l = (missed_on g c N M j (a, l)).0

pub stays_absent : (g : Settings) (c : ℕ) (M : List Sent) (x : Sent) (j : ℕ)
    → remembered (history g c M) j ≡ absent → j < next_of (history g c M) → remembered (history g c (x ∷ M)) j ≡ absent
stays_absent g c M x j a l = stays_absent_on g c (x ∷ []) M j a l

-- ---- "one jumped over, or before the channel's first, stays so"

-- nothing was accepted from the minute after the newest on
grown_late : {R : Type 0} (c : ℕ) (H : List Entry) (a : Answer R Entry) → ((j : ℕ) → next_of H ≤ j → lookup H j ≡ absent) →
    (j : ℕ) → next_of (grown c H a) ≤ j → lookup (grown c H a) j ≡ absent
grown_late c H (refused n) late j h = late j h
grown_late {R} c H (given e) late j h = go (eqb e.channel c && leb (next_of H) e.minute) refl
  where
    go : (b : Bool) → (eqb e.channel c && leb (next_of H) e.minute) ≡ b → lookup (added c H e) j ≡ absent
    go true t =
        let l = leb-true (next_of H) e.minute (and_true (eqb e.channel c) (leb (next_of H) e.minute) t).1 in
        let k : e.minute + 1 ≤ j = rw t at h in
        rw (t, ne_eqb e.minute j (λ q. omega arith)) (late j (omega arith))
    go false t = rw t (late j (rw t at h))

late : (g : Settings) (c : ℕ) (M : List Sent) (j : ℕ) → next_of (history g c M) ≤ j → lookup (history g c M) j ≡ absent
unfolding history
late g c [] j h = refl
late g c (bytes m ∷ M) j h = grown_late c (history g c M) (received g.unit m) (late g c M) j h
late g c (note n ∷ M) j h = grown_late c (history g c M) (entered g (history g wind_channel M) (history g course_channel M) n) (late g c M) j h

-- A minute between the newest and the next that is accepted is absent; before the first, every one is.
pub jumped_over : (g : Settings) (c : ℕ) (M : List Sent) (e : Entry) (j : ℕ) →
    next_of (history g c M) ≤ j → j < e.minute → remembered (e ∷ history g c M) j ≡ absent
unfolding remembered
jumped_over g c M e j l h = either_way (λ r. r ≡ absent) (leb (e.minute + 1) (j + MINUTES)) (lookup (e ∷ history g c M) j) absent gone refl
  where
    gone : lookup (e ∷ history g c M) j ≡ absent
    gone = rw (ne_eqb e.minute j (λ q. omega arith)) (late g c M j l)

-- ---- "Each channel keeps its newest accepted minute and the 255 minutes before it."

module _ (e : Entry) (H : List Entry) where
  pub kept_255 : (j : ℕ) → e.minute ≤ j + 255 → remembered (e ∷ H) j ≡ lookup (e ∷ H) j
  kept_255 j l = remembered_in (e ∷ H) j (omega arith)

  pub gone_256 : (j : ℕ) → j + 256 ≤ e.minute → remembered (e ∷ H) j ≡ absent
  gone_256 j l = remembered_gone (e ∷ H) j (omega arith)

  pub kept_at_355 : e.minute ≡ 355 → remembered (e ∷ H) 100 ≡ lookup (e ∷ H) 100
  kept_at_355 t = kept_255 100 (omega arith)

  pub gone_at_356 : e.minute ≡ 356 → remembered (e ∷ H) 100 ≡ absent
  gone_at_356 t = gone_256 100 (omega arith)

-- "the number of absent .. minutes among the 179 strictly between"
pub absent_count : (s : List ℕ) (g : Settings) (M : List Sent) (c m : ℕ) → Remembers s g M → c < CHANNELS
    → absent_of s c m ≡ absents (λ j. is_present (remembered (history g c M) j)) m minutes_between
unfolding absent_of
absent_count s g M c m r l =
    rw (lt-ltb c CHANNELS l)
    (absents_alike (present (window_of c s)) (λ j. is_present (remembered (history g c M) j)) m minutes_between (λ j a b. r.bits c l j))
