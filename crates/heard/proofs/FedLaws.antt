-- Demand 3. What a channel accepted of all that was sent is what it accepts of what feeds an answer; so two lists of which the same is
-- fed give the same answer, and so does that alone. Assumes nothing.
use mathlib.Core.Path.{◌≡◌, refl, sym, ap, ◌∙◌}
use mathlib.Core.Bool.{Bool, true, false, ◌||◌, cond}
use mathlib.Core.List.{List, [], ◌∷◌}
use Prim.Native.Nat.{ℕ}
use lib.Dec.{eqb}
use borrow.Author.Tests.{eqb-true}
use Rattle.number.proofs.Sizes.{and_true, never}
use Rattle.quantity.specs.Limits.{minutes_between}
use Rattle.message.specs.Receive.{Entry, received}
use Rattle.settings.specs.declared.Settings.{Settings}
use Rattle.window.specs.Window.{absents}
use Rattle.cell.specs.Cells.{is_present}
use Rattle.anemometer.specs.declared.Note.{Note}
use Rattle.store.specs.Block.{wind_channel, course_channel}
use Rattle.store.specs.History.{Sent, bytes, note, remembered, grown, history, belongs}
use Rattle.store.proofs.StoreTheorems.{stranger}
use Rattle.pressure.specs.Pressure.{Barometer}
use Rattle.pressure.proofs.PressureTheorems.{Alike}
use Rattle.station.specs.Source.{heard}
use Rattle.station.specs.Questions.{Asked, question, Reply, is_in, Tells}
use Rattle.station.specs.Questions as asked
use Rattle.heard.specs.Feeds.{feeds, fed, fed_to, messages_of}
use Rattle.station.proofs.SourceLaws.{agree_tells}

-- ---- what a channel was sent, among what is fed

module _ (c : ℕ) (x : Sent) (own : belongs c x ≡ true) where
  feeds_own : (cs : List ℕ) → is_in cs c ≡ true → feeds cs x ≡ true
  unfolding feeds
  feeds_own [] e = never e
  feeds_own (d ∷ cs) e = go (eqb c d) refl e (feeds_own cs)
    where
      either : (b : Bool) → (b || true) ≡ true
      either true = refl
      either false = refl

      go : (b : Bool) → eqb c d ≡ b → (b || is_in cs c) ≡ true → (is_in cs c ≡ true → feeds cs x ≡ true) → (belongs d x || feeds cs x) ≡ true
      go true h i rest = rw (sym (ap (λ (k : ℕ). belongs k x) (eqb-true c d h)) ∙ own)
      go false h i rest = rw (rest i) (either (belongs d x))

-- an entry is fed to what channel 2 feeds
feeds_note : (cs : List ℕ) (n : Note) → feeds cs (note n) ≡ is_in cs wind_channel
unfolding feeds
feeds_note [] n = refl
feeds_note (d ∷ cs) n = rw (feeds_note cs n)

-- Channels of which the course's is one where the wind's is.
abbrev pub Closed : List ℕ → Type 0
Closed cs = is_in cs wind_channel ≡ true → is_in cs course_channel ≡ true

closed : (q : Asked) → Closed (question q).channels
closed asked.pressure e = never e
closed asked.tendency e = never e
closed asked.wind e = refl
closed asked.humidity e = never e

module _ (cs : List ℕ) (whole : Closed cs) (g : Settings) where
  -- A channel that feeds an answer accepts of all that was sent what it accepts of what is fed.
  pub fed_history : (c : ℕ) → is_in cs c ≡ true → (M : List Sent) → history g c M ≡ history g c (fed cs M)
  unfolding fed history
  fed_history c i [] = refl
  fed_history c i (bytes m ∷ M) = go (feeds cs (bytes m)) refl (fed_history c i M)
    where
      apart : feeds cs (bytes m) ≡ false → (b : Bool) → belongs c (bytes m) ≡ b → belongs c (bytes m) ≡ false
      apart f true own = never (sym f ∙ feeds_own c (bytes m) own cs i)
      apart f false own = own

      go : (f : Bool) → feeds cs (bytes m) ≡ f → history g c M ≡ history g c (fed cs M)
          → history g c (bytes m ∷ M) ≡ history g c (cond f (bytes m ∷ fed cs M) (fed cs M))
      go true f rest = ap (λ (H : List Entry). grown c H (received g.unit m)) rest
      go false f rest = stranger g c M (bytes m) (apart f (belongs c (bytes m)) refl) ∙ rest
  fed_history c i (note n ∷ M) =
      go (is_in cs wind_channel) refl (fed_history c i M) (λ w. fed_history wind_channel w M) (λ w. fed_history course_channel (whole w) M)
    where
      apart : is_in cs wind_channel ≡ false → (b : Bool) → eqb wind_channel c ≡ b → eqb wind_channel c ≡ false
      apart f true own = never (sym f ∙ ap (is_in cs) (eqb-true wind_channel c own) ∙ i)
      apart f false own = own

      go : (f : Bool) → is_in cs wind_channel ≡ f → history g c M ≡ history g c (fed cs M)
          → (is_in cs wind_channel ≡ true → history g wind_channel M ≡ history g wind_channel (fed cs M))
          → (is_in cs wind_channel ≡ true → history g course_channel M ≡ history g course_channel (fed cs M))
          → history g c (note n ∷ M) ≡ history g c (cond (feeds cs (note n)) (note n ∷ fed cs M) (fed cs M))
      go true f rest wind course = rw (feeds_note cs n ∙ f, rest, wind f, course f)
      go false f rest wind course = rw (feeds_note cs n ∙ f) (stranger g c M (note n) (apart f (eqb wind_channel c) refl) ∙ rest)

  same_history : (c : ℕ) → is_in cs c ≡ true → (M N : List Sent) → fed cs M ≡ fed cs N → history g c M ≡ history g c N
  same_history c i M N e = fed_history c i M ∙ ap (history g c) e ∙ sym (fed_history c i N)

-- Where channel 2 feeds nothing, entries do not matter.
pub without_entries : (cs : List ℕ) → is_in cs wind_channel ≡ false → (M : List Sent) → fed cs M ≡ fed cs (messages_of M)
unfolding fed messages_of
without_entries cs none [] = refl
without_entries cs none (bytes m ∷ M) = ap (λ (K : List Sent). cond (feeds cs (bytes m)) (bytes m ∷ K) K) (without_entries cs none M)
without_entries cs none (note n ∷ M) = rw (feeds_note cs n ∙ none) (without_entries cs none M)

-- ---- the answers

pub itself : (b : Barometer) → Alike b b
itself b = record { unit = refl; height = refl; difference = refl; coefficient = refl; points = refl; point = λ i l. refl }

module _ (g : Settings) (M N : List Sent) where
  kept : (m c : ℕ) → history g c M ≡ history g c N → (heard g M).recall c m ≡ (heard g N).recall c m
  kept m c e = ap (λ (H : List Entry). remembered H m) e

  missing : (m : ℕ) → history g 0 M ≡ history g 0 N → (heard g M).missing m ≡ (heard g N).missing m
  missing m e = ap (λ (H : List Entry). absents (λ j. is_present (remembered H j)) m minutes_between) e

  -- Lists of which the same is fed give the same answer.
  pub same_fed : (q : Asked) (m : ℕ) → fed_to q M ≡ fed_to q N → (r : Reply q) → Tells q (heard g M) m r → Tells q (heard g N) m r
  same_fed q m e =
      let same : (c : ℕ) → is_in (question q).channels c ≡ true → history g c M ≡ history g c N =
      λ c i. same_history (question q).channels (closed q) g c i M N e in
      agree_tells q (heard g M) (heard g N) m
      (record {
        barometer = itself _;
        psychrometer = refl;
        kept = λ c j r. kept j c (same c (and_true (is_in (question q).channels c) (is_in ((question q).minutes m) j) r).0);
        missing = λ i. missing m (same 0 i);
      })

-- What is fed of what is fed is that.
pub fed_again : (cs : List ℕ) (M : List Sent) → fed cs M ≡ fed cs (fed cs M)
unfolding fed
fed_again cs [] = refl
fed_again cs (x ∷ M) = go (feeds cs x) refl (fed_again cs M)
  where
    go : (b : Bool) → feeds cs x ≡ b → fed cs M ≡ fed cs (fed cs M) → cond b (x ∷ fed cs M) (fed cs M) ≡ fed cs (cond b (x ∷ fed cs M) (fed cs M))
    go true h rest = rw h (ap (λ (K : List Sent). x ∷ K) rest)
    go false h rest = rest
