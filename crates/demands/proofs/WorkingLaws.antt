-- What the contracts say of calls, and so of a station at work: it was opened with good settings, and its block is the one that its
-- settings, messages and entries make. Assumes nothing.
use mathlib.Core.Path.{◌≡◌, sym, ap, subst, ◌∙◌}
use mathlib.Core.List.{List, [], ◌∷◌}
use Prim.Native.Nat.{ℕ}
use denote.Ref.{Bor, MutBor}
use Rattle.number.specs.Refusal.{given}
use Rattle.settings.specs.Settings.{checked, checked_as}
use Rattle.settings.specs.declared.Settings.{Settings}
use Rattle.std.specs.Prelude.{Result, Ok}
use Rattle.settings.specs.declared.SettingsRefusal.{SettingsRefusal}
use Rattle.anemometer.specs.declared.Note.{Note}
use Rattle.store.specs.Block.{opened_by, hearing, heard_as, heard_by, outcome}
use Rattle.store.specs.Noting.{noting, noted_by}
use Rattle.store.specs.History.{Sent, bytes, note, store_of}
use Rattle.store.specs.declared.HearingRefusal.{HearingRefusal}
use Rattle.store.proofs.OpenLaws.{opens}
use Rattle.station.specs.Source.{heard}
use Rattle.station.specs.Questions.{Asked, pressure, tendency, wind, humidity, Reply, Tells, TellsOf}
use Rattle.settings.specs.Settings.{SameSettings}
use Rattle.heard.proofs.StoreLaws.{by_messages}
use Rattle.heard.proofs.SettingsAlike.{same_store}
use Rattle.demands.specs.Working.{Opens, Hears, Notes, Asks, Working, Replies}

-- words lent, wherever they lie
abbrev pub lent : List ℕ → Bor (List ℕ)
lent s = record { ref_ptr = (0, 0); now = s }

-- and to be changed
abbrev pub lent_mut : List ℕ → MutBor (List ℕ)
lent_mut s = record { ref_ptr = (0, 0); ghost_name = 0; now = s }

-- ---- single calls

module _ (b : List ℕ) (g : Settings) (c : Result (Unit {0}) SettingsRefusal) (b' : List ℕ) (w : Opens b g c b') where
  pub open_answer : checked_as c ≡ checked g
  open_answer = let which = w.5 in ap checked_as (sym which.2) ∙ w.4.0 ∙ ap checked which.1

  pub open_block : b' ≡ opened_by b g
  open_block = let which = w.5 in sym which.3 ∙ w.4.1 ∙ ap (λ (s : List ℕ). opened_by s w.1.1.0) which.0 ∙ ap (opened_by b) which.1

module _ (b m : List ℕ) (h : Result (Unit {0}) HearingRefusal) (b' : List ℕ) (w : Hears b m h b') where
  pub hear_answer : heard_as h ≡ outcome (hearing b m)
  hear_answer =
      let which = w.5 in
      ap heard_as (sym which.2) ∙ w.4.answer ∙ ap (λ (s : List ℕ). outcome (hearing s w.1.1.0.now)) which.0 ∙ ap (λ (x : List ℕ). outcome (hearing b x)) which.1

  pub hear_block : b' ≡ heard_by b m
  hear_block =
      let which = w.5 in
      sym which.3 ∙ w.4.block ∙ ap (λ (s : List ℕ). heard_by s w.1.1.0.now) which.0 ∙ ap (heard_by b) which.1

module _ (b : List ℕ) (n : Note) (h : Result (Unit {0}) HearingRefusal) (b' : List ℕ) (w : Notes b n h b') where
  pub note_answer : heard_as h ≡ outcome (noting b n)
  note_answer =
      let which = w.5 in
      ap heard_as (sym which.2) ∙ w.4.answer ∙ ap (λ (s : List ℕ). outcome (noting s w.1.1.0)) which.0 ∙ ap (λ (x : Note). outcome (noting b x)) which.1

  pub note_block : b' ≡ noted_by b n
  note_block = let which = w.5 in sym which.3 ∙ w.4.block ∙ ap (λ (s : List ℕ). noted_by s w.1.1.0) which.0 ∙ ap (noted_by b) which.1

-- a promise about a block, a minute and an answer, of equal ones
carried : {R : Type 0} (P : List ℕ → ℕ → R → Type 0) {b b' : List ℕ} {m m' : ℕ} {r r' : R} → b ≡ b' → m ≡ m' → r ≡ r' → P b m r → P b' m' r'
carried P {b} {b'} {m} {m'} {r} {r'} e f h w = subst (P b' m') h (subst (λ (n : ℕ). P b' n r) f (subst (λ (s : List ℕ). P s m r) e w))

told_pressure : (b : List ℕ) (m : ℕ) (x : Reply pressure) (b' : List ℕ) → Asks pressure b m x b' → TellsOf pressure b m x
told_pressure b m x b' w = let which = w.5 in carried (TellsOf pressure) which.0 which.1 which.2 w.4.0

told_tendency : (b : List ℕ) (m : ℕ) (x : Reply tendency) (b' : List ℕ) → Asks tendency b m x b' → TellsOf tendency b m x
told_tendency b m x b' w = let which = w.5 in carried (TellsOf tendency) which.0 which.1 which.2 w.4.0

told_wind : (b : List ℕ) (m : ℕ) (x : Reply wind) (b' : List ℕ) → Asks wind b m x b' → TellsOf wind b m x
told_wind b m x b' w = let which = w.5 in carried (TellsOf wind) which.0 which.1 which.2 w.4.0

told_humidity : (b : List ℕ) (m : ℕ) (x : Reply humidity) (b' : List ℕ) → Asks humidity b m x b' → TellsOf humidity b m x
told_humidity b m x b' w = let which = w.5 in carried (TellsOf humidity) which.0 which.1 which.2 w.4.0

pub asks_told : (q : Asked) (b : List ℕ) (m : ℕ) (x : Reply q) (b' : List ℕ) → Asks q b m x b' → TellsOf q b m x
asks_told pressure = told_pressure
asks_told tendency = told_tendency
asks_told wind = told_wind
asks_told humidity = told_humidity

pub asks_leaves : (q : Asked) (b : List ℕ) (m : ℕ) (x : Reply q) (b' : List ℕ) → Asks q b m x b' → b' ≡ b
asks_leaves pressure b m x b' w = let which = w.5 in sym which.3 ∙ w.4.1 ∙ which.0
asks_leaves tendency b m x b' w = let which = w.5 in sym which.3 ∙ w.4.1 ∙ which.0
asks_leaves wind b m x b' w = let which = w.5 in sym which.3 ∙ w.4.1 ∙ which.0
asks_leaves humidity b m x b' w = let which = w.5 in sym which.3 ∙ w.4.1 ∙ which.0

-- ---- a station at work

pub good : (g : Settings) (M : List Sent) (b : List ℕ) → Working g M b → checked g ≡ given tt
unfolding Working
good g [] b w = sym (open_answer w.0 g (Ok tt) b w.1)
good g (bytes m ∷ M) b w = good g M w.0 w.1
good g (note n ∷ M) b w = good g M w.0 w.1

pub block : (g : Settings) (M : List Sent) (b : List ℕ) → Working g M b → b ≡ store_of g M
unfolding Working
block g [] b w = open_block w.0 g (Ok tt) b w.1 ∙ sym (opens w.0 g (good g [] b w))
block g (bytes m ∷ M) b w = hear_block w.0 m w.2.0 b w.2.1 ∙ ap (λ (s : List ℕ). heard_by s m) (block g M w.0 w.1)
block g (note n ∷ M) b w = note_block w.0 n w.2.0 b w.2.1 ∙ ap (λ (s : List ℕ). noted_by s n) (block g M w.0 w.1)

-- what it answers is what document 01 says of its settings and of what it heard
pub replies : (q : Asked) (g : Settings) (M : List Sent) (m : ℕ) (x : Reply q) → Replies q g M m x → Tells q (heard g M) m x
replies q g M m x w =
    by_messages g (good g M w.block w.working) M m q x
    (subst (λ (s : List ℕ). TellsOf q s m x) (block g M w.block w.working) (asks_told q w.block m x w.after w.asks))

-- and where another was opened with the same settings, of these
pub replies_on : (q : Asked) (g h : Settings) → SameSettings g h → (M N : List Sent) (m : ℕ) (x y : Reply q) → Replies q g M m x → Replies q h N m y
    → Tells q (heard g N) m y
replies_on q g h same M N m x y v w =
    let is = good g M v.block v.working in
    by_messages g is N m q y
    (subst (λ (s : List ℕ). TellsOf q s m y) (block h N w.block w.working ∙ sym (same_store g h same N)) (asks_told q w.block m y w.after w.asks))
