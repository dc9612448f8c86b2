-- A store that was opened and then heard messages: its settings stay as they were opened with, and its block answers every
-- question as the messages heard do. By what the block remembers of them. Assumes nothing.
use mathlib.Core.Path.{◌≡◌, refl, sym, ap, subst, ◌∙◌}
use mathlib.Core.Bool.{Bool, true, false, not, ◌&&◌, ◌||◌, cond}
use mathlib.Core.List.{List, [], ◌∷◌}
use Prim.Native.Nat.{ℕ, ◌+◌, ◌<◌, min}
use native.Mathlib.Omega.{arith}
use lib.Dec.{eqb, ltb, lit<}
use lib.ListN.{get_or, take}
use lib.Seq.{get_or-take}
use borrow.Author.Tests.{ltb-true, eqb-true, not-false}
use Rattle.std.specs.Prelude.{Result}
use Rattle.number.specs.Refusal.{given}
use Rattle.number.proofs.Sizes.{and_true, never}
use Rattle.quantity.specs.Limits.{inside, recorded_pressure}
use Rattle.quantity.specs.declared.BarometerUnit.{BarometerUnit}
use Rattle.settings.specs.Settings.{checked, others_hold, nowhere}
use Rattle.settings.specs.Settings as settings
use Rattle.settings.specs.declared.Settings.{Settings}
use Rattle.block.specs.Layout.{SETTINGS, POINTS}
use Rattle.cell.specs.Cells.{CHANNELS, unbiased, limits_of, Recall, is_present}
use Rattle.block.specs.Words.{opened, unit_of, setting_of, point_in, point_of}
use Rattle.store.specs.History.{Sent, store_of}
use Rattle.store.proofs.HistoryLaws.{store_remembers, store_is_open}
use Rattle.store.proofs.StoreTheorems.{absent_count}
use Rattle.block.proofs.SettingsLaws.{settings_back, others}
use Rattle.pressure.specs.Pressure.{Barometer, barometer_in, barometer_of}
use Rattle.pressure.proofs.PressureTheorems.{Alike, opened_alike, station_recorded}
use Rattle.humidity.specs.declared.HumidityFigures.{HumidityFigures}
use Rattle.station.specs.Source.{heard, held, reading_at}
use Rattle.store.specs.Block.{no_store}
use Rattle.station.specs.Questions.{Asked, question, Reply, is_in, AnsweredBy, Tells, TellsOf, too_late, missing_at, outside_at, station_at, HumidityRule, humidity_tests, foreign, foreign_to}
use Rattle.station.specs.Questions as asked
use Rattle.station.specs.Told.{humidity_as}
use Rattle.station.specs.declared.QuestionRefusal.{QuestionRefusal}
use Rattle.station.proofs.AnswerLaws.{carry, leave_out, lets_pass}
use Rattle.station.proofs.KeptLaws.{number_of, first_inside}
use Rattle.station.proofs.SourceLaws.{Agree, agree_tells, station_same}

-- every question is fed by channels that there are
all_low : List ℕ → Bool
all_low [] = true
all_low (d ∷ cs) = ltb d CHANNELS && all_low cs

low_in : (cs : List ℕ) (c : ℕ) → all_low cs ≡ true → is_in cs c ≡ true → c < CHANNELS
unfolding all_low
low_in [] c l i = never i
low_in (d ∷ cs) c l i = go (eqb c d) refl i (low_in cs c)
  where
    both : (ltb d CHANNELS ≡ true) × (all_low cs ≡ true)
    both = and_true (ltb d CHANNELS) (all_low cs) l

    go : (b : Bool) → eqb c d ≡ b → (b || is_in cs c) ≡ true → (all_low cs ≡ true → is_in cs c ≡ true → c < CHANNELS) → c < CHANNELS
    go true h i rest = subst (λ (x : ℕ). x < CHANNELS) (sym (eqb-true c d h)) (ltb-true d CHANNELS both.0)
    go false h i rest = rest both.1 i

channel_low : (q : Asked) (c : ℕ) → is_in (question q).channels c ≡ true → c < CHANNELS
unfolding all_low
channel_low asked.pressure c i = low_in (question asked.pressure).channels c refl i
channel_low asked.tendency c i = low_in (question asked.tendency).channels c refl i
channel_low asked.wind c i = low_in (question asked.wind).channels c refl i
channel_low asked.humidity c i = low_in (question asked.humidity).channels c refl i

-- ---- settings

-- two blocks with the same settings' words
module _ (s t : List ℕ) (same : take SETTINGS s ≡ take SETTINGS t) where
  word : (i : ℕ) → i < SETTINGS → get_or s i 0 ≡ get_or t i 0
  word i l = sym (get_or-take SETTINGS s i 0 l) ∙ ap (λ (w : List ℕ). get_or w i 0) same ∙ get_or-take SETTINGS t i 0 l

  point : (i : ℕ) → point_of s i ≡ point_of t i
  point i = go (ltb i 16) refl
    where
      go : (b : Bool) → ltb i 16 ≡ b → cond b (point_in (get_or s (POINTS + i) 0)) nowhere ≡ cond b (point_in (get_or t (POINTS + i) 0)) nowhere
      go true h = ap point_in (word (POINTS + i) (omega (arith, ltb-true i 16 h)))
      go false h = refl

  setting : (i : ℕ) → i < SETTINGS → setting_of s i ≡ setting_of t i
  setting i l = ap unbiased (word i l)

  barometers : Alike (barometer_of s) (barometer_of t)
  barometers =
      record {
        unit = ap (λ (n : ℕ). unit_of (n ∷ [])) (word 0 (lit< tt));
        height = setting 1 (lit< tt);
        difference = setting 2 (lit< tt);
        coefficient = setting 3 (lit< tt);
        points = ap (λ (n : ℕ). min n 16) (word 5 (lit< tt));
        point = λ i l. point i;
      }

alike_on : {a b c : Barometer} → Alike a b → Alike b c → Alike a c
alike_on {a} {b} {c} p q =
    record {
      unit = p.unit ∙ q.unit;
      height = p.height ∙ q.height;
      difference = p.difference ∙ q.difference;
      coefficient = p.coefficient ∙ q.coefficient;
      points = p.points ∙ q.points;
      point = λ i l. p.point i (omega (arith, q.points)) ∙ q.point i l;
    }

module _ (g : Settings) (good : checked g ≡ given tt) where
  settings_kept : (M : List Sent) → take SETTINGS (store_of g M) ≡ take SETTINGS (opened g)
  settings_kept M = (store_remembers g good M).settings

  -- ---- what the block holds is what was heard

  module _ (M : List Sent) where
    barometer_is : Alike (barometer_of (store_of g M)) (barometer_in g)
    barometer_is = alike_on (barometers (store_of g M) (opened g) (settings_kept M)) (opened_alike g good)

    psychrometer_is : setting_of (store_of g M) 4 ≡ g.psychrometer.0.v
    psychrometer_is = setting (store_of g M) (opened g) (settings_kept M) 4 (lit< tt) ∙ (settings_back g good).psychrometer

    kept_is : (m c : ℕ) → c < CHANNELS → (held (store_of g M)).recall c m ≡ (heard g M).recall c m
    kept_is m c l = (store_remembers g good M).cells c l m

    missing_is : (m : ℕ) → (held (store_of g M)).missing m ≡ (heard g M).missing m
    missing_is m = absent_count (store_of g M) g M 0 m (store_remembers g good M) (lit< tt)

    -- what was heard lies within its channel's limits, in its channel's unit
    pub heard_inside : (m c : ℕ) → c < CHANNELS → is_present ((heard g M).recall c m) ≡ true
        → inside (limits_of g.unit c) (number_of g.unit c ((heard g M).recall c m)) ≡ true
    heard_inside m c l there =
        let block = store_of g M in
        let is = kept_is m c l in
        ap (λ (u : BarometerUnit). inside (limits_of u c) (number_of u c ((heard g M).recall c m))) (sym barometer_is.unit)
        ∙ ap (λ (x : Recall). inside (limits_of (unit_of block) c) (number_of (unit_of block) c x)) (sym is)
        ∙ first_inside block c m l (ap is_present is ∙ there)

    -- 7 is no answer of such a store
    pub never_foreign : (m : ℕ) → is_present ((heard g M).recall 0 m) ≡ true
        → not (inside recorded_pressure (station_at (heard g M) m) && inside settings.psychrometer g.psychrometer.0.v) ≡ false
    unfolding others_hold
    never_foreign m there =
        let h = g.height.0.v in
        let d = g.difference.0.v in
        let k = g.coefficient.0.v in
        let a = g.psychrometer.0.v in
        let three = inside settings.height h && inside settings.difference d && inside settings.coefficient k in
        let inside_a : inside settings.psychrometer a ≡ true = (and_true three (inside settings.psychrometer a) (others g good)).1 in
        rw (station_recorded g good (reading_at (heard g M) m) (heard_inside m 0 (lit< tt) there), inside_a)

    -- ---- the block answers as the messages heard do

    module _ (m : ℕ) where
      agrees : (q : Asked) → Agree q (held (store_of g M)) (heard g M) m
      agrees q =
          record {
            barometer = barometer_is;
            psychrometer = psychrometer_is;
            kept = λ c j r. kept_is j c (channel_low q c (and_true (is_in (question q).channels c) (is_in ((question q).minutes m) j) r).0);
            missing = λ i. missing_is m;
          }

      -- it is a store, so the first test does not refuse
      of_store : (q : Asked) (r : Reply q) → TellsOf q (store_of g M) m r
          → AnsweredBy q [] (foreign_to q (held (store_of g M)) m) (held (store_of g M)) m r
      of_store q r w tables tabled =
          let Rule = (question q).Rule (held (store_of g M)) m in
          carry (no_store (store_of g M) ∷ _) _ Rule Rule ((question q).told r)
          (leave_out [] _ (no_store (store_of g M)) (λ e. ap not (store_is_open g good M)))
          (λ x h. h)
          (w tables tabled)

      -- the test that document 01 does not have among its own never refuses
      without_foreign : (r : Result HumidityFigures QuestionRefusal) → AnsweredBy asked.humidity [] (foreign (held (store_of g M)) m) (held (store_of g M)) m r
          → Tells asked.humidity (held (store_of g M)) m r
      without_foreign r w tables tabled =
          let S = held (store_of g M) in
          let same : not (inside recorded_pressure (station_at S m) && inside settings.psychrometer S.psychrometer)
          ≡ not (inside recorded_pressure (station_at (heard g M) m) && inside settings.psychrometer g.psychrometer.0.v) =
          rw (station_same S (heard g M) barometer_is m (kept_is m 0 (lit< tt)), psychrometer_is) in
          carry (humidity_tests (foreign S m) tables S m) (humidity_tests [] tables S m) (HumidityRule S m) (HumidityRule S m) (humidity_as r)
          (leave_out (too_late m ∷ missing_at S m 0 ∷ missing_at S m 4 ∷ missing_at S m 5 ∷ outside_at S m ∷ []) _ _
          (λ e. same ∙ never_foreign m (ap is_present (sym (kept_is m 0 (lit< tt))) ∙ not-false _ (lets_pass (missing_at S m 0) _ (lets_pass (too_late m) _ e).1).0)))
          (λ h x. x)
          (w tables tabled)

      as_told : (q : Asked) (r : Reply q) → AnsweredBy q [] (foreign_to q (held (store_of g M)) m) (held (store_of g M)) m r
          → Tells q (held (store_of g M)) m r
      as_told asked.pressure r w = w
      as_told asked.tendency r w = w
      as_told asked.wind r w = w
      as_told asked.humidity r w = without_foreign r w

      pub by_messages : (q : Asked) (r : Reply q) → TellsOf q (store_of g M) m r → Tells q (heard g M) m r
      by_messages q r w = agree_tells q (held (store_of g M)) (heard g M) m (agrees q) r (as_told q r (of_store q r w))
