-- Every answer of a store that was opened makes a record that the watch file takes: the minute is one that may be asked, and the
-- figures are worked from readings within their limits. Assumes nothing.
use mathlib.Core.Path.{◌≡◌, refl, sym, subst, ◌∙◌}
use mathlib.Core.Bool.{true, false, cond}
use mathlib.Core.List.{List, []}
use Prim.Native.Nat.{ℕ, ◌-◌, ◌<◌}
use native.Mathlib.Omega.{arith}
use lib.Dec.{eqb, leb, ltb, lit<}
use lib.IntN.{ℤ, pos, nat_abs, ◌-ℤ◌}
use borrow.Author.Tests.{ltb-false, le-leb, lt-ltb, not-false}
use Rattle.number.specs.Refusal.{given}
use Rattle.number.proofs.Sizes.{both}
use Rattle.quantity.specs.Limits.{last_minute, three_hours, inside, pressure_limits, wheelhouse, recorded_pressure}
use Rattle.settings.specs.Settings.{checked}
use Rattle.settings.specs.declared.Settings.{Settings}
use Rattle.cell.specs.Cells.{is_present}
use Rattle.store.specs.History.{Sent, history, remembered}
use Rattle.pressure.proofs.PressureTheorems.{sea_level_recorded}
use Rattle.vapour.specs.Vapour.{water, Tables, AreTables}
use Rattle.vapour.proofs.SaturationLaws.{near_one}
use Rattle.vapour.proofs.TablesExist.{the_tables}
use Rattle.wind.specs.declared.Wind.{Wind}
use Rattle.humidity.specs.declared.HumidityFigures.{HumidityFigures}
use Rattle.humidity.proofs.VapourPressureLaws.{one_e}
use Rattle.humidity.proofs.HumidityTheorems.{writable_of}
use Rattle.station.specs.Source.{Source, heard, in_celsius, reading_at}
use Rattle.station.specs.Questions.{Answers, sea_level_at, pressure_tests, PressureRule, tendency_tests, TendencyRule, wind_tests, WindRule, humidity_tests, HumidityRule, dry_at, wet_at, state_at, station_at, vapour_at}
use Rattle.station.specs.Told.{Change}
use Rattle.station.proofs.AnswerLaws.{passed, ruled}
use Rattle.station.proofs.HumidityLaws.{entries_there}
use Rattle.heard.proofs.StoreLaws.{heard_inside}
use Rattle.watchfile.specs.Rules.{minute_right, rank}
use Rattle.watchfile.specs.Format.{DewRule, kept, body_right, record_right}
use Rattle.watchfile.specs.declared.Body.{Body}
use Rattle.watchfile.specs.declared.Body.TheVariants.{Pressure, Tendency}
use Rattle.desk.specs.Records.{pressure_record, tendency_record, wind_record, humidity_record}
use Rattle.demands.proofs.RecordedFigures.{pressure_taken, tendency_taken, wind_taken, humidity_taken}

-- a minute that may be asked may be recorded
minute_right_lem : (m kind : ℕ) → ltb last_minute m ≡ false → 0 < kind → cond (eqb kind 2) (leb three_hours m) true ≡ true → minute_right 0 kind m ≡ true
unfolding minute_right
minute_right_lem m kind t k h = both (both (le-leb m last_minute (ltb-false last_minute m t)) (lt-ltb 0 (rank m kind) (omega arith))) h

module _ (g : Settings) (good : checked g ≡ given tt) (M : List Sent) (m : ℕ) where
  abbrev S : Source
  S = heard g M

  -- ---- pressure

  -- an answer's minute may be asked, and it is worked from readings within their limits
  record ReadFor (p : ℤ) : Type 0 where
    pub in_time : ltb last_minute m ≡ false
    pub in_pressure : inside (pressure_limits g.unit) (reading_at S m) ≡ true
    pub in_warmth : inside wheelhouse (in_celsius (S.recall 1 m)) ≡ true
    pub is : p ≡ sea_level_at S m

  pressure_read : (p : ℤ) → Answers (pressure_tests S m) (PressureRule S m) (given p) → ReadFor p
  pressure_read p w =
      let a = passed _ _ (PressureRule S m) p w in
      let b = passed _ _ (PressureRule S m) p a.1 in
      let c = passed _ _ (PressureRule S m) p b.1 in
      let d = passed _ _ (PressureRule S m) p c.1 in
      record {
        in_time = a.0;
        in_pressure = heard_inside g good M m 0 (lit< tt) (not-false _ b.0);
        in_warmth = heard_inside g good M m 1 (lit< tt) (not-false _ c.0);
        is = ruled (PressureRule S m) p d.1;
      }

  -- it lies within the limits of a file, with its own sign
  pub pressure_inside : (p : ℤ) → Answers (pressure_tests S m) (PressureRule S m) (given p) → inside recorded_pressure p ≡ true
  pressure_inside p w =
      let q = pressure_read p w in
      subst (λ (z : ℤ). inside recorded_pressure z ≡ true) (sym q.is)
      (sea_level_recorded g good (reading_at S m) (in_celsius (S.recall 1 m)) q.in_pressure q.in_warmth)

  pub pressure_record_lem : (p : ℤ) → Answers (pressure_tests S m) (PressureRule S m) (given p) → (dew : ℕ → ℤ) → record_right dew 0 (pressure_record m p) ≡ true
  pressure_record_lem p w dew =
      let q = pressure_read p w in
      let taken = pressure_taken g good dew (reading_at S m) (in_celsius (S.recall 1 m)) q.in_pressure q.in_warmth in
      both (minute_right_lem m 1 q.in_time (lit< tt) refl) (subst (λ (z : ℤ). body_right dew (Pressure (nat_abs z)) ≡ true) (sym q.is) taken)

  -- ---- tendency

  same_body : (c z : ℤ) (n k : ℕ) → c ≡ z → n ≡ k → ◌≡◌ {A = Body} (Tendency (kept z) k) (Tendency (kept c) n)
  same_body c z n k p q = cc

  pub tendency_record_lem : (t : Change) → Answers (tendency_tests S m) (TendencyRule S m) (given t) → (dew : ℕ → ℤ) → record_right dew 0 (tendency_record m t) ≡ true
  tendency_record_lem t w dew =
      let a = passed _ _ (TendencyRule S m) t w in
      let b = passed _ _ (TendencyRule S m) t a.1 in
      let c = passed _ _ (TendencyRule S m) t b.1 in
      let d = passed _ _ (TendencyRule S m) t c.1 in
      let e = passed _ _ (TendencyRule S m) t d.1 in
      let f = passed _ _ (TendencyRule S m) t e.1 in
      let i = passed _ _ (TendencyRule S m) t f.1 in
      let j = passed _ _ (TendencyRule S m) t i.1 in
      let rule = ruled (TendencyRule S m) t j.1 in
      let x = S.recall in
      let taken = tendency_taken g good dew (reading_at S m) (in_celsius (x 1 m)) (reading_at S (m - three_hours)) (in_celsius (x 1 (m - three_hours))) (λ k. is_present (remembered (history g 0 M) k)) m
      (heard_inside g good M m 0 (lit< tt) (not-false _ e.0)) (heard_inside g good M m 1 (lit< tt) (not-false _ f.0))
      (heard_inside g good M (m - three_hours) 0 (lit< tt) (not-false _ c.0)) (heard_inside g good M (m - three_hours) 1 (lit< tt) (not-false _ d.0)) in
      both (minute_right_lem m 2 a.0 (lit< tt) (le-leb three_hours m (ltb-false m three_hours b.0)))
      (subst (λ (y : Body). body_right dew y ≡ true) (same_body t.change (sea_level_at S m -ℤ sea_level_at S (m - three_hours)) t.absent (S.missing m) rule.change rule.absent) taken)

  -- ---- wind

  pub wind_record_lem : (w : Wind) → Answers (wind_tests S m) (WindRule S m) (given w) → (dew : ℕ → ℤ) → record_right dew 0 (wind_record m w.speed w.direction) ≡ true
  wind_record_lem w told dew =
      let a = passed _ _ (WindRule S m) w told in
      let b = passed _ _ (WindRule S m) w a.1 in
      let c = passed _ _ (WindRule S m) w b.1 in
      both (minute_right_lem m 3 a.0 (lit< tt) refl) (wind_taken dew _ _ _ _ w.speed w.direction (ruled (WindRule S m) w c.1))

  -- ---- humidity

  pub humidity_record_lem : (h : HumidityFigures) → ((tables : Tables) → AreTables tables → Answers (humidity_tests [] tables S m) (HumidityRule S m) (given h))
      → (dew : ℕ → ℤ) → DewRule dew → record_right dew 0 (humidity_record m h) ≡ true
  humidity_record_lem h asked dew ruled-dew =
      let tables = the_tables.0 in
      let tabled = the_tables.1 in
      let Rule = HumidityRule S m in
      let s = state_at S m in
      let dry = dry_at S m in
      let wet = wet_at S m in
      let p = station_at S m in
      let k = S.psychrometer in
      let a = passed _ _ Rule h (asked tables tabled) in
      let b = passed _ _ Rule h a.1 in
      let c = passed _ _ Rule h b.1 in
      let d = passed _ _ Rule h c.1 in
      let e = passed _ _ Rule h d.1 in
      let bulbs = passed _ _ Rule h e.1 in
      let cold = passed _ _ Rule h bulbs.1 in
      let doubt = passed _ _ Rule h cold.1 in
      let under = passed _ _ Rule h doubt.1 in
      let enough = passed _ _ Rule h under.1 in
      let is = ruled Rule h enough.1 in
      let in_dry = heard_inside g good M m 4 (lit< tt) (not-false _ c.0) in
      let in_wet = heard_inside g good M m 5 (lit< tt) (not-false _ d.0) in
      let there = entries_there s dry wet p k tables tabled in_dry in_wet s cold.0 in
      let same : vapour_at tables S m ≡ pos h.e.0 = one_e k p dry wet (tables.over_water wet) (tables.over_ice wet) is.w is.i s there is.entries ∙ sym is.e in
      let saturation = near_one water dry (tables.over_water dry) h.saturation.0 (tabled.of_water dry in_dry) is.saturation in
      both (minute_right_lem m 4 a.0 (lit< tt) refl)
      (humidity_taken dew ruled-dew h
      (writable_of s dry wet p k h is in_dry (rw (saturation, same) at under.0) (rw same at enough.0)))
