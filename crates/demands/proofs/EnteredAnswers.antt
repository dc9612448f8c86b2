-- Every figure that a station answers with makes the record of that figure, with its own sign, and a watch file takes it. Assumes nothing.
use mathlib.Core.Path.{◌≡◌, refl, sym, ap, subst, ◌∙◌}
use mathlib.Core.Bool.{true}
use mathlib.Core.List.{List}
use Prim.Native.Nat.{ℕ}
use lib.IntN.{ℤ, pos, negsuc, nat_abs}
use Rattle.number.specs.Refusal.{given}
use Rattle.number.proofs.Sizes.{impossible}
use Rattle.quantity.specs.Limits.{inside, recorded_pressure}
use Rattle.settings.specs.Settings.{checked}
use Rattle.settings.specs.declared.Settings.{Settings}
use Rattle.std.specs.Prelude.{Option, Some, Ok, Err}
use Rattle.wind.specs.declared.Wind.{Wind}
use Rattle.vapour.proofs.TablesExist.{the_tables}
use Rattle.store.specs.History.{Sent}
use Rattle.station.specs.Source.{heard}
use Rattle.station.specs.Questions.{Asked, pressure, tendency, wind, humidity, question, Reply, Tells}
use Rattle.station.specs.Told.{Change}
use Rattle.watchfile.specs.Format.{DewRule, record_right}
use Rattle.watchfile.specs.declared.Record.{Record}
use Rattle.watchfile.proofs.DewRules.{the_rule}
use Rattle.desk.specs.Records.{pressure_record, tendency_record, wind_record, humidity_record}
use Rattle.desk.specs.Entries.{pressure_entry, tendency_entry, wind_entry, humidity_entry}
use Rattle.desk.proofs.FitTheorems.{pressure_fits, tendency_fits, wind_fits, humidity_fits}
use Rattle.demands.specs.Working.{Enters}
use Rattle.demands.specs.Demands.{RecordOf}
use Rattle.demands.proofs.RecordLaws.{pressure_inside, pressure_record_lem, tendency_record_lem, wind_record_lem, humidity_record_lem}

-- what the desk's contracts say
entry_of : (q : Asked) → ℕ → Reply q → Option Record
entry_of pressure = pressure_entry
entry_of tendency = tendency_entry
entry_of wind = wind_entry
entry_of humidity = humidity_entry

enters : (q : Asked) (m : ℕ) (x : Reply q) (e : Option Record) → Enters q m x e → e ≡ entry_of q m x
unfolding entry_of
enters pressure m x e w = let which = w.5 in rw (sym which.0, sym which.1, sym which.2) w.4
enters tendency m x e w = let which = w.5 in rw (sym which.0, sym which.1, sym which.2) w.4
enters wind m x e w = let which = w.5 in rw (sym which.0, sym which.1, sym which.2) w.4
enters humidity m x e w = let which = w.5 in rw (sym which.0, sym which.1, sym which.2) w.4

-- a pressure that a file may record has no minus
own_sign : (z : ℤ) → inside recorded_pressure z ≡ true → z ≡ pos (nat_abs z)
own_sign (pos n) e = refl
own_sign (negsuc n) e = impossible (cc)

-- the record of an entry
record Recorded (q : Asked) (m : ℕ) (f : (question q).Figures) (e : Option Record) : Type 0 where
  the_record : Record
  entered : e ≡ Some the_record
  of_figures : RecordOf q m f the_record
  right : (dew : ℕ → ℤ) → DewRule dew → record_right dew 0 the_record ≡ true

module _ (g : Settings) (good : checked g ≡ given tt) (M : List Sent) (m : ℕ) where
  made : (q : Asked) (x : Reply q) → Tells q (heard g M) m x → (f : (question q).Figures) → (question q).told x ≡ given f → Recorded q m f (entry_of q m x)
  unfolding entry_of
  made pressure (Err n) w f e = impossible (cc)
  made pressure (Ok p) w f e =
      let is : p.0.v ≡ f = cc in
      let told = w the_tables.0 the_tables.1 in
      let within = pressure_inside g good M m p.0.v told in
      record {
        the_record = pressure_record m p.0.v;
        entered = pressure_fits m p within;
        of_figures = (subst (λ (z : ℤ). z ≡ pos (nat_abs z)) is (own_sign p.0.v within), ap (pressure_record m) is);
        right = λ dew ruled. pressure_record_lem g good M m p.0.v told dew;
      }
  made tendency (Err n) w f e = impossible (cc)
  made tendency (Ok b) w f e =
      let t : Change = record { change = b.change.0.v; absent = b.absent } in
      let is : t ≡ f = cc in
      let told = w the_tables.0 the_tables.1 in
      record {
        the_record = tendency_record m t;
        entered = tendency_fits the_rule.0 0 m b (tendency_record_lem g good M m t told the_rule.0);
        of_figures = ap (tendency_record m) is;
        right = λ dew ruled. tendency_record_lem g good M m t told dew;
      }
  made wind (Err n) w f e = impossible (cc)
  made wind (Ok b) w f e =
      let told = w the_tables.0 the_tables.1 in
      record {
        the_record = wind_record m b.speed b.direction;
        entered = wind_fits the_rule.0 0 m b (wind_record_lem g good M m b told the_rule.0);
        of_figures = let is : b ≡ f = cc in ap (λ (y : Wind). wind_record m y.speed y.direction) is;
        right = λ dew ruled. wind_record_lem g good M m b told dew;
      }
  made humidity (Err n) w f e = impossible (cc)
  made humidity (Ok h) w f e =
      record {
        the_record = humidity_record m h;
        entered = humidity_fits the_rule.0 0 m the_rule.1 h (humidity_record_lem g good M m h w the_rule.0 the_rule.1);
        of_figures = let is : h ≡ f = cc in ap (humidity_record m) is;
        right = λ dew ruled. humidity_record_lem g good M m h w dew ruled;
      }

  pub recorded : (q : Asked) (x : Reply q) → Tells q (heard g M) m x → (e : Option Record) → Enters q m x e → (f : (question q).Figures) → (question q).told x ≡ given f
      → (r : Record) × (e ≡ Some r) × (RecordOf q m f r) × ((dew : ℕ → ℤ) → DewRule dew → record_right dew 0 r ≡ true)
  recorded q x w e v f is =
      let a = made q x w f is in
      (a.the_record, enters q m x e v ∙ a.entered, a.of_figures, a.right)
