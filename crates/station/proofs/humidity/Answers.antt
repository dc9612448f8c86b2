-- `humidity` meets its contract: each step's tests, then those of the next, the psychrometer's work at the end. Assumes nothing.
use mathlib.Core.Path.{◌≡◌, refl, sym, ap}
use mathlib.Core.List.{List, ◌++◌}
use Prim.Native.Nat.{ℕ}
use lib.Dec.{lit<}
use lib.IntN.{ℤ}
use Rattle.std.specs.Prelude.{Result, Ok, Err}
use Rattle.std.proofs.lemmas.Result.{err_from_is_err_and}
use Rattle.number.specs.Refusal.{plain}
use Rattle.message.specs.Receive.{entry_of}
use Rattle.quantity.specs.declared.BulbState.{BulbState}
use Rattle.quantity.specs.declared.BulbTemperature.{BulbTemperature}
use Rattle.cell.specs.Cells.{recalled, is_present}
use Rattle.store.specs.Block.{recall_of}
use Rattle.vapour.specs.Vapour.{Tables, AreTables}
use Rattle.humidity.specs.Humidity.{moisture_tests, IsMoisture}
use Rattle.humidity.specs.declared.HumidityFigures.{HumidityFigures}
use Rattle.humidity.specs.declared.HumidityRefusal.{HumidityRefusal}
use Rattle.station.specs.Source.{held, in_celsius, state_in}
use Rattle.station.specs.Questions.{Answers, dry_at, wet_at, state_at, station_at, vapour_at, HumidityRule, foreign}
use Rattle.station.specs.Parts.{barometer_is, dry_bulb_is, wet_bulb_is}
use Rattle.station.proofs.AnswerLaws.{refuses, goes_on, by_rule, retold}
use Rattle.station.proofs.KeptLaws.{first_inside}
use Rattle.station.proofs.KindLaws.{reads_kind}
use Rattle.station.proofs.HumidityLaws.{asked, as_refused, moisture_told, moisture_of}
use Rattle.station.proofs.humidity.Goals as goal

-- what both bulbs come to at the station pressure
worked : (s : List ℕ) (m : ℕ) (dry : BulbTemperature) (wet : BulbState × BulbTemperature) {p a : ℤ} (h : Result HumidityFigures HumidityRefusal)
    → recall_of s 4 m ≡ recalled (entry_of m (dry_bulb_is dry)) → recall_of s 5 m ≡ recalled (entry_of m (wet_bulb_is wet))
    → p ≡ station_at (held s) m → a ≡ (held s).psychrometer → IsMoisture wet.0 dry.0.v wet.1.0.v p a h → (tables : Tables) → AreTables tables
    → let S = held s in
    Answers (foreign S m ++ plain (moisture_tests (state_at S m) (dry_at S m) (wet_at S m) (tables.over_water (dry_at S m)) (vapour_at tables S m)))
    (HumidityRule S m) (asked h)
worked s m dry wet h is_dry is_wet is_p is_a is tables tabled =
    let S = held s in
    moisture_told (state_at S m) (dry_at S m) (wet_at S m) (station_at S m) S.psychrometer tables tabled
    (first_inside s 4 m (lit< tt) (ap is_present is_dry)) (first_inside s 5 m (lit< tt) (ap is_present is_wet)) h
    (moisture_of h (sym (ap state_in is_wet)) (sym (ap in_celsius is_dry)) (sym (ap in_celsius is_wet)) is_p is_a is)

pub returns-in_err-begin : goal.returns-in_err-begin
returns-in_err-begin c =
    let p = err_from_is_err_and c.from_residual.result c.from_residual.ensures.1 in
    rw (p.1, p.2) (λ tables tabled. refuses _ _ _ _ _ c.in_err-begin.ensures, refl)

pub returns-in_err-reading : goal.returns-in_err-reading
returns-in_err-reading c =
    let p = err_from_is_err_and c.from_residual-in_err-reading.result c.from_residual-in_err-reading.ensures.1 in
    let reading = reads_kind c.args.store.now 0 c.args.minute barometer_is _ c.barometer_at.ensures _ c.in_err-reading.ensures.value in
    rw (p.1, p.2) (λ tables tabled. goes_on _ _ _ _ _ _ c.in_ok-begin.ensures (refuses _ _ _ _ _ reading), refl)

pub returns-in_err-dry : goal.returns-in_err-dry
returns-in_err-dry c =
    let p = err_from_is_err_and c.from_residual-in_err-dry.result c.from_residual-in_err-dry.ensures.1 in
    let reading = reads_kind c.args.store.now 0 c.args.minute barometer_is _ c.barometer_at.ensures _ c.in_ok-reading.ensures.value in
    let dry = reads_kind c.args.store.now 4 c.args.minute dry_bulb_is _ c.dry_bulb_at.ensures _ c.in_err-dry.ensures.value in
    rw (p.1, p.2) (λ tables tabled. goes_on _ _ _ _ _ _ c.in_ok-begin.ensures (goes_on _ _ _ _ _ _ reading (refuses _ _ _ _ _ dry)), refl)

pub returns-in_err-state : goal.returns-in_err-state
returns-in_err-state c =
    let p = err_from_is_err_and c.from_residual-in_err-state.result c.from_residual-in_err-state.ensures.1 in
    let reading = reads_kind c.args.store.now 0 c.args.minute barometer_is _ c.barometer_at.ensures _ c.in_ok-reading.ensures.value in
    let dry = reads_kind c.args.store.now 4 c.args.minute dry_bulb_is _ c.dry_bulb_at.ensures _ c.in_ok-dry.ensures.value in
    let state = reads_kind c.args.store.now 5 c.args.minute wet_bulb_is _ c.wet_bulb_at.ensures _ c.in_err-state.ensures.value in
    rw (p.1, p.2) (λ tables tabled. goes_on _ _ _ _ _ _ c.in_ok-begin.ensures (goes_on _ _ _ _ _ _ reading (goes_on _ _ _ _ _ _ dry (refuses _ _ _ _ _ state))), refl)

pub station_pressure-requires : goal.station_pressure-requires
station_pressure-requires c =
    let reading = reads_kind c.args.store.now 0 c.args.minute barometer_is _ c.barometer_at.ensures _ c.in_ok-reading.ensures.value in
    by_rule _ _ _ reading

pub returns-in_err-p : goal.returns-in_err-p
returns-in_err-p c =
    let p = err_from_is_err_and c.from_residual-in_err-p.result c.from_residual-in_err-p.ensures.1 in
    let reading = reads_kind c.args.store.now 0 c.args.minute barometer_is _ c.barometer_at.ensures _ c.in_ok-reading.ensures.value in
    let dry = reads_kind c.args.store.now 4 c.args.minute dry_bulb_is _ c.dry_bulb_at.ensures _ c.in_ok-dry.ensures.value in
    let state = reads_kind c.args.store.now 5 c.args.minute wet_bulb_is _ c.wet_bulb_at.ensures _ c.in_ok-state.ensures.value in
    rw (p.1, p.2) (
      λ tables tabled.
          goes_on _ _ _ _ _ _ c.in_ok-begin.ensures
          (goes_on _ _ _ _ _ _ reading (goes_on _ _ _ _ _ _ dry (goes_on _ _ _ _ _ _ state (refuses _ _ _ _ _ c.in_err-p.ensures)))),
      refl,
    )

pub returns-in_err-figures : goal.returns-in_err-figures
returns-in_err-figures c =
    let p = err_from_is_err_and c.from_residual-in_err-figures.result c.from_residual-in_err-figures.ensures.1 in
    let s = c.args.store.now in
    let m = c.args.minute in
    let reading = reads_kind c.args.store.now 0 c.args.minute barometer_is _ c.barometer_at.ensures _ c.in_ok-reading.ensures.value in
    let dry = reads_kind c.args.store.now 4 c.args.minute dry_bulb_is _ c.dry_bulb_at.ensures _ c.in_ok-dry.ensures.value in
    let state = reads_kind c.args.store.now 5 c.args.minute wet_bulb_is _ c.wet_bulb_at.ensures _ c.in_ok-state.ensures.value in
    let r = c.in_err-figures.field-0.0 in
    rw (p.1, p.2) (
      λ tables tabled.
          goes_on _ _ _ _ _ _ c.in_ok-begin.ensures
          (goes_on _ _ _ _ _ _ reading (goes_on _ _ _ _ _ _ dry (goes_on _ _ _ _ _ _ state (goes_on _ _ _ _ _ _ c.in_ok-p.ensures
          (retold _ _ (as_refused r) (worked s m c.in_ok-dry.dry (c.in_ok-state.state, c.in_ok-state.wet) (Err r) (by_rule _ _ _ dry) (by_rule _ _ _ state) (by_rule _ _ _ c.in_ok-p.ensures) c.psychrometer.ensures c.in_err-figures.ensures tables tabled)))))),
      refl,
    )

pub returns : goal.returns
returns c =
    let s = c.args.store.now in
    let m = c.args.minute in
    let reading = reads_kind c.args.store.now 0 c.args.minute barometer_is _ c.barometer_at.ensures _ c.in_ok-reading.ensures.value in
    let dry = reads_kind c.args.store.now 4 c.args.minute dry_bulb_is _ c.dry_bulb_at.ensures _ c.in_ok-dry.ensures.value in
    let state = reads_kind c.args.store.now 5 c.args.minute wet_bulb_is _ c.wet_bulb_at.ensures _ c.in_ok-state.ensures.value in (
      λ tables tabled.
          goes_on _ _ _ _ _ _ c.in_ok-begin.ensures
          (goes_on _ _ _ _ _ _ reading (goes_on _ _ _ _ _ _ dry (goes_on _ _ _ _ _ _ state (goes_on _ _ _ _ _ _ c.in_ok-p.ensures
          (worked s m c.in_ok-dry.dry (c.in_ok-state.state, c.in_ok-state.wet) (Ok c.in_ok-figures.figures) (by_rule _ _ _ dry) (by_rule _ _ _ state) (by_rule _ _ _ c.in_ok-p.ensures) c.psychrometer.ensures c.in_ok-figures.ensures tables tabled))))),
      refl,
    )
