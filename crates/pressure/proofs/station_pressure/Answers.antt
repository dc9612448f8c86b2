-- `station_pressure` meets its contract: refusal 7, then 12, then the sum, which fits. Assumes nothing.
use mathlib.Core.Path.{◌≡◌, sym, ap}
use native.Mathlib.Omega.{arith}
use lib.IntN.{nat_abs}
use Rattle.std.specs.Prelude.{Option, Some, None}
use Rattle.std.proofs.lemmas.Result.{err_from_is_err_and}
use Rattle.number.specs.declared.Number.{Number}
use Rattle.pressure.specs.Pressure.{barometer_of}
use Rattle.pressure.specs.declared.PressureRefusal.{PressureRefusal}
use Rattle.pressure.specs.declared.PressureRefusal.TheVariants.{OutsideCertificate}
use Rattle.pressure.proofs.SizeLaws.{scale_stored, certified_stored}
use Rattle.pressure.proofs.AnswerLaws.{none_there, worked, station_unit, station_outside, station_given}
use Rattle.pressure.proofs.station_pressure.Goals as goal

pub returns-then-not-in_unit : goal.returns-then-not-in_unit
returns-then-not-in_unit c = station_unit (barometer_of c.args.store.now) c.args.reading c.unit-unit.ensures (sym c.if-not-in_unit.ensures)

pub returns-in_err-scale : goal.returns-in_err-scale
returns-in_err-scale c =
    let b = barometer_of c.args.store.now in
    let none : c.scale_correction.result ≡ None = grind arith in
    let why : c.in_err-scale.field-0.0 ≡ OutsideCertificate = grind arith in
    let p = err_from_is_err_and c.from_residual.result c.from_residual.ensures.1 in
    rw (p.1, p.2, why)
    (station_outside b c.args.reading c.unit-unit.ensures c.tenths_in-tenths.ensures (sym c.if-not-in_unit.ensures)
    (none_there b c.tenths_in-tenths.result.v none c.scale_correction.ensures))

pub plus-requires : goal.plus-requires
plus-requires c =
    let r = c.tenths_in-tenths.result.v in
    let s = c.args.store.now in
    let some : c.scale_correction.result ≡ Some c.in_ok-scale.scale = grind arith in
    let w = worked (barometer_of s) r some c.scale_correction.ensures in
    omega (arith, certified_stored s r w.there, ap nat_abs w.is, scale_stored s r)

pub in_hectopascals-requires : goal.in_hectopascals-requires
in_hectopascals-requires c =
    let r = c.tenths_in-tenths.result.v in
    let s = c.args.store.now in
    let some : c.scale_correction.result ≡ Some c.in_ok-scale.scale = grind arith in
    let w = worked (barometer_of s) r some c.scale_correction.ensures in
    omega (arith, c.plus.ensures.size, certified_stored s r w.there, ap nat_abs w.is, scale_stored s r)

pub returns : goal.returns
returns c =
    let b = barometer_of c.args.store.now in
    let some : c.scale_correction.result ≡ Some c.in_ok-scale.scale = grind arith in
    station_given b c.args.reading c.unit-unit.ensures c.tenths_in-tenths.ensures (sym c.if-not-in_unit.ensures)
    (worked b c.tenths_in-tenths.result.v some c.scale_correction.ensures)
    c.plus.ensures.value c.in_hectopascals.ensures
