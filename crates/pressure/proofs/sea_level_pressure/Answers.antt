-- `sea_level_pressure` meets its contract: refusal 7, then 12, then the sum, which fits. Assumes nothing.
use mathlib.Core.Path.{◌≡◌, sym, ap}
use mathlib.Core.Bool.{true}
use native.Mathlib.Omega.{arith}
use lib.Dec.{lit≤}
use lib.IntN.{pos, neg_ℤ, nat_abs}
use Rattle.std.specs.Prelude.{Option, Some, None}
use Rattle.std.proofs.lemmas.Result.{err_from_is_err_and}
use Rattle.number.specs.declared.Number.{Number}
use Rattle.number.proofs.Sizes.{within_size}
use Rattle.quantity.specs.Limits.{inside, wheelhouse}
use Rattle.settings.proofs.HoldsLaws.{kept_inside}
use Rattle.pressure.specs.Pressure.{barometer_of}
use Rattle.pressure.specs.declared.PressureRefusal.{PressureRefusal}
use Rattle.pressure.specs.declared.PressureRefusal.TheVariants.{OutsideCertificate}
use Rattle.pressure.proofs.SizeLaws.{scale_stored, certified_stored}
use Rattle.pressure.proofs.AnswerLaws.{none_there, worked, sea_unit, sea_limits, sea_outside, sea_given}
use Rattle.pressure.proofs.sea_level_pressure.Goals as goal
use Rattle.pressure.proofs.sea_level_pressure.Goals.{then-not-in_unit-via-then-not-in_unit, then-not-in_unit-via-else-not-in_unit+then-not-holds}

pub returns-then-not-in_unit : goal.returns-then-not-in_unit
returns-then-not-in_unit c =
    let b = barometer_of c.args.store.now in
    elim c.then-not-in_unit.branch [
      | then-not-in_unit-via-then-not-in_unit w ↦ sea_unit b c.args.reading c.unit-unit.ensures c.args.wheelhouse.0.v (sym w.if-not-in_unit.ensures)
      | then-not-in_unit-via-else-not-in_unit+then-not-holds w ↦
          sea_limits b c.args.reading c.unit-unit.ensures c.args.wheelhouse.0.v (sym w.if-not-in_unit.ensures)
          (kept_inside wheelhouse w.holds.ensures w.number.ensures.value w.if-not-holds.true)
    ]

pub returns-in_err-scale : goal.returns-in_err-scale
returns-in_err-scale c =
    let b = barometer_of c.args.store.now in
    let warm : inside wheelhouse c.args.wheelhouse.0.v ≡ true = kept_inside wheelhouse c.holds.ensures c.number.ensures.value c.if-not-holds.false in
    let none : c.scale_correction.result ≡ None = grind arith in
    let why : c.in_err-scale.field-0.0 ≡ OutsideCertificate = grind arith in
    let p = err_from_is_err_and c.from_residual.result c.from_residual.ensures.1 in
    rw (p.1, p.2, why)
    (sea_outside b c.args.reading c.unit-unit.ensures c.tenths_in-tenths.ensures c.args.wheelhouse.0.v (sym c.if-not-in_unit.ensures) warm
    (none_there b c.tenths_in-tenths.result.v none c.scale_correction.ensures))

pub corrected-all-requires : goal.corrected-all-requires
corrected-all-requires c =
    let r = c.tenths_in-tenths.result.v in
    let s = c.args.store.now in
    let some : c.scale_correction.result ≡ Some c.in_ok-scale.scale = grind arith in
    let w = worked (barometer_of s) r some c.scale_correction.ensures in
    let warm : inside wheelhouse c.args.wheelhouse.0.v ≡ true = kept_inside wheelhouse c.holds.ensures c.number.ensures.value c.if-not-holds.false in (
      certified_stored s r w.there,
      omega (arith, ap nat_abs w.is, scale_stored s r),
      within_size (neg_ℤ (pos 400)) (pos 600) c.args.wheelhouse.0.v 600 (lit≤ tt) (lit≤ tt) warm,
    )

pub returns : goal.returns
returns c =
    let b = barometer_of c.args.store.now in
    let some : c.scale_correction.result ≡ Some c.in_ok-scale.scale = grind arith in
    let warm : inside wheelhouse c.args.wheelhouse.0.v ≡ true = kept_inside wheelhouse c.holds.ensures c.number.ensures.value c.if-not-holds.false in
    sea_given b c.args.reading c.unit-unit.ensures c.tenths_in-tenths.ensures c.args.wheelhouse.0.v (sym c.if-not-in_unit.ensures) warm
    (worked b c.tenths_in-tenths.result.v some c.scale_correction.ensures)
    c.corrected-all.ensures.value c.rounded_once.ensures
