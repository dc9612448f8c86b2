-- `readings_at` meets its contract: one reading after the other. Assumes nothing.
use mathlib.Core.List.{[]}
use Rattle.std.proofs.lemmas.Result.{err_from_is_err_and}
use Rattle.station.specs.Parts.{barometer_is, wheelhouse_is}
use Rattle.station.proofs.AnswerLaws.{refuses, goes_on, by_rule, end}
use Rattle.station.proofs.KindLaws.{reads_channel}
use Rattle.station.proofs.readings_at.Goals as goal

pub returns-in_err-barometer : goal.returns-in_err-barometer
returns-in_err-barometer c =
    let p = err_from_is_err_and c.from_residual.result c.from_residual.ensures.1 in
    let barometer = reads_channel c.args.store.now 0 c.args.minute barometer_is _ c.barometer_at.ensures _ c.in_err-barometer.ensures.value in
    rw (p.1, p.2) (refuses _ _ _ _ _ barometer)

pub returns-in_err-wheelhouse : goal.returns-in_err-wheelhouse
returns-in_err-wheelhouse c =
    let p = err_from_is_err_and c.from_residual-in_err-wheelhouse.result c.from_residual-in_err-wheelhouse.ensures.1 in
    let barometer = reads_channel c.args.store.now 0 c.args.minute barometer_is _ c.barometer_at.ensures _ c.in_ok-barometer.ensures.value in
    let wheelhouse = reads_channel c.args.store.now 1 c.args.minute wheelhouse_is _ c.wheelhouse_at.ensures _ c.in_err-wheelhouse.ensures.value in
    rw (p.1, p.2) (goes_on _ _ _ _ _ _ barometer (refuses _ [] _ _ _ wheelhouse))

pub returns : goal.returns
returns c =
    let barometer = reads_channel c.args.store.now 0 c.args.minute barometer_is _ c.barometer_at.ensures _ c.in_ok-barometer.ensures.value in
    let wheelhouse = reads_channel c.args.store.now 1 c.args.minute wheelhouse_is _ c.wheelhouse_at.ensures _ c.in_ok-wheelhouse.ensures.value in
    goes_on _ _ _ _ _ _ barometer (goes_on _ [] _ _ _ _ wheelhouse (end _ _ (record { barometer = by_rule _ _ _ barometer; wheelhouse = by_rule _ _ _ wheelhouse })))
