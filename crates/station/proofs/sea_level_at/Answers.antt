-- `sea_level_at` meets its contract: where both readings are there, what they come to. Assumes nothing.
use Rattle.std.proofs.lemmas.Result.{err_from_is_err_and}
use Rattle.station.proofs.AnswerLaws.{refused_so, told_so, by_rule}
use Rattle.station.proofs.sea_level_at.Goals as goal

pub returns-in_err-readings : goal.returns-in_err-readings
returns-in_err-readings c =
    let p = err_from_is_err_and c.from_residual.result c.from_residual.ensures.1 in
    rw (p.1, p.2) (refused_so _ _ _ _ c.in_err-readings.ensures)

pub sea_level-requires : goal.sea_level-requires
sea_level-requires c = by_rule _ _ _ c.in_ok-readings.ensures

pub returns : goal.returns
returns c =
    let are = by_rule _ _ _ c.in_ok-readings.ensures in
    told_so _ _ _ _ _ (record { readings = c.in_ok-readings.readings; are = are; sea_level = c.sea_level.ensures }) c.in_ok-readings.ensures
