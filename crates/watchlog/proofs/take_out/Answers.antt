-- `take_out` meets its contract: a broken file is refused, and else what was read is written without the one. Assumes nothing.
use mathlib.Core.Path.{refl, ap, ◌∙◌}
use Rattle.std.specs.Prelude.{Err}
use Rattle.std.proofs.lemmas.Result.{err_from_is_err_and}
use native.Mathlib.Omega.{arith}
use lib.ListN.{length, take, length-take}
use Rattle.octets.proofs.ByteLaws.{bytes_take}
use Rattle.watchfile.specs.Format.{reading}
use Rattle.watchfile.proofs.DewRules.{the_rule}
use Rattle.number.specs.Refusal.{refused, given}
use Rattle.watchlog.specs.Placing.{placed_as, taken_in}
use Rattle.watchlog.proofs.PlaceLaws.{broken_there, good_there, good_few, leaves_read}
use Rattle.watchlog.proofs.take_out.Goals as goal

pub slice_bounds-read-end-2 : goal.slice_bounds-read-end-2
slice_bounds-read-end-2 c = omega (arith, length-take c.min-end.result c.args.file.now)

pub slice_bounds-records_in-end : goal.slice_bounds-records_in-end
slice_bounds-records_in-end c = omega (arith, length-take c.min-end.result c.args.file.now)

pub write_without-requires : goal.write_without-requires
write_without-requires c =
    let file = c.args.file.now in
    let end = c.min-end.result in
    good_few the_rule.0 (take end file) (bytes_take file end (λ i. (c.slice_known-1.given i).fits)) c.read.result c.in_ok-count.count
    (c.read.ensures the_rule.0 the_rule.1) c.in_ok-count.was

pub returns-in_err-count : goal.returns-in_err-count
returns-in_err-count c =
    λ rule ruled.
    let q = c.args in
    leaves_read rule (taken_in rule q.minute q.kind (length q.file.now)) q.size c.min-end.result q.file.now q.file.now _
    (refused c.in_err-count.field-0.0.0) c.min-end.ensures
    (broken_there (reading rule (take c.min-end.result q.file.now)) c.read.result c.in_err-count.field-0.0 (c.read.ensures rule ruled) c.in_err-count.was)
    (record { answer = let p = err_from_is_err_and c.from_residual.result c.from_residual.ensures.1 in ap placed_as (p.1 ∙ ap Err p.2); bytes = refl })

pub returns : goal.returns
returns c =
    λ rule ruled.
    let q = c.args in
    let file = q.file.now in
    let good = good_there rule (take c.min-end.result file) (bytes_take file c.min-end.result (λ i. (c.slice_known-1.given i).fits)) c.read.result c.records_in-records.result c.in_ok-count.count (c.read.ensures rule ruled) c.in_ok-count.was c.records_in-records.ensures in
    leaves_read rule (taken_in rule q.minute q.kind (length file)) q.size c.min-end.result file c.write_without.new.file c.write_without.result
    (given (take c.in_ok-count.count c.records_in-records.result)) c.min-end.ensures good (c.write_without.ensures rule ruled)
