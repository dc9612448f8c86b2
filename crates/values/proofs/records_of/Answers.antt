-- `records_of` meets its contract: each record is that of its place. Assumes nothing.
use Rattle.std.proofs.Common.{rules, tests}
use Rattle.watchfile.specs.Format.{blank}
use Rattle.values.specs.Values.{record_of, records_of}
use Rattle.values.proofs.ValueLaws.{each_made}
use Rattle.values.proofs.records_of.Goals as goal

pub returns : goal.returns
unfolding records_of
returns c = each_made (record_of c.args.numbers.now c.args.words) 48 blank _ c.from_fn.ensures.items (λ i y q h k. search (rules, tests))
