-- `anemometer_of` meets its contract: each point is that of its place. Assumes nothing.
use Rattle.std.proofs.Common.{rules, tests}
use Rattle.settings.specs.Settings.{no_rate}
use Rattle.values.specs.Values.{rate_point_of}
use Rattle.values.proofs.ValueLaws.{each_made}
use Rattle.values.proofs.anemometer_of.Goals as goal

pub returns : goal.returns
returns c =
    rw (
      c.count_of.ensures,
      each_made (rate_point_of c.args.numbers.now c.args.b c.saturating_sub-n.result) 20 no_rate _ c.from_fn.ensures.items (λ i y q h k. search (rules, tests)),
      c.saturating_sub-n.ensures,
      c.saturating_sub.ensures,
    )
