-- `settings_of` meets its contract: setting by setting, and each point that of its place. Assumes nothing.
use Rattle.std.proofs.Common.{rules, tests}
use Rattle.settings.specs.Settings.{nowhere}
use Rattle.values.specs.Values.{point_of, settings_of}
use Rattle.values.proofs.ValueLaws.{each_made}
use Rattle.values.proofs.settings_of.Goals as goal

pub returns : goal.returns
unfolding settings_of
returns c =
    rw (
      c.unit_of.ensures,
      c.at.ensures,
      c.kept_at.ensures,
      c.kept_at-2.ensures,
      c.kept_at-3.ensures,
      c.kept_at-4.ensures,
      c.count_of.ensures,
      c.anemometer_of.ensures,
      each_made (point_of c.args.numbers.now c.barometer_points-b.result) 16 nowhere _ c.from_fn.ensures.items (λ i y q h k. search (rules, tests)),
      c.barometer_points-b.ensures.0,
    )
