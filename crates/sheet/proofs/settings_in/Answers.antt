-- `settings_in` meets its contract: setting by setting, and each point that of its place. Assumes nothing.
use Rattle.std.proofs.Common.{rules, tests}
use Rattle.settings.specs.Settings.{nowhere, no_rate}
use Rattle.block.proofs.ListedLaws.{made_listed}
use Rattle.sheet.specs.Sheet.{point_in, rate_in}
use Rattle.sheet.proofs.settings_in.Goals as goal

pub returns : goal.returns
returns c =
    rw (
      made_listed (rate_in c.args.sheet.now) 20 no_rate _ c.from_fn-2.ensures.items (λ i y q h k. search (rules, tests)),
      made_listed (point_in c.args.sheet.now) 16 nowhere _ c.from_fn.ensures.items (λ i y q h k. search (rules, tests)),
      c.number_at-4.ensures,
      c.number_at-3.ensures,
      c.number_at-2.ensures,
      c.number_at.ensures,
      c.unit_in.ensures,
    )
