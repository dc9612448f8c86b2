-- `anemometer_holds` meets its contract: the number of points, then the points, then their order. Assumes nothing.
use mathlib.Core.Path.{sym, ◌∙◌}
use borrow.Author.Tests.{ne_eqb, le-leb}
use Rattle.std.proofs.Common.{rules, tests}
use lib.ListN.{take}
use Rattle.std.proofs.lemmas.Fn.{always_returns_same}
use Rattle.std.proofs.lemmas.Iterator.{YieldsList-from_slice}
use Rattle.std.proofs.lemmas.Iterator.Search.{all_from_yields_List}
use Rattle.settings.specs.Settings.{no_rate, rate_point_holds, rates_rise, anemometer_holds}
use Rattle.settings.proofs.EveryLaws.{every_listed, every_sorted}
use Rattle.settings.proofs.anemometer_holds.Goals as goal

pub returns-then-all : goal.returns-then-all
unfolding anemometer_holds
returns-then-all c =
    rw (
      ne_eqb _ _ c.if-n-eq0.false,
      le-leb _ _ c.if-n-lt2.false,
      le-leb _ _ c.if-n-gt-RATES.false,
      sym (every_listed no_rate c.args.points c.args.count (search rules) rate_point_holds) ∙ sym (all_from_yields_List {all = take c.args.count c.args.points} rate_point_holds _ _ _ c.all.ensures.ran (YieldsList-from_slice _ cc) (λ x b q k. search (rules, tests))) ∙ c.if-all.true,
    )
    (every_sorted no_rate c.args.points c.args.count (search rules) rates_rise _ (c.is_sorted_by.ensures.cases rates_rise (always_returns_same _ _ _ (λ a r k d. search (rules, tests)))))

pub returns-else-all : goal.returns-else-all
unfolding anemometer_holds
returns-else-all c =
    rw (
      ne_eqb _ _ c.if-n-eq0.false,
      le-leb _ _ c.if-n-lt2.false,
      le-leb _ _ c.if-n-gt-RATES.false,
      sym (every_listed no_rate c.args.points c.args.count (search rules) rate_point_holds) ∙ sym (all_from_yields_List {all = take c.args.count c.args.points} rate_point_holds _ _ _ c.all.ensures.ran (YieldsList-from_slice _ cc) (λ x b q k. search (rules, tests))) ∙ c.if-all.false,
    )
    c.if-all.false
