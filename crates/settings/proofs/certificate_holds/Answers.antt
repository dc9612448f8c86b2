-- `certificate_holds` meets its contract: the number of points, then the points, then their order. Assumes nothing.
use mathlib.Core.Path.{sym, ◌∙◌}
use borrow.Author.Tests.{le-leb}
use Rattle.std.proofs.Common.{rules, tests}
use lib.ListN.{take}
use Rattle.std.proofs.lemmas.Fn.{always_returns_same}
use Rattle.std.proofs.lemmas.Iterator.{YieldsList-from_slice}
use Rattle.std.proofs.lemmas.Iterator.Search.{all_from_yields_List}
use Rattle.settings.specs.Settings.{nowhere, point_holds, rises, certificate_holds}
use Rattle.settings.proofs.EveryLaws.{every_listed, every_sorted}
use Rattle.settings.proofs.certificate_holds.Goals as goal

pub returns-then-all : goal.returns-then-all
unfolding certificate_holds
returns-then-all c =
    rw (
      le-leb _ _ c.if-n-lt2.false,
      le-leb _ _ c.if-n-gt-POINTS.false,
      sym (every_listed nowhere c.args.points c.args.count (search rules) (point_holds c.args.unit)) ∙ sym (all_from_yields_List {all = take c.args.count c.args.points} (point_holds c.args.unit) _ _ _ c.all.ensures.ran (YieldsList-from_slice _ cc) (λ x b q k. search (rules, tests))) ∙ c.if-all.true,
    )
    (every_sorted nowhere c.args.points c.args.count (search rules) rises _ (c.is_sorted_by.ensures.cases rises (always_returns_same _ _ _ (λ a r k d. search (rules, tests)))))

pub returns-else-all : goal.returns-else-all
unfolding certificate_holds
returns-else-all c =
    rw (
      le-leb _ _ c.if-n-lt2.false,
      le-leb _ _ c.if-n-gt-POINTS.false,
      sym (every_listed nowhere c.args.points c.args.count (search rules) (point_holds c.args.unit)) ∙ sym (all_from_yields_List {all = take c.args.count c.args.points} (point_holds c.args.unit) _ _ _ c.all.ensures.ran (YieldsList-from_slice _ cc) (λ x b q k. search (rules, tests))) ∙ c.if-all.false,
    )
    c.if-all.false
