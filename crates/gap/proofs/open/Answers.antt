-- `open` meets its contract: the settings are good, and an opened store remembers nothing. Assumes nothing.
use Rattle.std.proofs.Common.{List, [], ℕ, sym, ap, subst, ◌∙◌}
use Rattle.settings.specs.Settings.{checked}
use Rattle.store.specs.Block.{opened_by}
use Rattle.store.specs.History.{Remembers}
use Rattle.gap.specs.Watch.{ship}
use Rattle.gap.proofs.WatchLaws.{good_opens, opened_well}
use Rattle.gap.proofs.open.Goals as goal

pub expect-requires : goal.expect-requires
expect-requires c = c.is_ok.ensures.value ∙ good_opens c.«open».result (c.«open».ensures.0 ∙ ap checked c.settings.ensures)

pub returns : goal.returns
returns c =
    let s = c.args.store.now in
    let after = c.«open».ensures.1 ∙ ap (opened_by s) c.settings.ensures in
    subst (λ (x : List ℕ). Remembers x ship []) (sym after) (opened_well s)
