-- `reading` meets its contract: a figure that is kept is small. Assumes nothing.
use Rattle.store.proofs.RecallLaws.{is_kept}
use Rattle.kept.proofs.KeptLaws.{kept_small}
use Rattle.kept.proofs.reading.Goals as goal

pub figures_of-requires : goal.figures_of-requires
figures_of-requires c =
    let a = c.args in
    kept_small a.store.now a.channel a.minute c.in-Some.r c.if-channel-ge6.false (is_kept a.store.now a.channel a.minute c.recall.ensures c.in-Some.is)
