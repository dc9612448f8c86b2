-- `keep` meets its contract: the channel's own part of the block is lent, and comes back as the window says. Assumes nothing.
use Rattle.block.proofs.BlockLaws.{span}
use Rattle.store.proofs.HearLaws.{cell_kept}
use Rattle.store.proofs.keep.Goals as goal

pub returns : goal.returns
returns c =
    let a = c.args in
    rw (span a.c) (cell_kept a.store.now a.c a.minute a.v c.requires.0 c.requires.1 c.requires.2 c.accept.new.window c.accept.result (rw (span a.c) at c.accept.ensures))
