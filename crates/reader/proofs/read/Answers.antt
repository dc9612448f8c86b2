-- `read` meets its contract: contents that are right are whole. Assumes nothing.
use Prim.Native.Nat.{◌≤◌}
use lib.ListN.{length}
use borrow.Author.Tests.{leb-true}
use Rattle.reader.proofs.ReadLaws.{contents_good, contents_whole}
use Rattle.reader.proofs.read.Goals as goal

pub bodies-requires : goal.bodies-requires
bodies-requires c =
    let s = c.args.file.now in
    let n = c.in_ok-count.field-0 in
    let good = contents_good s n c.in_ok-contents.field-0 c.in_ok-contents.ensures in
    let few : n ≤ 48 = leb-true n 48 c.in_ok-right-3.ensures in
    let counted : 4 ≤ length s = c.in_ok-count.ensures.0 in
    (few, good, contents_whole s n counted good)
