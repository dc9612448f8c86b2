-- `list_short` meets its contract: the listing, put whole into room for every listing, is put from there into the lent bytes where they
-- are enough. Assumes nothing.
use native.Mathlib.Omega.{arith}
use lib.ListN.{length-take}
use borrow.Author.Rules.{rules}
use Rattle.watchfile.proofs.DewRules.{the_rule}
use Rattle.text.proofs.PutLaws.{put_inside}
use Rattle.listing.proofs.FitLaws.{listing_fits}
use Rattle.listing.proofs.ListLaws.{lists_none, lists_all, put_from}
use Rattle.listing.proofs.list_short.Goals as goal

pub returns-then-short : goal.returns-then-short
returns-then-short c =
    λ rule ruled.
    let fits = listing_fits rule c.args.file.now (λ i. (c.type_inv.file i).fits) (omega arith) in
    lists_none fits (c.put_whole-n.ensures rule ruled) c.if-short.true

pub slice_bounds-whole-end : goal.slice_bounds-whole-end
slice_bounds-whole-end c =
    let inside = put_inside (c.put_whole-n.ensures the_rule.0 the_rule.1) in
    omega arith

pub slice_bounds-bytes-end : goal.slice_bounds-bytes-end
slice_bounds-bytes-end c =
    let inside = put_inside (c.put_whole-n.ensures the_rule.0 the_rule.1) in
    omega (arith, length-take c.put_whole-n.result c.put_whole-n.new.text)

pub returns : goal.returns
returns c =
    λ rule ruled.
    let fits = listing_fits rule c.args.file.now (λ i. (c.type_inv.file i).fits) (omega arith) in
    lists_all fits (c.put_whole-n.ensures rule ruled) _ (search rules) c.if-short.false (put_from c.new.ensures c.bytes.ensures)
