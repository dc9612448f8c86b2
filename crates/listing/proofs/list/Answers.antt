-- `list` meets its contract: where there is room for every listing, this one is put there; else it is put elsewhere first. Assumes
-- nothing.
use native.Mathlib.Omega.{arith}
use Rattle.listing.proofs.FitLaws.{listing_fits}
use Rattle.listing.proofs.ListLaws.{lists_straight}
use Rattle.listing.proofs.list.Goals as goal

pub returns : goal.returns
returns c =
    λ rule ruled.
    let fits = listing_fits rule c.args.file.now (λ i. (c.type_inv.file i).fits) (omega arith) in
    lists_straight (omega (arith, fits, c.if-text-lt-TEXT.false)) (c.put_whole.ensures rule ruled)
