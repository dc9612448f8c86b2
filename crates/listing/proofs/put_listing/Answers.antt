-- `put_listing` meets its contract: the first line, and those of the records behind it. Assumes nothing.
use native.Mathlib.Omega.{arith}
use Rattle.text.proofs.PutLaws.{put_inside, then}
use Rattle.listing.proofs.put_listing.Goals as goal

pub put_records-requires : goal.put_records-requires
put_records-requires c = let z = put_inside c.put_line.ensures.put in omega arith

pub returns : goal.returns
returns c = then c.put_line.ensures c.put_records.ensures
