-- The public contract of this crate allows a single answer. Assumes nothing.
use Rattle.number.specs.Single.{Single}
use Rattle.wind.proofs.WindTheorems.{single_wind}
use Rattle.wind.proofs.true_wind.Reads as true-wind

pub single_true_wind : Single true-wind.Post
single_true_wind κs a r r' s s' p q = single_wind _ _ _ _ r r' p q
