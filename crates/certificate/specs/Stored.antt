-- What the private functions ask of a corner, so that each product fits: its figures are no larger than a word and a scale can make them.
use Rattle.std.specs.Prelude.{◌≤◌, ◌^◌, nat_abs}
use Rattle.certificate.specs.declared.Corner.{Corner}

pub record Stored (p : Corner) : Type 0 where
  pub reads : nat_abs p.reads.v ≤ 2 ^ 31
  pub gives : nat_abs p.gives.v ≤ 2 ^ 15
