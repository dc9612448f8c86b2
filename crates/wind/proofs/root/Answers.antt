-- `root` meets its contract: the bisection parts those that the root reaches from the others. Assumes nothing.
use Rattle.std.proofs.Common.{rules}
use Rattle.quantity.specs.Limits.{highest_wind}
use Rattle.wind.specs.Work.{reaches}
use Rattle.wind.proofs.SpeedLaws.{root_parted, reaches_falls}
use Rattle.wind.proofs.root.Goals as goal

pub returns : goal.returns
returns c =
    root_parted c.args.n c.passing.result c.requires
    (c.passing.ensures (reaches c.args.n) (λ i r h gives. search rules) (reaches_falls c.args.n highest_wind))
