-- `humidity` meets its contract: a bulb outside the table is outside its limits; else the wet bulb decides, or e and saturation. Assumes
-- nothing.
use mathlib.Core.Path.{sym, ◌∙◌}
use Rattle.number.proofs.Sizes.{and_true}
use Rattle.quantity.specs.Limits.{inside, bulb}
use Rattle.vapour.proofs.TableLaws.{entry_range}
use Rattle.humidity.proofs.MoistureLaws.{outside}
use Rattle.humidity.proofs.humidity.Goals as goal

pub returns-in_default : goal.returns-in_default
returns-in_default c =
    let x = c.args in
    outside x.state x.dry.0.v x.wet.0.v x.pressure.0.v x.a.0.v (rw c.in_default.ensures)

pub returns-then-not-others_hold : goal.returns-then-not-others_hold
returns-then-not-others_hold c =
    let x = c.args in
    outside x.state x.dry.0.v x.wet.0.v x.pressure.0.v x.a.0.v (rw (c.in-Some.ensures.0, sym c.others_hold.ensures ∙ c.if-not-others_hold.true))

pub by_vapour-requires : goal.by_vapour-requires
by_vapour-requires c =
    let dry = c.args.dry.0.v in
    (entry_range dry c.in-Some.entries.dry.0 (and_true (inside bulb dry) (inside bulb c.args.wet.0.v) c.in-Some.ensures.0).0 c.in-Some.ensures.1).1
