-- `ask_at_280` meets its contract: what the store answers after the messages up to minute 280. Assumes nothing.
use Rattle.std.proofs.Common.{eq-eqb, ◌∙◌}
use Rattle.gap.proofs.WatchLaws.{pressures_absent_280, temperatures_absent_280, pressure_at_100, pressure_at_280, temperature_at_100, temperature_at_280}
use Rattle.gap.proofs.ask_at_280.Goals as goal

pub expect-requires : goal.expect-requires
expect-requires c = eq-eqb c.missing_minutes.result 179 (c.missing_minutes.ensures ∙ pressures_absent_280 c.requires)

pub expect-requires-2 : goal.expect-requires-2
expect-requires-2 c = eq-eqb c.missing_minutes-2.result 179 (c.missing_minutes-2.ensures ∙ temperatures_absent_280 c.requires)

pub expect-requires-3 : goal.expect-requires-3
expect-requires-3 c = eq-eqb c.pressure_at.result 10132 (c.pressure_at.ensures ∙ pressure_at_100 c.requires)

pub expect-requires-4 : goal.expect-requires-4
expect-requires-4 c = eq-eqb c.pressure_at-2.result 10097 (c.pressure_at-2.ensures ∙ pressure_at_280 c.requires)

pub expect-requires-5 : goal.expect-requires-5
expect-requires-5 c = eq-eqb c.temperature_at.result 125 (c.temperature_at.ensures ∙ temperature_at_100 c.requires)

pub expect-requires-6 : goal.expect-requires-6
expect-requires-6 c = eq-eqb c.temperature_at-2.result 130 (c.temperature_at-2.ensures ∙ temperature_at_280 c.requires)
