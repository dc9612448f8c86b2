-- `ask_at_400` meets its contract: what the store answers after the messages up to minute 400. Assumes nothing.
use Rattle.std.proofs.Common.{eq-eqb, ◌∙◌}
use Rattle.gap.proofs.WatchLaws.{pressure_missing_220, temperature_missing_220, pressure_gone_100, temperature_gone_100, missing_is_none, pressure_still_280, temperature_still_280}
use Rattle.gap.proofs.ask_at_400.Goals as goal

pub expect-requires : goal.expect-requires
expect-requires c = missing_is_none c.recall.result 220 c.recall.ensures (pressure_missing_220 c.requires) c.is_none.ensures

pub expect-requires-2 : goal.expect-requires-2
expect-requires-2 c = missing_is_none c.recall-2.result 220 c.recall-2.ensures (temperature_missing_220 c.requires) c.is_none-2.ensures

pub expect-requires-3 : goal.expect-requires-3
expect-requires-3 c = missing_is_none c.recall-3.result 100 c.recall-3.ensures (pressure_gone_100 c.requires) c.is_none-3.ensures

pub expect-requires-4 : goal.expect-requires-4
expect-requires-4 c = missing_is_none c.recall-4.result 100 c.recall-4.ensures (temperature_gone_100 c.requires) c.is_none-4.ensures

pub expect-requires-5 : goal.expect-requires-5
expect-requires-5 c = eq-eqb c.pressure_at.result 10097 (c.pressure_at.ensures ∙ pressure_still_280 c.requires)

pub expect-requires-6 : goal.expect-requires-6
expect-requires-6 c = eq-eqb c.temperature_at.result 130 (c.temperature_at.ensures ∙ temperature_still_280 c.requires)
