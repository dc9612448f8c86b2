-- `hear_at_100` meets its contract: each message is later than what its channel heard. Assumes nothing.
use Rattle.std.proofs.Common.{◌∙◌}
use Rattle.gap.proofs.WatchLaws.{is_heard, goes_on, barometer_new_100, thermometer_new_100}
use Rattle.gap.proofs.hear_at_100.Goals as goal

pub expect-requires : goal.expect-requires
expect-requires c = c.is_ok.ensures.value ∙ is_heard c.hear.ensures c.requires barometer_new_100

pub expect-requires-2 : goal.expect-requires-2
expect-requires-2 c =
    let once = goes_on c.hear.ensures c.requires in
    c.is_ok-2.ensures.value ∙ is_heard c.hear-2.ensures once thermometer_new_100

pub returns : goal.returns
returns c = goes_on c.hear-2.ensures (goes_on c.hear.ensures c.requires)
