-- `barometer_at` meets its contract: what its channel keeps is a pressure. Assumes nothing.
use mathlib.Core.Path.{sym}
use Rattle.station.proofs.KindLaws.{no_pressure}
use Rattle.station.proofs.barometer_at.Goals as goal

pub returns-in_default-kept : goal.returns-in_default-kept
returns-in_default-kept c = no_pressure c.args.store.now c.args.minute c.in-Some.kept (sym c.in-Some.ensures) c.in_default-kept.not-Hectopascals c.in_default-kept.not-Millimetres
