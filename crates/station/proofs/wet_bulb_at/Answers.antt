-- `wet_bulb_at` meets its contract: what its channel keeps is a wet bulb's temperature. Assumes nothing.
use mathlib.Core.Path.{sym}
use Rattle.station.proofs.KindLaws.{no_wet_bulb}
use Rattle.station.proofs.wet_bulb_at.Goals as goal

pub returns-in_default : goal.returns-in_default
returns-in_default c = no_wet_bulb c.args.store.now c.args.minute c.in_ok-state.field-0 (sym c.in_ok-state.ensures) c.in_default.not-WetBulb
