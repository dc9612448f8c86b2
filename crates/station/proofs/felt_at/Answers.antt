-- `felt_at` meets its contract: what its channel keeps is an apparent wind. Assumes nothing.
use mathlib.Core.Path.{sym}
use Rattle.station.proofs.KindLaws.{no_wind}
use Rattle.station.proofs.felt_at.Goals as goal

pub returns-in_default : goal.returns-in_default
returns-in_default c = no_wind c.args.store.now c.args.minute c.in_ok-speed.field-0 (sym c.in_ok-speed.ensures) c.in_default.not-ApparentWind
