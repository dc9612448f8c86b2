-- `motion_at` meets its contract: what its channel keeps is a motion of the ship. Assumes nothing.
use mathlib.Core.Path.{sym}
use Rattle.station.proofs.KindLaws.{no_motion}
use Rattle.station.proofs.motion_at.Goals as goal

pub returns-in_default : goal.returns-in_default
returns-in_default c = no_motion c.args.store.now c.args.minute c.in_ok-speed.field-0 (sym c.in_ok-speed.ensures) c.in_default.not-ShipMotion
