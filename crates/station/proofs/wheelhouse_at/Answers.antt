-- `wheelhouse_at` meets its contract: what its channel keeps is a temperature in the wheelhouse. Assumes nothing.
use mathlib.Core.Path.{sym}
use Rattle.station.proofs.KindLaws.{no_wheelhouse}
use Rattle.station.proofs.wheelhouse_at.Goals as goal

pub returns-in_default : goal.returns-in_default
returns-in_default c = no_wheelhouse c.args.store.now c.args.minute c.in_ok-t.field-0 (sym c.in_ok-t.ensures) c.in_default.not-Wheelhouse
