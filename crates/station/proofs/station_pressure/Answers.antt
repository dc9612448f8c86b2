-- `station_pressure` meets its contract: the work refuses nothing but by the certificate. Assumes nothing.
use mathlib.Core.Path.{refl, ap}
use Rattle.std.specs.Prelude.{Ok, Err}
use Rattle.station.specs.Source.{held}
use Rattle.station.specs.Questions.{station_at}
use Rattle.station.proofs.PressureLaws.{pressure_told, station_worked}
use Rattle.station.proofs.station_pressure.Goals as goal

pub returns-in-Ok : goal.returns-in-Ok
returns-in-Ok c =
    let s = c.args.store.now in
    let m = c.args.minute in
    pressure_told (held s) m (station_at (held s) m) (Ok c.in-Ok.p) (station_worked s m c.args.reading c.requires (Ok c.in-Ok.p) c.in-Ok.ensures) (Ok c.in-Ok.p) refl

pub returns-in-Err : goal.returns-in-Err
returns-in-Err c =
    let s = c.args.store.now in
    let m = c.args.minute in
    pressure_told (held s) m (station_at (held s) m) (Err c.in-Err.r) (station_worked s m c.args.reading c.requires (Err c.in-Err.r) c.in-Err.ensures) (Err c.refused_at.result) (ap Err c.refused_at.ensures)
