-- `number` meets its contract, case by case. Assumes nothing.
use mathlib.Core.Path.{sym, ap}
use Rattle.station.specs.Told.{refusal_of}
use Rattle.station.proofs.number.Goals as goal

pub returns-in-MissingReading : goal.returns-in-MissingReading
returns-in-MissingReading c = sym (ap refusal_of c.in-MissingReading.is)

pub returns-in-OutsideCertificate : goal.returns-in-OutsideCertificate
returns-in-OutsideCertificate c = sym (ap refusal_of c.in-OutsideCertificate.is)

pub returns-in-NoStore : goal.returns-in-NoStore
returns-in-NoStore c = sym (ap refusal_of c.in-NoStore.is)
