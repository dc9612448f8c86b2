-- Each public contract of this crate allows a single answer: from document 01's number and value the case can be made again.
-- Assumes nothing.
use mathlib.Core.Path.{◌≡◌, refl, sym, ap, ◌∙◌}
use mathlib.Core.Bool.{cond}
use Prim.Native.Nat.{ℕ}
use lib.Dec.{eqb}
use lib.IntN.{ℤ}
use Rattle.std.specs.Prelude.{Result, Ok, Err}
use Rattle.number.specs.Single.{Single}
use Rattle.number.specs.Refusal.{Answer, refused, given}
use Rattle.quantity.specs.declared.Hectopascals.{Hectopascals}
use Rattle.pressure.specs.Pressure.{pressure_as}
use Rattle.pressure.specs.declared.PressureRefusal.{PressureRefusal}
use Rattle.pressure.specs.declared.PressureRefusal.TheVariants.{OutsideLimits, OutsideCertificate}
use Rattle.pressure.proofs.sea_level_pressure.Reads as sea-level-pressure
use Rattle.pressure.proofs.station_pressure.Reads as station-pressure

pub pressure_of_lem : Answer ℕ ℤ → Result Hectopascals PressureRefusal
pressure_of_lem (refused n) = Err (cond (eqb n 7) OutsideLimits OutsideCertificate)
pressure_of_lem (given z) = Ok (record { 0 = record { v = z } })

pub pressure_back : (p : Result Hectopascals PressureRefusal) → pressure_of_lem (pressure_as p) ≡ p
unfolding pressure_of_lem
pressure_back (Ok p) = refl
pressure_back (Err OutsideLimits) = refl
pressure_back (Err OutsideCertificate) = refl

pub single_sea_level_pressure : Single sea-level-pressure.Post
single_sea_level_pressure κs a r r' s s' p q = sym (pressure_back r) ∙ ap pressure_of_lem (p ∙ sym q) ∙ pressure_back r'

pub single_station_pressure : Single station-pressure.Post
single_station_pressure κs a r r' s s' p q = sym (pressure_back r) ∙ ap pressure_of_lem (p ∙ sym q) ∙ pressure_back r'
