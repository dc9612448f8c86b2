-- "A message is one of six kinds, each carrying its own binary32 values." That of the wet bulb carries its state too.
use Rattle.std.specs.Prelude.{cond, ℕ, eqb, Float}
use Rattle.quantity.specs.States.{state_of}
use Rattle.wire.specs.Finite.{Finite}
use Rattle.wire.specs.declared.Pair.{Pair}
use Rattle.wire.specs.declared.Message.{Message}
use Rattle.wire.specs.declared.Message.TheVariants.{Barometer, Wheelhouse, ApparentWind, ShipMotion, DryBulb, WetBulb}

abbrev pub pair : Float → Float → Pair
pair x y = record { speed = x; angle = y }

-- The kind of a channel with its values and the number of a state. (A channel above 5, and a state above 2, is refused before.)
abbrev pub kind : ℕ → ℕ → Float → Float → Message
kind channel state x y =
    cond (eqb channel 0) (Barometer x)
    (cond (eqb channel 1) (Wheelhouse x)
    (cond (eqb channel 2) (ApparentWind (pair x y))
    (cond (eqb channel 3) (ShipMotion (pair x y))
    (cond (eqb channel 4) (DryBulb x)
    (WetBulb (state_of state) x)))))

-- Every value of the message is finite.
abbrev pub Sound : Message → Type 0
Sound (Barometer x) = Finite x
Sound (Wheelhouse x) = Finite x
Sound (ApparentWind p) = Finite p.speed × Finite p.angle
Sound (ShipMotion p) = Finite p.speed × Finite p.angle
Sound (DryBulb x) = Finite x
Sound (WetBulb s x) = Finite x
