-- `course_at` meets its contract: what channel 3 keeps is a motion of the ship. Assumes nothing.
use mathlib.Core.Path.{◌≡◌, refl, sym, ap}
use native.Mathlib.Omega.{arith}
use Prim.Native.Nat.{ℕ}
use lib.Dec.{lit<}
use Rattle.quantity.specs.declared.Knots.{Knots}
use Rattle.quantity.specs.declared.Degrees.{Degrees}
use Rattle.message.specs.Receive.{entry_of}
use Rattle.message.specs.declared.Reading.{Reading}
use Rattle.message.specs.declared.Reading.TheVariants.{Hectopascals, Millimetres, Wheelhouse, ApparentWind, ShipMotion, DryBulb, WetBulb}
use Rattle.cell.specs.Cells.{recalled, is_present}
use Rattle.store.specs.Block.{recall_of}
use Rattle.store.proofs.RecallLaws.{channel_is}
use Rattle.store.proofs.course_at.Goals as goal

-- a reading that is no motion of the ship is of another channel
other_channel : (t : ℕ) (r : Reading) → ((x : Knots) → (y : Degrees) → r ≡ ShipMotion x y → ⊥) → (entry_of t r).channel ≡ 3 → ⊥
other_channel t (Hectopascals p) not e = omega (arith, e)
other_channel t (Millimetres p) not e = omega (arith, e)
other_channel t (Wheelhouse x) not e = omega (arith, e)
other_channel t (ApparentWind v d) not e = omega (arith, e)
other_channel t (ShipMotion v d) not e = not v d refl
other_channel t (DryBulb x) not e = omega (arith, e)
other_channel t (WetBulb s x) not e = omega (arith, e)

pub returns-in_default : goal.returns-in_default
returns-in_default c =
    let s = c.args.store.now in
    let m = c.args.minute in
    let r = c.in_ok-course.field-0 in
    let is : recall_of s 3 m ≡ recalled (entry_of m r) = sym c.in_ok-course.ensures in
    absurd (other_channel m r c.in_default.not-ShipMotion (channel_is s 3 m (lit< tt) (ap is_present is) (entry_of m r) is))
