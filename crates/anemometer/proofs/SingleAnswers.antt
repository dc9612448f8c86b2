-- Each public contract of this crate allows a single answer. Assumes nothing.
use mathlib.Core.Path.{◌≡◌, refl, sym, ap, ◌∙◌}
use mathlib.Core.Bool.{cond}
use Prim.Native.Nat.{ℕ}
use lib.Dec.{eqb}
use lib.IntN.{ℤ, nat_abs}
use Rattle.std.specs.Prelude.{Result, Ok, Err}
use Rattle.number.specs.Single.{Single}
use Rattle.number.specs.Refusal.{Answer, refused, given}
use Rattle.quantity.specs.declared.Degrees.{Degrees}
use Rattle.quantity.specs.declared.MetresPerSecond.{MetresPerSecond}
use Rattle.anemometer.specs.Anemometer.{measured_as}
use Rattle.anemometer.specs.declared.DialRefusal.{DialRefusal}
use Rattle.anemometer.specs.declared.DialRefusal.TheVariants.{OutsideDial, OutsideCertificate}
use Rattle.anemometer.proofs.Note.holds.Reads as holds
use Rattle.anemometer.proofs.measure.Reads as measure
use Rattle.anemometer.proofs.from_bow.Reads as from-bow

pub single_holds : Single holds.Post
single_holds κs a r r' s s' p q = p ∙ sym q

measured_of : Answer ℕ ℤ → Result MetresPerSecond DialRefusal
measured_of (refused n) = Err (cond (eqb n 23) OutsideDial OutsideCertificate)
measured_of (given z) = Ok (record { 0 = nat_abs z })

measured_back : (m : Result MetresPerSecond DialRefusal) → measured_of (measured_as m) ≡ m
unfolding measured_of
measured_back (Ok v) = refl
measured_back (Err OutsideDial) = refl
measured_back (Err OutsideCertificate) = refl

pub single_measure : Single measure.Post
single_measure κs a r r' s s' p q = sym (measured_back r) ∙ ap measured_of (p ∙ sym q) ∙ measured_back r'

pub single_from_bow : Single from-bow.Post
single_from_bow κs a r r' s s' p q = ap make (p ∙ sym q)
  where
    make : ℕ → Degrees
    make n = record { 0 = n }
