-- What follows from the contract of `decode` alone: a message that it gives is the one that the bytes name, at their minute, and
-- every value of it is finite. Assumes nothing.
use mathlib.Core.Path.{◌≡◌, refl, sym, ap, ◌∙◌, subst}
use mathlib.Core.Bool.{Bool, true, false, not, ◌&&◌, cond}
use mathlib.Core.List.{List}
use Prim.Native.Nat.{ℕ}
use lib.Dec.{T, eqb}
use lib.Ieee.{Float}
use lib.Ieee.Fits.{and_l, and_r}
use Rattle.number.specs.Refusal.{given}
use Rattle.number.proofs.RefusalLaws.{given_then, given_is}
use Rattle.quantity.specs.States.{state_of}
use Rattle.wire.specs.Bytes.{channel, state, first, second}
use Rattle.wire.specs.Finite.{is_finite, Finite}
use Rattle.wire.specs.Kinds.{kind, pair, Sound}
use Rattle.wire.specs.Decode.{wire_tests, Sent, sent, decoded}
use Rattle.wire.specs.declared.Message.{Message}
use Rattle.wire.specs.declared.Message.TheVariants.{Barometer, Wheelhouse, ApparentWind, ShipMotion, DryBulb, WetBulb}

pick_sound : (b : Bool) (k l : Message) → Sound k → Sound l → Sound (cond b k l)
pick_sound true k l s t = s
pick_sound false k l s t = t

kind_sound : (n s : ℕ) (x y : Float) → Finite x → Finite y → Sound (kind n s x y)
kind_sound n s x y f g =
    pick_sound (eqb n 0) (Barometer x) _ f
    (pick_sound (eqb n 1) (Wheelhouse x) _ f
    (pick_sound (eqb n 2) (ApparentWind (pair x y)) _ (f, g)
    (pick_sound (eqb n 3) (ShipMotion (pair x y)) _ (f, g)
    (pick_sound (eqb n 4) (DryBulb x) (WetBulb (state_of s) x) f f))))

finite_both : (b : Bool) → (T (not b) → ⊥) → T b
finite_both true n = tt
finite_both false n = absurd (n tt)

module _ (m : List ℕ) (s : Sent) (e : decoded m ≡ given s) where
  pub decoded_is : sent m ≡ s
  unfolding decoded
  decoded_is = given_is (wire_tests m) (sent m) s e

  whole : decoded m ≡ given (sent m)
  whole = e ∙ ap given (sym decoded_is)

  both : T (is_finite (first m) && is_finite (second m))
  unfolding decoded
  both = finite_both (is_finite (first m) && is_finite (second m)) (λ n. given_then (sent m) (wire_tests m) whole 6 (5, (n, refl)))

  pub decoded_sound : Sound s.message
  decoded_sound =
      subst (λ (z : Sent). Sound z.message) decoded_is
      (kind_sound (channel m) (state m) (first m) (second m) (and_l (is_finite (first m)) (is_finite (second m)) both) (and_r (is_finite (first m)) (is_finite (second m)) both))
