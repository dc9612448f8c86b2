-- What a message comes to, by what `decode` says of its bytes and by its limits: what is refused there stays refused, and where
-- nothing is, the limits decide. Assumes nothing.
use mathlib.Core.Path.{◌≡◌, refl, sym, ap, ◌∙◌}
use mathlib.Core.Bool.{Bool, true, false, not}
use mathlib.Core.List.{List}
use Prim.Native.Nat.{ℕ}
use Rattle.number.specs.Refusal.{refused, given, answer}
use Rattle.number.proofs.RefusalLaws.{refused_stays, given_goes_on}
use Rattle.quantity.specs.declared.BarometerUnit.{BarometerUnit}
use Rattle.wire.specs.Bytes.{minute}
use Rattle.wire.specs.Kinds.{Sound}
use Rattle.wire.specs.Decode.{wire_tests, message, Sent, sent, decoded}
use Rattle.wire.specs.declared.Message.{Message}
use Rattle.message.specs.Receive.{Entry, entry, outside, limit_tests, received}
use Rattle.wire.proofs.DecodeLaws.{decoded_is, decoded_sound}

pub on_refusal : (u : BarometerUnit) (m : List ℕ) (n : ℕ) → refused n ≡ decoded m → refused n ≡ received u m
unfolding decoded received
on_refusal u m n e = sym (refused_stays (wire_tests m) (limit_tests u (message m)) (sent m) (entry u (minute m) (message m)) n (sym e))

not_false : (b : Bool) → not b ≡ false → b ≡ true
not_false true e = refl
not_false false e = sym e

not_true : (b : Bool) → not b ≡ true → b ≡ false
not_true true e = sym e
not_true false e = refl

module _ (m : List ℕ) (t : ℕ) (k : Message) (is : given (record { minute = t; message = k }) ≡ decoded m) where
  pub sound : Sound k
  sound = decoded_sound m (record { minute = t; message = k }) (sym is)

  module _ (u : BarometerUnit) where
    on_message : answer (limit_tests u k) (entry u t k) ≡ received u m
    unfolding decoded received
    on_message =
        sym (given_goes_on (wire_tests m) (limit_tests u (message m)) (sent m) (record { minute = t; message = k }) (entry u (minute m) (message m)) (sym is)
        ∙ ap (λ (z : Sent). answer (limit_tests u z.message) (entry u z.minute z.message)) (decoded_is m (record { minute = t; message = k }) (sym is)))

    pub outside_refused : not (outside u k) ≡ false → refused 7 ≡ received u m
    unfolding answer
    outside_refused o = rw (not_false (outside u k) o) at on_message

    pub inside_kept : (e : Entry) → not (outside u k) ≡ true → e ≡ entry u t k → given e ≡ received u m
    unfolding answer
    inside_kept e o f = ap given f ∙ (rw (not_true (outside u k) o) at on_message)
