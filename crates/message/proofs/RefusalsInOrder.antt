-- Messages test in number order: refusal n is given exactly when reason n holds and no reason of a smaller number does.
-- Assumes nothing.
use mathlib.Core.Path.{◌≡◌}
use mathlib.Core.List.{List}
use mathlib.Core.Logic.{◌↔◌}
use Prim.Native.Nat.{ℕ}
use Rattle.number.specs.Refusal.{refused, given, Holds, NoneBelow}
use Rattle.number.proofs.RefusalLaws.{in_number_order, given_exactly}
use Rattle.quantity.specs.declared.BarometerUnit.{BarometerUnit}
use Rattle.wire.specs.Bytes.{minute}
use Rattle.wire.specs.Decode.{message}
use Rattle.message.specs.Receive.{tests, entry, received}

pub message_refused : (u : BarometerUnit) (m : List ℕ) (n : ℕ) → (received u m ≡ refused n) ↔ (Holds (tests u m) n × NoneBelow (tests u m) n)
unfolding received
message_refused u m n = in_number_order (entry u (minute m) (message m)) (tests u m) tt n

pub message_kept : (u : BarometerUnit) (m : List ℕ) → (received u m ≡ given (entry u (minute m) (message m))) ↔ ((n : ℕ) → Holds (tests u m) n → ⊥)
unfolding received
message_kept u m = given_exactly (entry u (minute m) (message m)) (tests u m)
