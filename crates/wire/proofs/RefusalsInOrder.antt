-- The bytes of a message are tested in number order: refusal n of 1 to 6 is given exactly when reason n holds and no reason of a
-- smaller number does. Assumes nothing.
use mathlib.Core.Path.{◌≡◌}
use mathlib.Core.List.{List}
use mathlib.Core.Logic.{◌↔◌}
use Prim.Native.Nat.{ℕ}
use Rattle.number.specs.Refusal.{refused, Holds, NoneBelow}
use Rattle.number.proofs.RefusalLaws.{in_number_order}
use Rattle.wire.specs.Decode.{wire_tests, sent, decoded}

pub decode_refused : (m : List ℕ) (n : ℕ) → (decoded m ≡ refused n) ↔ (Holds (wire_tests m) n × NoneBelow (wire_tests m) n)
unfolding decoded
decode_refused m n = in_number_order (sent m) (wire_tests m) tt n
