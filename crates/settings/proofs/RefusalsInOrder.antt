-- Settings test in number order: refusal 9, 10 or 25 is given exactly when its reason holds and none of a smaller number does.
-- Assumes nothing.
use mathlib.Core.Path.{◌≡◌}
use mathlib.Core.Logic.{◌↔◌}
use Prim.Native.Nat.{ℕ}
use Rattle.number.specs.Refusal.{refused, given, Holds, NoneBelow}
use Rattle.number.proofs.RefusalLaws.{in_number_order, given_exactly}
use Rattle.settings.specs.Settings.{tests, checked}
use Rattle.settings.specs.declared.Settings.{Settings}

pub settings_refused : (s : Settings) (n : ℕ) → (checked s ≡ refused n) ↔ (Holds (tests s) n × NoneBelow (tests s) n)
unfolding checked
settings_refused s n = in_number_order tt (tests s) tt n

pub settings_good : (s : Settings) → (checked s ≡ given tt) ↔ ((n : ℕ) → Holds (tests s) n → ⊥)
unfolding checked
settings_good s = given_exactly tt (tests s)
