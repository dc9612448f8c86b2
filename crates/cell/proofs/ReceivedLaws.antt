-- What follows from a message that was received: none of the seven tests holds of it. Assumes nothing.
use mathlib.Core.Path.{◌≡◌, refl, sym, ap, ◌∙◌}
use mathlib.Core.Bool.{false, not}
use mathlib.Core.List.{List}
use Prim.Native.Nat.{ℕ, zero, suc, ◌≤◌}
use native.Mathlib.Omega.{arith}
use lib.Dec.{eqb, ltb}
use lib.Ieee.{Float}
use lib.ListN.{length}
use borrow.Author.Tests.{eqb-true, ltb-false, not-false}
use Rattle.number.specs.Refusal.{given, HoldsAt}
use Rattle.number.proofs.RefusalLaws.{given_then, given_is}
use Rattle.number.proofs.Sizes.{fails}
use Rattle.quantity.specs.declared.BarometerUnit.{BarometerUnit}
use Rattle.wire.specs.Bytes.{channel, state, minute, first, second}
use Rattle.wire.specs.Kinds.{kind}
use Rattle.wire.specs.Decode.{message}
use Rattle.message.specs.Receive.{Entry, entry, outside, tests, received}

entry_channel : (u : BarometerUnit) (t n s : ℕ) (x y : Float) → n ≤ 5 → (entry u t (kind n s x y)).channel ≡ n
entry_channel u t zero s x y l = refl
entry_channel u t (suc zero) s x y l = refl
entry_channel u t (suc (suc zero)) s x y l = refl
entry_channel u t (suc (suc (suc zero))) s x y l = refl
entry_channel u t (suc (suc (suc (suc zero)))) s x y l = refl
entry_channel u t (suc (suc (suc (suc (suc zero))))) s x y l = refl
entry_channel u t (suc (suc (suc (suc (suc (suc n)))))) s x y l = absurd (omega arith)

module _ (u : BarometerUnit) (m : List ℕ) (e : Entry) (r : received u m ≡ given e) where
  pub received_is : entry u (minute m) (message m) ≡ e
  unfolding received
  received_is = given_is (tests u m) (entry u (minute m) (message m)) e r

  none : (place n : ℕ) → HoldsAt (tests u m) place n → ⊥
  unfolding received
  none place n h = given_then (entry u (minute m) (message m)) (tests u m) (r ∙ ap given (sym received_is)) n (place, h)

  pub received_inside : outside u (message m) ≡ false
  received_inside = fails (outside u (message m)) (λ h. none 6 7 (h, refl))

  pub received_long : length m ≡ 16
  received_long =
      eqb-true (length m) 16 (not-false (eqb (length m) 16) (fails (not (eqb (length m) 16)) (λ h. none 0 1 (h, refl))))

  pub received_low : channel m ≤ 5
  received_low = ltb-false 5 (channel m) (fails (ltb 5 (channel m)) (λ h. none 1 2 (h, refl)))

  pub received_channel : e.channel ≡ channel m
  received_channel =
      ap (λ (z : Entry). z.channel) (sym received_is) ∙ entry_channel u (minute m) (channel m) (state m) (first m) (second m) received_low
