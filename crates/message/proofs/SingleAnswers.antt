-- The contract of `receive` allows a single answer: document 01's number and values tell every case apart, since from them the
-- case can be made again. Assumes nothing.
use mathlib.Core.Path.{◌≡◌, refl, sym, ap, ◌∙◌}
use mathlib.Core.Bool.{cond}
use Prim.Native.Nat.{ℕ}
use lib.Dec.{eqb}
use lib.IntN.{ℤ, pos, nat_abs}
use Rattle.std.specs.Prelude.{Result, Ok, Err}
use Rattle.number.specs.Single.{Single}
use Rattle.number.specs.Refusal.{Answer, refused, given}
use Rattle.number.specs.declared.Kept.{Kept}
use Rattle.quantity.specs.declared.Minute.{Minute}
use Rattle.message.specs.Receive.{Figure, hPa, mmHg, °C, m/s, kn, deg, wick, none, on_wick, Entry, entry_of, received_as}
use Rattle.wire.proofs.SingleAnswers.{refusal, refusal_back}
use Rattle.wire.specs.declared.MessageRefusal.{MessageRefusal}
use Rattle.message.specs.declared.Reading.{Reading}
use Rattle.message.specs.declared.Reading.TheVariants.{Hectopascals, Millimetres, Wheelhouse, ApparentWind, ShipMotion, DryBulb, WetBulb}
use Rattle.message.proofs.receive.Reads as receive

size : Figure → ℕ
size (hPa z) = nat_abs z
size (mmHg z) = nat_abs z
size (°C z) = nat_abs z
size (m/s z) = nat_abs z
size (kn z) = nat_abs z
size (deg z) = nat_abs z
size (wick s) = 0
size none = 0

abbrev kept : ℤ → Kept
kept z = record { v = z }

pub reading : ℕ → Figure → Figure → Reading
unfolding size
reading channel (hPa z) y = Hectopascals (record { 0 = record { v = z } })
reading channel (mmHg z) y = Millimetres (record { 0 = kept z })
reading channel (°C z) y =
    cond (eqb channel 1) (Wheelhouse (record { 0 = kept z }))
    (cond (eqb channel 4) (DryBulb (record { 0 = kept z })) (WetBulb (on_wick y) (record { 0 = kept z })))
reading channel (m/s z) y = ApparentWind (record { 0 = nat_abs z }) (record { 0 = size y })
reading channel (kn z) y = ShipMotion (record { 0 = nat_abs z }) (record { 0 = size y })
reading channel (deg z) y = DryBulb (record { 0 = kept z })
reading channel (wick s) y = DryBulb (record { 0 = kept (pos 0) })
reading channel none y = DryBulb (record { 0 = kept (pos 0) })

pub entry_back : (t : ℕ) (r : Reading) → let e = entry_of t r in reading e.channel e.first e.second ≡ r
unfolding reading size
entry_back t (Hectopascals p) = refl
entry_back t (Millimetres p) = refl
entry_back t (Wheelhouse x) = refl
entry_back t (ApparentWind v d) = refl
entry_back t (ShipMotion v d) = refl
entry_back t (DryBulb x) = refl
entry_back t (WetBulb s x) = refl

pub entry_minute : (t : ℕ) (r : Reading) → (entry_of t r).minute ≡ t
entry_minute t (Hectopascals p) = refl
entry_minute t (Millimetres p) = refl
entry_minute t (Wheelhouse x) = refl
entry_minute t (ApparentWind v d) = refl
entry_minute t (ShipMotion v d) = refl
entry_minute t (DryBulb x) = refl
entry_minute t (WetBulb s x) = refl

receiving_of : Answer ℕ Entry → Result (Minute × Reading) MessageRefusal
receiving_of (refused n) = Err (refusal n)
receiving_of (given e) = Ok (record { 0 = e.minute }, reading e.channel e.first e.second)

receiving_back : (r : Result (Minute × Reading) MessageRefusal) → receiving_of (received_as r) ≡ r
unfolding receiving_of
receiving_back (Err r) = ap Err (refusal_back r)
receiving_back (Ok s) = rw (entry_minute s.0.0 s.1, entry_back s.0.0 s.1)

pub single_receive : Single receive.Post
single_receive κs a r r' s s' p q = sym (receiving_back r) ∙ ap receiving_of (p ∙ sym q) ∙ receiving_back r'
