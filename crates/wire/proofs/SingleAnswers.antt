-- Each public contract of this crate allows a single answer. Of `decode`: document 01's number and values tell every case apart,
-- since from them the case can be made again. Assumes nothing.
use mathlib.Core.Path.{◌≡◌, refl, sym, ap, ◌∙◌}
use mathlib.Core.Bool.{cond}
use Prim.Native.Nat.{ℕ}
use lib.Dec.{eqb}
use Rattle.std.specs.Prelude.{Result, Ok, Err}
use Rattle.number.specs.Single.{Single}
use Rattle.number.specs.Refusal.{Answer, refused, given}
use Rattle.quantity.specs.declared.Minute.{Minute}
use Rattle.wire.specs.Decode.{Sent, number_of, decoded_as}
use Rattle.wire.specs.declared.MessageRefusal.{MessageRefusal}
use Rattle.wire.specs.declared.MessageRefusal.TheVariants.{NotSixteenBytes, NoSuchChannel, ByteNotZero, NoSuchState, MinuteTooLate, NotFinite, OutsideLimits}
use Rattle.wire.specs.declared.Message.{Message}
use Rattle.wire.proofs.number.Reads as number
use Rattle.wire.proofs.decode.Reads as decode

pub single_number : Single number.Post
single_number κs a r r' s s' p q = p ∙ sym q

-- ---- the refusal of a number

abbrev pub refusal : ℕ → MessageRefusal
refusal n =
    cond (eqb n 1) NotSixteenBytes
    (cond (eqb n 2) NoSuchChannel
    (cond (eqb n 3) ByteNotZero
    (cond (eqb n 4) NoSuchState
    (cond (eqb n 5) MinuteTooLate
    (cond (eqb n 6) NotFinite
    OutsideLimits)))))

pub refusal_back : (r : MessageRefusal) → refusal (number_of r) ≡ r
refusal_back NotSixteenBytes = refl
refusal_back NoSuchChannel = refl
refusal_back ByteNotZero = refl
refusal_back NoSuchState = refl
refusal_back MinuteTooLate = refl
refusal_back NotFinite = refl
refusal_back OutsideLimits = refl

-- ---- decode

abbrev decoding_of : Answer ℕ Sent → Result (Minute × Message) MessageRefusal
decoding_of (refused n) = Err (refusal n)
decoding_of (given s) = Ok (record { 0 = s.minute }, s.message)

decoding_back : (d : Result (Minute × Message) MessageRefusal) → decoding_of (decoded_as d) ≡ d
decoding_back (Err r) = ap Err (refusal_back r)
decoding_back (Ok s) = refl

pub single_decode : Single decode.Post
single_decode κs a r r' s s' p q = sym (decoding_back r) ∙ ap decoding_of (p ∙ sym q) ∙ decoding_back r'
