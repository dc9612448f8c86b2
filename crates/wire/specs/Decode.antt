-- From bytes to one of the six kinds: refusals 1 to 6, in number order.
use Rattle.std.specs.Prelude.{Bool, not, ◌&&◌, List, [], ◌∷◌, ℕ, eqb, ltb, leb, length, Result, Ok, Err}
use Rattle.number.specs.Refusal.{Test, Answer, refused, given, answer}
use Rattle.quantity.specs.Limits.{last_minute}
use Rattle.quantity.specs.declared.Minute.{Minute}
use Rattle.wire.specs.Bytes.{channel, minute, first, second, state, stray, no_state}
use Rattle.wire.specs.Finite.{is_finite}
use Rattle.wire.specs.Kinds.{kind}
use Rattle.wire.specs.declared.MessageRefusal.{MessageRefusal}
use Rattle.wire.specs.declared.MessageRefusal.TheVariants.{NotSixteenBytes, NoSuchChannel, ByteNotZero, NoSuchState, MinuteTooLate, NotFinite, OutsideLimits}
use Rattle.wire.specs.declared.Message.{Message}

abbrev pub test : ℕ → Bool → Test ℕ
test n reason = record { refusal = n; holds = reason }

-- "Numbered refusals", 1 to 6: those that the bytes alone decide.
abbrev pub wire_tests : List ℕ → List (Test ℕ)
wire_tests m =
    test 1 (not (eqb (length m) 16))
    ∷ test 2 (ltb 5 (channel m))
    ∷ test 3 (stray m)
    ∷ test 4 (no_state m)
    ∷ test 5 (not (leb (minute m) last_minute))
    ∷ test 6 (not (is_finite (first m) && is_finite (second m)))
    ∷ []

-- The kind that the bytes name, with its values and, of the wet bulb, its state.
abbrev pub message : List ℕ → Message
message m = kind (channel m) (state m) (first m) (second m)

-- A message and its minute.
pub record Sent : Type 0 where
  pub minute : ℕ
  pub message : Message

abbrev pub sent : List ℕ → Sent
sent m = record { minute = minute m; message = message m }

-- What the bytes say.
unfoldable pub decoded : List ℕ → Answer ℕ Sent
decoded m = answer (wire_tests m) (sent m)

-- Document 01's number of each refusal, and its values of each case.
abbrev pub number_of : MessageRefusal → ℕ
number_of NotSixteenBytes = 1
number_of NoSuchChannel = 2
number_of ByteNotZero = 3
number_of NoSuchState = 4
number_of MinuteTooLate = 5
number_of NotFinite = 6
number_of OutsideLimits = 7

abbrev pub decoded_as : Result (Minute × Message) MessageRefusal → Answer ℕ Sent
decoded_as (Err r) = refused (number_of r)
decoded_as (Ok s) = given (record { minute = s.0.0; message = s.1 })
