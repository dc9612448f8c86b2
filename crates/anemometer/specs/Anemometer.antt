-- The hand anemometer (document 02, W5; 004, section 7.2): speed by the dial's rate, and direction from the bow.
use Rattle.std.specs.Prelude.{Bool, not, ◌&&◌, ◌||◌, cond, List, [], ◌∷◌, ℕ, ◌+◌, ◌-◌, eqb, leb, ltb, ℤ, pos, ◌*ℤ◌, Result, Ok, Err}
use Rattle.number.specs.Refusal.{Test, Answer, refused, given, answer}
use Rattle.quantity.specs.Limits.{inside, metres_per_second}
use Rattle.quantity.specs.Convert.{kept_direction}
use Rattle.quantity.specs.declared.MetresPerSecond.{MetresPerSecond}
use Rattle.settings.specs.Settings.{rate_point_at}
use Rattle.settings.specs.declared.Settings.{Settings}
use Rattle.settings.specs.declared.RatePoint.{RatePoint}
use Rattle.certificate.specs.Line.{value_from, none_round}
use Rattle.certificate.specs.declared.Corner.{Corner}
use Rattle.block.specs.Words.{rates_of, rate_of}
use Rattle.anemometer.specs.declared.Note.{Note}
use Rattle.anemometer.specs.declared.DialRefusal.{DialRefusal}
use Rattle.anemometer.specs.declared.DialRefusal.TheVariants.{OutsideDial, OutsideCertificate}

-- The certificate's points by their places from 0; none where the store has no anemometer.
pub record Certificate : Type 0 where
  pub points : ℕ
  pub point : ℕ → RatePoint

-- As settings give it, and as a block holds it.
abbrev pub certificate_in : Settings → Certificate
certificate_in g = record { points = g.anemometer.count; point = rate_point_at g.anemometer.points }

abbrev pub certificate_held : List ℕ → Certificate
certificate_held s = record { points = rates_of s; point = rate_of s }

-- ---- the dial

-- "Dial 0 to 9999", "seconds 1 to 600"
abbrev pub last_division : ℕ
last_division = 9999

abbrev pub longest : ℕ
longest = 600

unfoldable pub dial_holds : Note → Bool
dial_holds n = leb n.first last_division && leb n.second last_division && not (eqb n.seconds 0) && leb n.seconds longest

-- "taken to have passed 9999 once if the second reading is below the first, and otherwise not at all"
abbrev pub turns : ℕ → ℕ → ℕ
turns first second = cond (ltb second first) (second + (last_division + 1) - first) (second - first)

-- ---- the speed, in tenths of m/s

-- A point as a corner of the line. The exact rate is the turns over the seconds: its place among the points' rates is that of the turns
-- among the rates times the seconds.
abbrev pub corner : ℕ → RatePoint → Corner
corner seconds p = record { reads = record { v = p.rate.0.v *ℤ pos seconds }; gives = record { v = p.speed.v } }

abbrev pub corners : Certificate → Note → ℕ → Corner
corners c n i = corner n.seconds (c.point i)

abbrev pub turned : Note → ℤ
turned n = pos (turns n.first n.second)

-- "Speed is the straight line between the neighbouring points at the exact rate, rounded to 0.1."
unfoldable pub speed : Certificate → Note → ℤ
speed c n = value_from (corners c n) (turned n) 0 (c.points - 1)

-- 24: "rate outside the certificate, or the store has none": no neighbours stand round it
unfoldable pub outside : Certificate → Note → Bool
outside c n = none_round (corners c n) (turned n) (c.points - 1)

-- The same of any block: one that no opening made may hold points whose speeds leave their limits (`never_beyond`).
abbrev pub no_speed : Certificate → Note → Bool
no_speed c n = outside c n || not (inside metres_per_second (speed c n))

-- 23: "seconds or dial outside limits"
unfoldable pub measured : Certificate → Note → Answer ℕ ℤ
measured c n =
    answer
    (record { refusal = 23; holds = not (dial_holds n) } ∷ record { refusal = 24; holds = no_speed c n } ∷ [])
    (speed c n)

-- The documents' number and value of each case.
abbrev pub measured_as : Result MetresPerSecond DialRefusal → Answer ℕ ℤ
measured_as (Ok v) = given (pos v.0)
measured_as (Err OutsideDial) = refused 23
measured_as (Err OutsideCertificate) = refused 24

-- ---- the direction

-- "A compass direction has the course taken away, with 360 added when negative"; "360 is kept as 0"
unfoldable pub from_bow : ℕ → ℕ → ℕ
from_bow direction course = kept_direction (cond (ltb direction course) (direction + 360 - course) (direction - course))
