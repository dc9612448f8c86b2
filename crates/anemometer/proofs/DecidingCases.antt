-- Cases that decide between the rules of document 02 and others, with table 1 of 004's section 7.2 as the certificate. By computing.
-- Assumes nothing.
use mathlib.Core.Path.{◌≡◌, refl}
use mathlib.Core.Bool.{true, false}
use mathlib.Core.List.{List, [], ◌∷◌}
use Prim.Native.Nat.{ℕ}
use lib.IntN.{pos}
use Rattle.number.specs.Round.{nearest, rounded}
use Rattle.number.specs.Refusal.{refused, given, answer}
use Rattle.settings.specs.Settings.{every, rate_point_at, anemometer_holds}
use Rattle.settings.specs.declared.RatePoint.{RatePoint}
use Rattle.certificate.specs.Line.{value_from, none_round}
use Rattle.anemometer.specs.Anemometer.{Certificate, dial_holds, turns, speed, outside, measured, from_bow}
use Rattle.anemometer.specs.declared.Note.{Note}

abbrev point : ℕ → ℕ → RatePoint
point rate speed = record { rate = record { 0 = record { v = pos rate } }; speed = record { v = pos speed } }

-- "1 1,3 .. 20 18,8": divisions a second, tenths of m/s
abbrev pub table_1 : List RatePoint
table_1 =
    point 1 13 ∷ point 2 22 ∷ point 3 31 ∷ point 4 40 ∷ point 5 49 ∷ point 6 58 ∷ point 7 67 ∷ point 8 76 ∷ point 9 85 ∷ point 10 94
    ∷ point 20 188
    ∷ []

abbrev pub hand : Certificate
hand = record { points = 11; point = rate_point_at table_1 }

-- two readings of the dial, and the seconds between them
abbrev pub read : ℕ → ℕ → ℕ → Note
read first second seconds = record { minute = 0; direction = 0; first = first; second = second; seconds = seconds }

-- It is a certificate by its rules.
pub table_holds : anemometer_holds 11 table_1 ≡ true
unfolding anemometer_holds every
table_holds = refl

-- At each end the point's speed; one part beyond either end refusal 24: 59 and 1201 divisions in a minute.
pub both_ends_belong :
    (measured hand (read 0 60 60) ≡ given (pos 13)) × (measured hand (read 0 1200 60) ≡ given (pos 188))
    × (measured hand (read 0 59 60) ≡ refused 24) × (measured hand (read 0 1201 60) ≡ refused 24)
unfolding measured answer dial_holds speed outside value_from none_round every nearest rounded
both_ends_belong = (refl, refl, refl, refl)

-- 5 divisions a second are 4.9 m/s, a point. By formula (8), 0.1 (V20 - V10) times 5, they would be 4.7.
pub at_five : (measured hand (read 100 400 60) ≡ given (pos 49)) × (rounded (pos 470) 10 ≡ pos 47)
unfolding measured answer dial_holds speed outside value_from none_round every nearest rounded
at_five = (refl, refl)

-- 90 divisions in a minute are 1.5 a second: 1.75 m/s, a half, so 1.8. A rate rounded first, to 2, would give 2.2.
pub rate_is_exact : (measured hand (read 0 90 60) ≡ given (pos 18)) × (measured hand (read 0 2 1) ≡ given (pos 22))
unfolding measured answer dial_holds speed outside value_from none_round every nearest rounded
rate_is_exact = (refl, refl)

-- The dial passes 9999: from 9940 to 80 are 140 divisions, in a minute 2 1/3 a second, 2.5 m/s.
pub dial_passes : (turns 9940 80 ≡ 140) × (measured hand (read 9940 80 60) ≡ given (pos 25))
unfolding measured answer dial_holds speed outside value_from none_round every nearest rounded
dial_passes = (refl, refl)

-- 0 and 601 seconds, and a dial at 10000, are refusal 23.
pub limits_of_the_dial :
    (measured hand (read 0 60 0) ≡ refused 23) × (measured hand (read 0 1200 601) ≡ refused 23)
    × (measured hand (read 10000 60 60) ≡ refused 23) × (measured hand (read 9999 10000 60) ≡ refused 23)
unfolding measured answer dial_holds
limits_of_the_dial = (refl, refl, refl, refl)

-- A store without an anemometer: refusal 24, whatever the dial says.
pub no_anemometer : measured (record { points = 0; point = rate_point_at [] }) (read 0 60 60) ≡ refused 24
unfolding measured answer dial_holds outside none_round every
no_anemometer = refl

-- 10° by the compass with course 350 are 20° from the bow; 360° with course 0 are kept as 0.
pub round_the_circle : (from_bow 10 350 ≡ 20) × (from_bow 360 0 ≡ 0) × (from_bow 0 1 ≡ 359) × (from_bow 300 260 ≡ 40)
unfolding from_bow
round_the_circle = (refl, refl, refl, refl)
