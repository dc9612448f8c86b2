-- The law of the line, one for every certificate. The barometer's, document 01: "Scale correction: the straight line between the two
-- certificate points round the reading, rounded to 0.1; at a point, that point's correction." The hand anemometer's, document 02, W5:
-- "Speed is the straight line between the neighbouring points at the exact rate, rounded to 0.1."
use Rattle.std.specs.Prelude.{Bool, not, ◌&&◌, cond, List, ℕ, zero, suc, ◌+◌, ◌-◌, ◌/◌, ℤ, pos, nat_abs, ◌+ℤ◌, ◌-ℤ◌, ◌*ℤ◌, get_or, Option, Some, None}
use Rattle.std.specs.Int.Signed.{le_z}
use Rattle.number.specs.Round.{rounded}
use Rattle.number.specs.Refusal.{Answer, refused, given}
use Rattle.settings.specs.Settings.{every}
use Rattle.cell.specs.Cells.{unbiased}
use Rattle.certificate.specs.declared.Corner.{Corner}
use Rattle.number.specs.declared.Number.{Number}

-- ---- two points

-- "strictly rising"
abbrev pub rises : Corner → Corner → Bool
rises p q = not (le_z q.reads.v p.reads.v)

-- "the two certificate points round the reading", "the neighbouring points": the first with the lower reading
abbrev pub stands : Corner → Corner → ℤ → Bool
stands p q x = rises p q && le_z p.reads.v x && le_z x q.reads.v

-- "the straight line between the two .. points", times the distance of their readings
abbrev pub line : Corner → Corner → ℤ → ℤ
line p q x = p.gives.v *ℤ (q.reads.v -ℤ x) +ℤ q.gives.v *ℤ (x -ℤ p.reads.v)

-- "rounded to 0.1", as a whole
abbrev pub between : Corner → Corner → ℤ → ℤ
between p q x = rounded (line p q x) (nat_abs (q.reads.v -ℤ p.reads.v))

-- ---- a certificate, by the places of its points from 0

-- Of n pairs of neighbours from place i on, the first that stands round x gives the value. (Where the readings rise every pair that
-- stands round it gives the same: `any_from`.)
unfoldable pub value_from : (ℕ → Corner) → ℤ → ℕ → ℕ → ℤ
value_from corner x i zero = pos 0
value_from corner x i (suc n) =
    cond (stands (corner i) (corner (i + 1)) x) (between (corner i) (corner (i + 1)) x) (value_from corner x (i + 1) n)

-- None of the first n pairs stands round x.
unfoldable pub none_round : (ℕ → Corner) → ℤ → ℕ → Bool
none_round corner x n = every (λ i. not (stands (corner i) (corner (i + 1)) x)) 0 n

-- What a certificate of n points gives at x.
unfoldable pub valued : (ℕ → Corner) → ℕ → ℤ → Answer (Unit {0}) ℤ
valued corner n x = cond (none_round corner x (n - 1)) (refused tt) (given (value_from corner x 0 (n - 1)))

-- ---- its points as a block holds them

-- What a point reads in the low half of its word, what that gives in the high half. A rate is turns over seconds: x is the turns, and
-- what the points read is taken times the seconds, so that every number is whole. Of a barometer the scale is 1.
abbrev pub corner_in : ℕ → ℕ → Corner
corner_in scale w = record { reads = record { v = unbiased w *ℤ pos scale }; gives = record { v = unbiased (w / 65536) } }

abbrev pub corner_at : ℕ → List ℕ → ℕ → Corner
corner_at scale words i = corner_in scale (get_or words i 0)

-- What each case says.
abbrev pub valued_as : Option Number → Answer (Unit {0}) ℤ
valued_as (Some n) = given n.v
valued_as None = refused tt
