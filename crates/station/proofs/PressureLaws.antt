-- Pressure and tendency: what the work of the readings of a minute comes to. Assumes nothing.
use mathlib.Core.Path.{◌≡◌, refl, sym, ap, ap₂, subst, ◌∙◌}
use mathlib.Core.Bool.{Bool, true, false, cond}
use mathlib.Core.List.{List, [], ◌∷◌}
use Prim.Native.Nat.{ℕ, ◌≤◌}
use native.Mathlib.Omega.{arith}
use lib.Dec.{lit≤, lit<}
use lib.IntN.{ℤ, pos, neg_ℤ, nat_abs, ◌-ℤ◌}
use Rattle.std.specs.Prelude.{Result, Ok, Err}
use Rattle.std.specs.Result.{MatchResult}
use Rattle.number.specs.Refusal.{refused, given, answer}
use Rattle.number.proofs.Sizes.{impossible, within_size}
use Rattle.quantity.specs.Limits.{inside, wheelhouse}
use Rattle.quantity.specs.declared.Hectopascals.{Hectopascals}
use Rattle.message.specs.Receive.{Figure, entry_of}
use Rattle.message.proofs.Keep.{pressure_size}
use Rattle.cell.specs.Cells.{recalled, is_present, first}
use Rattle.block.specs.Words.{unit_of}
use Rattle.store.specs.Block.{recall_of}
use Rattle.pressure.specs.Pressure.{Barometer, barometer_of, reading_as, in_unit, tenths_in, outside, sea_level, sea_level_answer, station_pressure, station_answer, pressure_as}
use Rattle.pressure.specs.declared.BarometerReading.{BarometerReading}
use Rattle.pressure.specs.declared.BarometerReading.TheVariants as shown
use Rattle.pressure.specs.declared.PressureRefusal.{PressureRefusal}
use Rattle.pressure.specs.declared.PressureRefusal.TheVariants.{OutsideLimits, OutsideCertificate}
use Rattle.pressure.proofs.SizeLaws.{sea_level_stored}
use Rattle.station.specs.Source.{Source, held, in_celsius, reading_at}
use Rattle.station.specs.Questions.{Answers, outside_at, sea_level_at, station_at}
use Rattle.station.specs.Told as told
use Rattle.station.specs.Parts.{barometer_is, AreReadings, WorksSeaLevel, WorkedAt, refused_at}
use Rattle.station.specs.declared.QuestionRefusal.{QuestionRefusal}
use Rattle.station.specs.declared.Readings.{Readings}
use Rattle.station.proofs.AnswerLaws.{pass, stop, end}
use Rattle.station.proofs.KeptLaws.{first_inside, in_its_unit}

-- ---- a worked pressure

-- a reading in the barometer's unit is refused 12 where it lies outside the certificate, and else gives the figure
abbrev pub Got : Bool → ℤ → Result Hectopascals PressureRefusal → Type 0
Got is_outside z (Ok p) = (is_outside ≡ false) × (p.0.v ≡ z)
Got is_outside z (Err OutsideLimits) = ⊥
Got is_outside z (Err OutsideCertificate) = is_outside ≡ true

got : (o : Bool) (z : ℤ) (w : Result Hectopascals PressureRefusal) → pressure_as w ≡ cond o (refused 12) (given z) → Got o z w
got true z (Ok p) e = impossible (cc)
got true z (Err OutsideLimits) e = absurd (let z : ◌≡◌ {A = ℕ} 7 12 = cc in omega arith)
got true z (Err OutsideCertificate) e = refl
got false z (Ok p) e = (refl, cc)
got false z (Err OutsideLimits) e = impossible (cc)
got false z (Err OutsideCertificate) e = impossible (cc)

-- of what is in the barometer's unit
module _ (b : Barometer) (f : Figure) (w : Result Hectopascals PressureRefusal) (shown : in_unit b.unit f ≡ true) where
  pub sea_level_got : (t : ℤ) → inside wheelhouse t ≡ true → pressure_as w ≡ sea_level_answer b f t
      → Got (outside b (tenths_in b.unit f)) (sea_level b (tenths_in b.unit f) t) w
  unfolding sea_level_answer answer
  sea_level_got t j e = got _ _ w (e ∙ rw (shown, j))

  pub station_got : pressure_as w ≡ station_answer b f → Got (outside b (tenths_in b.unit f)) (station_pressure b (tenths_in b.unit f)) w
  unfolding station_answer answer
  station_got e = got _ _ w (e ∙ rw shown)

-- what such a work tells of a minute
pub pressure_told : (S : Source) (m : ℕ) (z : ℤ) (w : Result Hectopascals PressureRefusal) → Got (outside S.barometer (reading_at S m)) z w
    → (r : Result Hectopascals QuestionRefusal) → MatchResult w (λ p. r ≡ Ok p) (λ q. r ≡ Err (refused_at m q))
    → Answers (outside_at S m ∷ []) (λ p. p ≡ z) (told.pressure_as r)
pressure_told S m z (Ok p) g r is = rw is (pass _ _ _ _ g.0 (end _ _ g.1))
pressure_told S m z (Err OutsideLimits) g r is = absurd g
pressure_told S m z (Err OutsideCertificate) g r is = rw is (stop _ _ _ g)

-- by how it was told
pub worked_as : (S : Source) (m : ℕ) (r r' : Result Hectopascals QuestionRefusal) → WorkedAt S m r → r ≡ r' → WorksSeaLevel S m r'
worked_as S m r r' w e = subst (WorksSeaLevel S m) e w.sea_level

-- ---- the readings of a minute

as_figure : (m : ℕ) (r : BarometerReading) → first (recalled (entry_of m (barometer_is r))) ≡ reading_as r
as_figure m (shown.Hectopascals p) = refl
as_figure m (shown.Millimetres p) = refl

module _ (s : List ℕ) (m : ℕ) where
  -- what the barometer shows, worked to the pressure at the station
  module _ (r : BarometerReading) (is : recall_of s 0 m ≡ recalled (entry_of m (barometer_is r))) where
    figure : first (recall_of s 0 m) ≡ reading_as r
    figure = ap first is ∙ as_figure m r

    pub shown_there : is_present (recall_of s 0 m) ≡ true
    shown_there = ap is_present is

    pub station_worked : (w : Result Hectopascals PressureRefusal) → pressure_as w ≡ station_answer (barometer_of s) (reading_as r)
        → let S = held s in Got (outside S.barometer (reading_at S m)) (station_at S m) w
    station_worked w worked =
        station_got (barometer_of s) (first (recall_of s 0 m)) w (in_its_unit s m shown_there) (worked ∙ ap (station_answer (barometer_of s)) (sym figure))

  module _ (r : Readings) (are : AreReadings (held s) m r) where
    warm : inside wheelhouse (in_celsius (recall_of s 1 m)) ≡ true
    warm = first_inside s 1 m (lit< tt) (ap is_present are.wheelhouse)

    -- and both readings to that at sea level
    pub sea_level_worked : (w : Result Hectopascals PressureRefusal) → pressure_as w ≡ sea_level_answer (barometer_of s) (reading_as r.barometer) r.wheelhouse.0.v
        → let S = held s in Got (outside S.barometer (reading_at S m)) (sea_level_at S m) w
    sea_level_worked w worked =
        sea_level_got (barometer_of s) (first (recall_of s 0 m)) w (in_its_unit s m (shown_there r.barometer are.barometer)) (in_celsius (recall_of s 1 m)) warm
        (worked ∙ ap₂ (sea_level_answer (barometer_of s)) (sym (figure r.barometer are.barometer)) (sym (ap in_celsius are.wheelhouse)))

    -- The pressures of any block are small enough for their difference to fit.
    pub at_size : nat_abs (sea_level_at (held s) m) ≤ 187828
    at_size =
        sea_level_stored s (reading_at (held s) m) (in_celsius (recall_of s 1 m))
        (omega (arith, pressure_size (unit_of s) (reading_at (held s) m) (first_inside s 0 m (lit< tt) (shown_there r.barometer are.barometer))))
        (within_size (neg_ℤ (pos 400)) (pos 600) (in_celsius (recall_of s 1 m)) 600 (lit≤ tt) (lit≤ tt) warm)

pub less : {a b c d : ℤ} → a ≡ c → b ≡ d → a -ℤ b ≡ c -ℤ d
less p q = cc
