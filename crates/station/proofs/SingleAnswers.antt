-- Each public contract of this crate allows a single answer, and `open`, `hear` and `note` a single block to be left: the tests are the same,
-- a refusal is told by its number and extras, and each rule allows one figure. Assumes nothing.
use mathlib.Core.Path.{◌≡◌, refl, sym, ap, ◌∙◌}
use mathlib.Core.Bool.{cond}
use mathlib.Core.List.{List, [], ◌∷◌, ◌++◌}
use Prim.Native.Nat.{ℕ}
use lib.Dec.{eqb}
use lib.IntN.{ℤ}
use lib.ListN.{get_or}
use Rattle.std.specs.Prelude.{Result, Ok, Err, Some}
use Rattle.number.specs.Single.{Single, SingleLeft}
use Rattle.number.specs.Refusal.{Numbered, Test, Answer, refused, given}
use Rattle.quantity.specs.declared.Hectopascals.{Hectopascals}
use Rattle.quantity.specs.declared.Minute.{Minute}
use Rattle.settings.proofs.SingleAnswers.{case_of, case_back}
use Rattle.store.proofs.SingleAnswers.{hearing_of, hearing_back}
use Rattle.vapour.proofs.TablesExist.{the_tables}
use Rattle.wind.specs.declared.Wind.{Wind}
use Rattle.wind.proofs.WindTheorems.{single_wind}
use Rattle.humidity.specs.declared.HumidityFigures.{HumidityFigures}
use Rattle.humidity.proofs.SingleAnswers.{one_humidity}
use Rattle.station.specs.Source.{Source, held}
use Rattle.store.specs.Block.{no_store}
use Rattle.station.specs.Questions.{Asked, question, Reply, AnsweredBy, TellsOf, foreign_to, TendencyRule}
use Rattle.station.specs.Questions as asked
use Rattle.station.specs.Told.{Change, refusal_of, numbered_as, pressure_as, tendency_as, wind_as, humidity_as}
use Rattle.station.specs.declared.QuestionRefusal.{QuestionRefusal}
use Rattle.station.specs.declared.QuestionRefusal.TheVariants.{MinuteTooLate, OutsideLimits, MissingReading, OutsideCertificate, WetAboveDry, NoThreeHours, TooDry, TooWarmForIce, UnknownOutsideRange, AboveSaturation, NoStore}
use Rattle.station.specs.declared.Refused.{Refused}
use Rattle.station.specs.declared.Refused.TheVariants.{Plain, OfMinute, OfReading}
use Rattle.station.specs.declared.PressureTendency.{PressureTendency}
use Rattle.station.proofs.AnswerLaws.{one_answer}
use Rattle.station.proofs.«open».Reads as opening
use Rattle.station.proofs.hear.Reads as hear
use Rattle.station.proofs.note.Reads as note
use Rattle.station.proofs.number.Reads as number
use Rattle.station.proofs.pressure.Reads as pressure
use Rattle.station.proofs.tendency.Reads as tendency
use Rattle.station.proofs.wind.Reads as wind
use Rattle.station.proofs.humidity.Reads as humidity

-- ---- open, hear and note

pub single_open : Single opening.Post
single_open κs a r r' s s' p q = sym (case_back r) ∙ ap case_of (p.0 ∙ sym q.0) ∙ case_back r'

pub single_open_left : SingleLeft opening.Post (λ κs s. s.0.now)
single_open_left κs a r r' s s' p q = p.1 ∙ sym q.1

pub single_hear : Single hear.Post
single_hear κs a r r' s s' p q = sym (hearing_back r) ∙ ap hearing_of (p.answer ∙ sym q.answer) ∙ hearing_back r'

pub single_hear_left : SingleLeft hear.Post (λ κs s. s.0.now)
single_hear_left κs a r r' s s' p q = p.block ∙ sym q.block

pub single_note : Single note.Post
single_note κs a r r' s s' p q = sym (hearing_back r) ∙ ap hearing_of (p.answer ∙ sym q.answer) ∙ hearing_back r'

pub single_note_left : SingleLeft note.Post (λ κs s. s.0.now)
single_note_left κs a r r' s s' p q = p.block ∙ sym q.block

-- ---- a refusal is told by its number and extras

minute_of : ℕ → Minute
minute_of m = record { 0 = m }

refusal : Numbered → QuestionRefusal
unfolding minute_of
refusal n =
    cond (eqb n.number 5) MinuteTooLate
    (cond (eqb n.number 7) OutsideLimits
    (cond (eqb n.number 11) (MissingReading (get_or n.extra 0 0) (minute_of (get_or n.extra 1 0)))
    (cond (eqb n.number 12) (OutsideCertificate (minute_of (get_or n.extra 0 0)))
    (cond (eqb n.number 13) WetAboveDry
    (cond (eqb n.number 14) NoThreeHours
    (cond (eqb n.number 15) TooDry
    (cond (eqb n.number 20) TooWarmForIce
    (cond (eqb n.number 21) UnknownOutsideRange
    (cond (eqb n.number 22) AboveSaturation
    NoStore)))))))))

refusal_back : (r : QuestionRefusal) → refusal (refusal_of r) ≡ r
unfolding refusal
refusal_back MinuteTooLate = refl
refusal_back OutsideLimits = refl
refusal_back (MissingReading c m) = refl
refusal_back (OutsideCertificate m) = refl
refusal_back WetAboveDry = refl
refusal_back NoThreeHours = refl
refusal_back TooDry = refl
refusal_back TooWarmForIce = refl
refusal_back UnknownOutsideRange = refl
refusal_back AboveSaturation = refl
refusal_back NoStore = refl

-- and so is the number itself
number_of : ℕ → List ℕ → Refused
unfolding minute_of
number_of n [] = Plain n
number_of n (m ∷ []) = OfMinute n (minute_of m)
number_of n (c ∷ m ∷ more) = OfReading n c (minute_of m)

number_back : (r : Refused) → number_of (numbered_as r).number (numbered_as r).extra ≡ r
unfolding number_of
number_back (Plain n) = refl
number_back (OfMinute n m) = refl
number_back (OfReading n c m) = refl

pub single_number : Single number.Post
single_number κs a r r' s s' p q =
    sym (number_back r) ∙ ap (λ (n : Numbered). number_of n.number n.extra) (p ∙ sym q) ∙ number_back r'

tenths : ℤ → Hectopascals
tenths z = record { 0 = record { v = z } }

-- ---- pressure

pressure_of_lem : Answer Numbered ℤ → Result Hectopascals QuestionRefusal
pressure_of_lem (refused n) = Err (refusal n)
pressure_of_lem (given p) = Ok (tenths p)

pressure_back : (r : Result Hectopascals QuestionRefusal) → pressure_of_lem (pressure_as r) ≡ r
unfolding pressure_of_lem tenths
pressure_back (Ok p) = refl
pressure_back (Err r) = ap Err (refusal_back r)

-- ---- tendency

change_of_lem : ℤ → ℕ → Change
change_of_lem z n = record { change = z; absent = n }

one_change : (S : Source) (m : ℕ) (x y : Change) → TendencyRule S m x → TendencyRule S m y → x ≡ y
unfolding change_of_lem
one_change S m x y v w = all
  where
    all : change_of_lem x.change x.absent ≡ change_of_lem y.change y.absent
    all = let p = v.change ∙ sym w.change in let q = v.absent ∙ sym w.absent in cc

tendency_of : Answer Numbered Change → Result PressureTendency QuestionRefusal
tendency_of (refused n) = Err (refusal n)
tendency_of (given t) = Ok (record { change = tenths t.change; absent = t.absent })

tendency_back : (r : Result PressureTendency QuestionRefusal) → tendency_of (tendency_as r) ≡ r
unfolding tendency_of tenths
tendency_back (Ok t) = refl
tendency_back (Err r) = ap Err (refusal_back r)

-- ---- wind and humidity

result_of : {A : Type 0} → Answer Numbered A → Result A QuestionRefusal
result_of (refused n) = Err (refusal n)
result_of (given a) = Ok a

wind_back : (r : Result Wind QuestionRefusal) → result_of (wind_as r) ≡ r
unfolding result_of
wind_back (Ok w) = refl
wind_back (Err r) = ap Err (refusal_back r)

humidity_back : (r : Result HumidityFigures QuestionRefusal) → result_of (humidity_as r) ≡ r
unfolding result_of
humidity_back (Ok h) = refl
humidity_back (Err r) = ap Err (refusal_back r)

-- ---- each question

-- the answer of a number or of figures, of which none is another's
answer_of : (q : Asked) → Answer Numbered (question q).Figures → Reply q
answer_of asked.pressure = pressure_of_lem
answer_of asked.tendency = tendency_of
answer_of asked.wind = result_of
answer_of asked.humidity = result_of

answer_back : (q : Asked) (r : Reply q) → answer_of q ((question q).told r) ≡ r
unfolding answer_of
answer_back asked.pressure = pressure_back
answer_back asked.tendency = tendency_back
answer_back asked.wind = wind_back
answer_back asked.humidity = humidity_back

one_wind : (x y : Wind) → Some x ≡ Some y → x ≡ y
one_wind x y e = cc

-- its rule allows one figure
one_figure_lem : (q : Asked) (S : Source) (m : ℕ) (x y : (question q).Figures) → (question q).Rule S m x → (question q).Rule S m y → x ≡ y
one_figure_lem asked.pressure S m x y v w = v ∙ sym w
one_figure_lem asked.tendency S m x y v w = one_change S m x y v w
one_figure_lem asked.wind S m x y v w = one_wind x y (single_wind _ _ _ _ (Some x) (Some y) v w)
one_figure_lem asked.humidity S m x y v w = one_humidity _ _ _ _ _ x y v w

pub one_reply : (q : Asked) (before more : List (Test Numbered)) (S : Source) (m : ℕ) (r r' : Reply q)
    → AnsweredBy q before more S m r → AnsweredBy q before more S m r' → r ≡ r'
one_reply q before more S m r r' v w =
    let t = the_tables in
    sym (answer_back q r)
    ∙ ap (answer_of q)
    (one_answer (before ++ (question q).tests more t.0 S m) ((question q).Rule S m) (one_figure_lem q S m) ((question q).told r) ((question q).told r') (v t.0 t.1) (w t.0 t.1))
    ∙ answer_back q r'

one_of : (q : Asked) (s : List ℕ) (m : ℕ) (r r' : Reply q) → TellsOf q s m r → TellsOf q s m r' → r ≡ r'
one_of q s m = one_reply q (no_store s ∷ []) (foreign_to q (held s) m) (held s) m

pub single_pressure : Single pressure.Post
single_pressure κs a r r' s s' p q = one_of asked.pressure a.0.now a.1.0 r r' p.0 q.0

pub single_tendency : Single tendency.Post
single_tendency κs a r r' s s' p q = one_of asked.tendency a.0.now a.1.0 r r' p.0 q.0

pub single_wind_answer : Single wind.Post
single_wind_answer κs a r r' s s' p q = one_of asked.wind a.0.now a.1.0 r r' p.0 q.0

pub single_humidity : Single humidity.Post
single_humidity κs a r r' s s' p q = one_of asked.humidity a.0.now a.1.0 r r' p.0 q.0
