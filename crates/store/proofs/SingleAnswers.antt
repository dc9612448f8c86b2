-- Each public contract of this crate allows a single answer, and `open` and `hear` a single block to be left. Assumes nothing.
use mathlib.Core.Path.{◌≡◌, refl, sym, ap, ◌∙◌}
use mathlib.Core.Bool.{cond}
use mathlib.Core.List.{List, [], ◌∷◌}
use Prim.Native.Nat.{ℕ}
use lib.Dec.{eqb}
use Rattle.number.specs.Single.{Single, SingleLeft}
use Rattle.number.specs.Refusal.{Numbered, Answer, refused, given}
use Rattle.quantity.specs.declared.Minute.{Minute}
use Rattle.wire.proofs.SingleAnswers.{refusal}
use Rattle.wire.specs.declared.MessageRefusal.{MessageRefusal}
use Rattle.wire.specs.declared.MessageRefusal.TheVariants.{NotSixteenBytes, NoSuchChannel, ByteNotZero, NoSuchState, MinuteTooLate, NotFinite, OutsideLimits}
use Rattle.settings.proofs.SingleAnswers.{case_of, case_back}
use Rattle.cell.proofs.SingleAnswers.{recall_of_lem, recall_back}
use Rattle.block.specs.Layout.{NO_STORE}
use Rattle.store.specs.Block.{heard_as}
use Rattle.std.specs.Prelude.{Result, Ok, Err}
use Rattle.store.specs.declared.HearingRefusal.{HearingRefusal}
use Rattle.store.specs.declared.HearingRefusal.TheVariants.{Message, Repeated, Late, OutsideDial, NoCourse, OutsideAnemometer, NoStore}
use Rattle.store.proofs.number.Reads as number
use Rattle.store.proofs.«open».Reads as opening
use Rattle.store.proofs.hear.Reads as hear
use Rattle.store.proofs.note.Reads as note
use Rattle.store.proofs.recall.Reads as recall
use Rattle.store.proofs.next.Reads as next
use Rattle.store.proofs.missing_minutes.Reads as missing-minutes

pub single_number : Single number.Post
single_number κs a r r' s s' p q = p ∙ sym q

-- ---- open

pub single_open : Single opening.Post
single_open κs a r r' s s' p q = sym (case_back r) ∙ ap case_of (p.0 ∙ sym q.0) ∙ case_back r'

pub single_open_left : SingleLeft opening.Post (λ κs s. s.0.now)
single_open_left κs a r r' s s' p q = p.1 ∙ sym q.1

-- ---- hear

abbrev minutes_late : List ℕ → ℕ
minutes_late [] = 0
minutes_late (minutes ∷ more) = minutes

-- 11 returns channel and minute
abbrev course_minute : List ℕ → Minute
course_minute [] = record { 0 = 0 }
course_minute (c ∷ []) = record { 0 = 0 }
course_minute (c ∷ m ∷ more) = record { 0 = m }

abbrev refused_of : ℕ → List ℕ → HearingRefusal
refused_of n extra =
    cond (eqb n 8) Repeated
    (cond (eqb n 19) (Late (minutes_late extra))
    (cond (eqb n 23) OutsideDial
    (cond (eqb n 11) (NoCourse (course_minute extra))
    (cond (eqb n 24) OutsideAnemometer
    (cond (eqb n NO_STORE) NoStore
    (Message (refusal n)))))))

unfoldable pub hearing_of : Answer Numbered (Unit {0}) → Result (Unit {0}) HearingRefusal
hearing_of (refused r) = Err (refused_of r.number r.extra)
hearing_of (given a) = Ok tt

refusal_back : (r : MessageRefusal) → hearing_of (heard_as (Err (Message r))) ≡ Err (Message r)
unfolding hearing_of
refusal_back NotSixteenBytes = refl
refusal_back NoSuchChannel = refl
refusal_back ByteNotZero = refl
refusal_back NoSuchState = refl
refusal_back MinuteTooLate = refl
refusal_back NotFinite = refl
refusal_back OutsideLimits = refl

pub hearing_back : (h : Result (Unit {0}) HearingRefusal) → hearing_of (heard_as h) ≡ h
unfolding hearing_of
hearing_back (Ok u) = refl
hearing_back (Err (Message r)) = refusal_back r
hearing_back (Err Repeated) = refl
hearing_back (Err (Late minutes)) = refl
hearing_back (Err OutsideDial) = refl
hearing_back (Err (NoCourse m)) = refl
hearing_back (Err OutsideAnemometer) = refl
hearing_back (Err NoStore) = refl

pub single_hear : Single hear.Post
single_hear κs a r r' s s' p q = sym (hearing_back r) ∙ ap hearing_of (p.answer ∙ sym q.answer) ∙ hearing_back r'

pub single_hear_left : SingleLeft hear.Post (λ κs s. s.0.now)
single_hear_left κs a r r' s s' p q = p.block ∙ sym q.block

-- ---- note

pub single_note : Single note.Post
single_note κs a r r' s s' p q = sym (hearing_back r) ∙ ap hearing_of (p.answer ∙ sym q.answer) ∙ hearing_back r'

pub single_note_left : SingleLeft note.Post (λ κs s. s.0.now)
single_note_left κs a r r' s s' p q = p.block ∙ sym q.block

-- ---- asking

pub single_recall : Single recall.Post
single_recall κs a r r' s s' p q = sym (recall_back a.1.1.0 r) ∙ ap recall_of_lem (p ∙ sym q) ∙ recall_back a.1.1.0 r'

pub single_next : Single next.Post
single_next κs a r r' s s' p q = p ∙ sym q

pub single_missing_minutes : Single missing-minutes.Post
single_missing_minutes κs a r r' s s' p q = p ∙ sym q
