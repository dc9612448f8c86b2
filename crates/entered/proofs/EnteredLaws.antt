-- From what the desk and the told refusal say to what is promised of a record: a question's refusal has a number, so that one without
-- is none; and a kind is one of four. Assumes nothing.
use mathlib.Core.Path.{◌≡◌, refl, sym, ap, ◌∙◌, subst}
use mathlib.Core.Bool.{Bool, true, false, true≢false}
use mathlib.Core.List.{List}
use Prim.Native.Nat.{ℕ, ◌≤◌, ◌<◌}
use native.Mathlib.Omega.{arith}
use native.Mathlib.Decide.{dec_lt}
use lib.Dec.{eqb, leb}
use borrow.Author.Tests.{leb-true}
use Rattle.number.specs.Refusal.{Numbered, Answer, refused, given}
use Rattle.station.specs.Told.{refusal_of}
use Rattle.station.specs.Questions.{Asked, Reply, question, TellsOf}
use Rattle.station.specs.Questions as asked
use Rattle.station.specs.declared.QuestionRefusal.{QuestionRefusal}
use Rattle.station.specs.declared.QuestionRefusal.TheVariants.{MinuteTooLate, OutsideLimits, MissingReading, OutsideCertificate, WetAboveDry, NoThreeHours, TooDry, TooWarmForIce, UnknownOutsideRange, AboveSaturation, NoStore}
use Rattle.watchfile.specs.Rules.{kind_right}
use Rattle.watchfile.specs.declared.Record.{Record}
use Rattle.std.specs.Prelude.{Option, Some, None, Ok, Err}
use Rattle.told.specs.Told.{Told, told_in}
use Rattle.told.specs.declared.Refusal.{Refusal}
use Rattle.entered.specs.Entered.{asked_by, entry_of, unfit, refusal_for, refusal_beside, words_for, RecordedAs, RecordedBy}

-- ---- a refusal has a number

some : (r : QuestionRefusal) → eqb (refusal_of r).number 0 ≡ false
some MinuteTooLate = refl
some OutsideLimits = refl
some (MissingReading c m) = refl
some (OutsideCertificate m) = refl
some WetAboveDry = refl
some NoThreeHours = refl
some TooDry = refl
some TooWarmForIce = refl
some UnknownOutsideRange = refl
some AboveSaturation = refl
some NoStore = refl

-- The refusal of an answer as it is told.
abbrev refusal_told : (q : Asked) → Told q → Refusal
refusal_told asked.pressure t = t.refusal
refusal_told asked.tendency t = t.refusal
refusal_told asked.wind t = t.refusal
refusal_told asked.humidity t = t.refusal

beside : (q : Asked) (e : Option Record) (a : Reply q) → refusal_beside e (refusal_told q (told_in q ((question q).told a))) ≡ refusal_for e ((question q).told a)
beside asked.pressure (Some r) a = refl
beside asked.tendency (Some r) a = refl
beside asked.wind (Some r) a = refl
beside asked.humidity (Some r) a = refl
beside asked.pressure None (Ok x) = refl
beside asked.pressure None (Err r) = rw (some r)
beside asked.tendency None (Ok x) = refl
beside asked.tendency None (Err r) = rw (some r)
beside asked.wind None (Ok x) = refl
beside asked.wind None (Err r) = rw (some r)
beside asked.humidity None (Ok x) = refl
beside asked.humidity None (Err r) = rw (some r)

pub recorded : (q : Asked) (s : List ℕ) (m : ℕ) (before after : List ℕ) (r : Refusal) (a : Reply q) (e : Option Record) (t : Told q)
    → TellsOf q s m a → e ≡ entry_of q m a → t ≡ told_in q ((question q).told a) → r ≡ refusal_beside e (refusal_told q t) → after ≡ words_for e before
    → RecordedAs q s m before after r
recorded q s m before after r a e t right is told answered left =
    record {
      answer = a;
      right = right;
      told = answered ∙ ap (λ (x : Told q). refusal_beside e (refusal_told q x)) told ∙ beside q e a ∙ ap (λ (x : Option Record). refusal_for x ((question q).told a)) is;
      words = left ∙ ap (λ (x : Option Record). words_for x before) is;
    }

-- ---- a kind is one of four

module _ (kind : ℕ) (s : List ℕ) (m : ℕ) (before after : List ℕ) (r : Refusal) where
  pub of_kind : (q : Asked) → asked_by kind ≡ q → kind_right kind ≡ true → RecordedAs q s m before after r → RecordedBy kind s m before after r
  of_kind q e right x =
      record {
        of_kind = λ h. subst (λ (p : Asked). RecordedAs p s m before after r) (sym e) x;
        no_kind = λ h. absurd (true≢false (sym right ∙ h));
      }

  pub no_kind : kind_right kind ≡ false → r ≡ unfit → after ≡ before → RecordedBy kind s m before after r
  no_kind wrong e l = record { of_kind = λ h. absurd (true≢false (sym h ∙ wrong)); no_kind = λ h. (e, l) }

-- numbers of kinds, and of none
pub right_is : (kind n : ℕ) → kind ≡ n → kind_right n ≡ true → kind_right kind ≡ true
right_is kind n e h = ap kind_right e ∙ h

pub the_first : kind_right 1 ≡ true
unfolding kind_right
the_first = refl

pub the_second : kind_right 2 ≡ true
unfolding kind_right
the_second = refl

pub the_third : kind_right 3 ≡ true
unfolding kind_right
the_third = refl

pub the_fourth : kind_right 4 ≡ true
unfolding kind_right
the_fourth = refl

pub no_other : (kind : ℕ) → (kind ≡ 1 → ⊥) → (kind ≡ 2 → ⊥) → (kind ≡ 3 → ⊥) → (kind ≡ 4 → ⊥) → kind_right kind ≡ false
unfolding kind_right
no_other kind a b c d = go (leb 1 kind) refl (leb kind 4) refl
  where
    among : 1 ≤ kind → kind ≤ 4 → Dec (kind < 2) → Dec (kind < 3) → Dec (kind < 4) → ⊥
    among l h (yes x) y z = a (omega arith)
    among l h (no x) (yes y) z = b (omega arith)
    among l h (no x) (no y) (yes z) = c (omega arith)
    among l h (no x) (no y) (no z) = d (omega arith)

    go : (x : Bool) → leb 1 kind ≡ x → (y : Bool) → leb kind 4 ≡ y → kind_right kind ≡ false
    go false e y f = rw e
    go true e false f = rw (e, f)
    go true e true f = absurd (among (leb-true 1 kind e) (leb-true kind 4 f) (dec_lt kind 2) (dec_lt kind 3) (dec_lt kind 4))
