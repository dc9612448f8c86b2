-- Each public contract of this crate allows a single answer, and a single buffer to be left. Assumes nothing.
use mathlib.Core.Path.{◌≡◌, refl, sym, ap, ◌∙◌}
use mathlib.Core.Bool.{cond}
use Prim.Native.Nat.{ℕ}
use lib.Dec.{eqb}
use lib.ListN.{get_or}
use Rattle.number.specs.Single.{Single, SingleLeft}
use Rattle.number.specs.Refusal.{Answer, refused, given, Numbered}
use Rattle.watchfile.proofs.DewRules.{the_rule}
use Rattle.writer.proofs.SingleAnswers as writer
use Rattle.watchlog.specs.Placing.{placed_as}
use Rattle.std.specs.Prelude.{Result, Ok, Err}
use Rattle.writer.specs.declared.WriteRefusal.TheVariants.{BreaksRules, TooShort}
use Rattle.watchlog.specs.declared.PlaceRefusal.{PlaceRefusal}
use Rattle.watchlog.specs.declared.PlaceRefusal.TheVariants.{Write, Broken, NoRecord}
use Rattle.watchlog.proofs.place.Reads as place
use Rattle.watchlog.proofs.write.Reads as write
use Rattle.watchlog.proofs.take_out.Reads as take_out

case_of : Answer Numbered ℕ → Result ℕ PlaceRefusal
case_of (refused r) =
    Err (cond (eqb r.number 16) (Write (BreaksRules (get_or r.extra 0 0)))
    (cond (eqb r.number 17) (Write (TooShort (get_or r.extra 0 0))) (cond (eqb r.number 18) (Broken (record { 0 = get_or r.extra 0 0 })) NoRecord)))
case_of (given n) = Ok n

case_back : (p : Result ℕ PlaceRefusal) → case_of (placed_as p) ≡ p
unfolding case_of
case_back (Ok n) = refl
case_back (Err (Write (BreaksRules i))) = refl
case_back (Err (Write (TooShort n))) = refl
case_back (Err (Broken b)) = refl
case_back (Err NoRecord) = refl

pub single_place : Single place.Post
single_place κs a r r' s s' p q =
    sym (case_back r) ∙ ap case_of ((p the_rule.0 the_rule.1).answer ∙ sym (q the_rule.0 the_rule.1).answer) ∙ case_back r'

pub single_place_left : SingleLeft place.Post (λ κs s. s.0.now)
single_place_left κs a r r' s s' p q = (p the_rule.0 the_rule.1).bytes ∙ sym (q the_rule.0 the_rule.1).bytes

pub single_write : Single write.Post
single_write κs a r r' s s' p q =
    sym (writer.case_back r) ∙ ap writer.case_of ((p the_rule.0 the_rule.1).answer ∙ sym (q the_rule.0 the_rule.1).answer) ∙ writer.case_back r'

pub single_write_left : SingleLeft write.Post (λ κs s. s.0.now)
single_write_left κs a r r' s s' p q = (p the_rule.0 the_rule.1).bytes ∙ sym (q the_rule.0 the_rule.1).bytes

pub single_take_out : Single take_out.Post
single_take_out κs a r r' s s' p q =
    sym (case_back r) ∙ ap case_of ((p the_rule.0 the_rule.1).answer ∙ sym (q the_rule.0 the_rule.1).answer) ∙ case_back r'

pub single_take_out_left : SingleLeft take_out.Post (λ κs s. s.0.now)
single_take_out_left κs a r r' s s' p q = (p the_rule.0 the_rule.1).bytes ∙ sym (q the_rule.0 the_rule.1).bytes
