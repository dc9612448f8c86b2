-- The public contract of this crate allows a single answer and a single buffer, by the one rule of the dew point there is.
-- Assumes nothing.
use mathlib.Core.Path.{◌≡◌, refl, sym, ap, ◌∙◌}
use mathlib.Core.Bool.{cond}
use Prim.Native.Nat.{ℕ}
use lib.Dec.{eqb}
use lib.ListN.{get_or}
use Rattle.number.specs.Single.{Single, SingleLeft}
use Rattle.number.specs.Refusal.{Answer, refused, given, Numbered}
use Rattle.watchfile.proofs.DewRules.{the_rule}
use Rattle.writer.specs.Write.{written_as}
use Rattle.std.specs.Prelude.{Result, Ok, Err}
use Rattle.writer.specs.declared.WriteRefusal.{WriteRefusal}
use Rattle.writer.specs.declared.WriteRefusal.TheVariants.{BreaksRules, TooShort}
use Rattle.writer.proofs.write.Reads as write

pub case_of : Answer Numbered ℕ → Result ℕ WriteRefusal
case_of (refused r) = Err (cond (eqb r.number 16) (BreaksRules (get_or r.extra 0 0)) (TooShort (get_or r.extra 0 0)))
case_of (given n) = Ok n

pub case_back : (w : Result ℕ WriteRefusal) → case_of (written_as w) ≡ w
unfolding case_of
case_back (Ok n) = refl
case_back (Err (BreaksRules i)) = refl
case_back (Err (TooShort n)) = refl

pub single_write : Single write.Post
single_write κs a r r' s s' p q =
    sym (case_back r) ∙ ap case_of ((p the_rule.0 the_rule.1).answer ∙ sym (q the_rule.0 the_rule.1).answer) ∙ case_back r'

-- the bytes behind the buffer's reference, at exit
pub single_write_bytes : SingleLeft write.Post (λ κs s. s.0.now)
single_write_bytes κs a r r' s s' p q = (p the_rule.0 the_rule.1).bytes ∙ sym (q the_rule.0 the_rule.1).bytes
