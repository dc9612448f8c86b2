-- The public contract of this crate allows a single answer and a single buffer: it gives both as functions of the file and of the dew
-- point's rule, and there is such a rule. Assumes nothing.
use mathlib.Core.Path.{◌≡◌, refl, sym, ap, ◌∙◌}
use Prim.Native.Nat.{ℕ}
use lib.ListN.{get_or}
use Rattle.number.specs.Single.{Single, SingleLeft}
use Rattle.number.specs.Refusal.{Answer, refused, given, Numbered}
use Rattle.watchfile.proofs.DewRules.{the_rule}
use Rattle.listing.specs.Listing.{listed_as}
use Rattle.std.specs.Prelude.{Result, Ok, Err}
use Rattle.listing.specs.declared.TooShort.{TooShort}
use Rattle.listing.proofs.list.Reads as list

abbrev case_of : Answer Numbered ℕ → Result ℕ TooShort
case_of (refused r) = Err (record { 0 = get_or r.extra 0 0 })
case_of (given n) = Ok n

case_back : (l : Result ℕ TooShort) → case_of (listed_as l) ≡ l
case_back (Ok n) = refl
case_back (Err b) = refl

pub single_list : Single list.Post
single_list κs a r r' s s' p q =
    sym (case_back r) ∙ ap case_of ((p the_rule.0 the_rule.1).answer ∙ sym (q the_rule.0 the_rule.1).answer) ∙ case_back r'

-- the bytes behind the buffer's reference, at exit
pub single_list_text : SingleLeft list.Post (λ κs s. s.1.0.now)
single_list_text κs a r r' s s' p q = (p the_rule.0 the_rule.1).bytes ∙ sym (q the_rule.0 the_rule.1).bytes
