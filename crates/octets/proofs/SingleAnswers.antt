-- Each public contract of this crate allows a single answer: it is the one that its definition gives. Assumes nothing.
use mathlib.Core.Path.{sym, ap, ◌∙◌}
use lib.IntN.{ℤ}
use Rattle.number.specs.Single.{Single}
use Rattle.number.specs.declared.Kept.{Kept}
use Rattle.octets.proofs.two.Reads as two
use Rattle.octets.proofs.four.Reads as four
use Rattle.octets.proofs.in_two.Reads as in_two
use Rattle.octets.proofs.in_four.Reads as in_four
use Rattle.octets.proofs.signed.Reads as signed
use Rattle.octets.proofs.unsigned.Reads as unsigned
use Rattle.octets.proofs.signed_word.Reads as signed_word
use Rattle.octets.proofs.word_of.Reads as word_of

pub single_two : Single two.Post
single_two κs a r r' s s' p q = p ∙ sym q

pub single_four : Single four.Post
single_four κs a r r' s s' p q = p ∙ sym q

pub single_in_two : Single in_two.Post
single_in_two κs a r r' s s' p q = p ∙ sym q

pub single_in_four : Single in_four.Post
single_in_four κs a r r' s s' p q = p ∙ sym q

abbrev kept : ℤ → Kept
kept z = record { v = z }

pub single_signed : Single signed.Post
single_signed κs a r r' s s' p q = ap kept (p ∙ sym q)

pub single_unsigned : Single unsigned.Post
single_unsigned κs a r r' s s' p q = p ∙ sym q

pub single_signed_word : Single signed_word.Post
single_signed_word κs a r r' s s' p q = ap kept (p ∙ sym q)

pub single_word_of : Single word_of.Post
single_word_of κs a r r' s s' p q = p.0 ∙ sym q.0
