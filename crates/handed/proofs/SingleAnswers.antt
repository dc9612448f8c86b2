-- Each public contract of this crate allows a single answer: it is the one that its definition gives. Assumes nothing.
use mathlib.Core.Path.{sym, ◌∙◌}
use Rattle.number.specs.Single.{Single}
use Rattle.handed.proofs.record_of.Reads as record_of
use Rattle.handed.proofs.words.Reads as words
use Rattle.handed.proofs.count.Reads as count
use Rattle.handed.proofs.record_at.Reads as record-at

pub single_record_of : Single record_of.Post
single_record_of κs a r r' s s' p q = p ∙ sym q

pub single_count : Single count.Post
single_count κs a r r' s s' p q = p ∙ sym q

pub single_record_at : Single record-at.Post
single_record_at κs a r r' s s' p q = p ∙ sym q

pub single_words : Single words.Post
single_words κs a r r' s s' p q = p.exact ∙ sym q.exact
