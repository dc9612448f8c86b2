-- The contracts of `read` and `record_at` allow a single answer: the verdict by the one rule of the dew point that there is.
-- Assumes nothing.
use mathlib.Core.Path.{sym, ◌∙◌}
use Rattle.number.specs.Single.{Single}
use Rattle.watchfile.proofs.DewRules.{the_rule}
use Rattle.reader.proofs.VerdictLaws.{verdict_by}
use Rattle.reader.proofs.read.Reads as read
use Rattle.reader.proofs.record_at.Reads as record-at

pub single_read : Single read.Post
single_read κs a r r' s s' p q = verdict_by r r' (p the_rule.0 the_rule.1 ∙ sym (q the_rule.0 the_rule.1))

pub single_record_at : Single record-at.Post
single_record_at κs a r r' s s' p q = p ∙ sym q
