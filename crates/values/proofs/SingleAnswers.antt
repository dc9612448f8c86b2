-- Each public contract of this crate allows a single answer: it gives the result as a function of the arguments. Assumes nothing.
use mathlib.Core.Path.{sym, ◌∙◌}
use Rattle.number.specs.Single.{Single}
use Rattle.values.proofs.settings_of.Reads as settings-of
use Rattle.values.proofs.records_of.Reads as records-of

pub single_settings_of : Single settings-of.Post
single_settings_of κs a r r' s s' p q = p ∙ sym q

pub single_records_of : Single records-of.Post
single_records_of κs a r r' s s' p q = p ∙ sym q
