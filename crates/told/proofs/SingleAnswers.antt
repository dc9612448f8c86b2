-- Each public contract allows a single answer: it is the one that its definition gives. Assumes nothing.
use mathlib.Core.Path.{sym, ◌∙◌}
use Rattle.number.specs.Single.{Single}
use Rattle.told.proofs.hearing_told.Reads as hearing-told
use Rattle.told.proofs.noting_told.Reads as noting-told
use Rattle.told.proofs.pressure_told.Reads as pressure-told
use Rattle.told.proofs.tendency_told.Reads as tendency-told
use Rattle.told.proofs.wind_told.Reads as wind-told
use Rattle.told.proofs.humidity_told.Reads as humidity-told

pub single_hearing_told : Single hearing-told.Post
single_hearing_told κs a r r' s s' p q = p ∙ sym q

pub single_noting_told : Single noting-told.Post
single_noting_told κs a r r' s s' p q = p ∙ sym q

pub single_pressure_told : Single pressure-told.Post
single_pressure_told κs a r r' s s' p q = p ∙ sym q

pub single_tendency_told : Single tendency-told.Post
single_tendency_told κs a r r' s s' p q = p ∙ sym q

pub single_wind_told : Single wind-told.Post
single_wind_told κs a r r' s s' p q = p ∙ sym q

pub single_humidity_told : Single humidity-told.Post
single_humidity_told κs a r r' s s' p q = p ∙ sym q
