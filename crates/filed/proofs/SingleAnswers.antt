-- Each public contract allows a single answer: it is the one that its definition gives. Assumes nothing.
use mathlib.Core.Path.{sym, ◌∙◌}
use Rattle.number.specs.Single.{Single}
use Rattle.filed.proofs.file_told.Reads as file-told
use Rattle.filed.proofs.write_told.Reads as write-told
use Rattle.filed.proofs.place_told.Reads as place-told
use Rattle.filed.proofs.listed_told.Reads as listed-told

pub single_file_told : Single file-told.Post
single_file_told κs a r r' s s' p q = p ∙ sym q

pub single_write_told : Single write-told.Post
single_write_told κs a r r' s s' p q = p ∙ sym q

pub single_place_told : Single place-told.Post
single_place_told κs a r r' s s' p q = p ∙ sym q

pub single_listed_told : Single listed-told.Post
single_listed_told κs a r r' s s' p q = p ∙ sym q
