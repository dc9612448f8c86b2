-- Each public contract of this crate allows a single answer, and `stretch` single bytes to be left. Assumes nothing.
use mathlib.Core.Path.{sym, ◌∙◌}
use Rattle.number.specs.Single.{Single, SingleLeft}
use Rattle.kept.proofs.newest.Reads as newest
use Rattle.kept.proofs.reading.Reads as reading
use Rattle.kept.proofs.stretch.Reads as stretch

pub single_newest : Single newest.Post
single_newest κs a r r' s s' p q = p.0 ∙ sym q.0

pub single_reading : Single reading.Post
single_reading κs a r r' s s' p q = p.0 ∙ sym q.0

pub single_stretch : Single stretch.Post
single_stretch κs a r r' s s' p q = p.0.answer ∙ sym q.0.answer

pub single_stretch_left : SingleLeft stretch.Post (λ κs s. s.1.1.1.0.now)
single_stretch_left κs a r r' s s' p q = p.0.bytes ∙ sym q.0.bytes
