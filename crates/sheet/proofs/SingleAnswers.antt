-- Each public contract of this crate allows a single answer, and `read` a single sheet to be left. Assumes nothing.
use mathlib.Core.Path.{refl, sym, ◌∙◌}
use Rattle.number.specs.Single.{Single, SingleLeft}
use Rattle.sheet.proofs.settings_in.Reads as settings-in
use Rattle.sheet.proofs.read.Reads as read

pub single_settings_in : Single settings-in.Post
single_settings_in κs a r r' s s' p q = p ∙ sym q

pub single_read : Single read.Post
single_read κs a r r' s s' p q = refl

pub single_read_left : SingleLeft read.Post (λ κs s. s.1.0.now)
single_read_left κs a r r' s s' p q = p ∙ sym q
