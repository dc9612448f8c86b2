-- Each public contract of this crate allows a single answer. Where it speaks of every rule of the dew point, by the one there is.
-- Assumes nothing.
use mathlib.Core.Path.{sym, ◌∙◌}
use Rattle.number.specs.Single.{Single}
use Rattle.watchfile.proofs.DewRules.{the_rule}
use Rattle.watchfile.proofs.Body.kind.Reads as kind
use Rattle.watchfile.proofs.size_of.Reads as type_size
use Rattle.watchfile.proofs.rank.Reads as rank
use Rattle.watchfile.proofs.kind_right.Reads as kind_right_lem
use Rattle.watchfile.proofs.minute_right.Reads as minute_right_lem
use Rattle.watchfile.proofs.pressure_right.Reads as pressure-right
use Rattle.watchfile.proofs.change_right.Reads as change-right
use Rattle.watchfile.proofs.absent_right.Reads as absent-right
use Rattle.watchfile.proofs.speed_right.Reads as speed-right
use Rattle.watchfile.proofs.direction_right.Reads as direction-right
use Rattle.watchfile.proofs.e_right.Reads as e_right_lem
use Rattle.watchfile.proofs.saturation_right.Reads as saturation_right_lem
use Rattle.watchfile.proofs.deficit_right.Reads as deficit_right_lem
use Rattle.watchfile.proofs.relative_right.Reads as relative_right_lem
use Rattle.watchfile.proofs.dew_right.Reads as dew_right_lem
use Rattle.watchfile.proofs.body_right.Reads as body_right_lem
use Rattle.watchfile.proofs.record_right.Reads as record-right

pub single_kind : Single kind.Post
single_kind κs a r r' s s' p q = p ∙ sym q

pub single_size_of : Single type_size.Post
single_size_of κs a r r' s s' p q = p ∙ sym q

pub single_rank : Single rank.Post
single_rank κs a r r' s s' p q = p ∙ sym q

pub single_kind_right : Single kind_right_lem.Post
single_kind_right κs a r r' s s' p q = p ∙ sym q

pub single_minute_right : Single minute_right_lem.Post
single_minute_right κs a r r' s s' p q = p ∙ sym q

pub single_pressure_right : Single pressure-right.Post
single_pressure_right κs a r r' s s' p q = p ∙ sym q

pub single_change_right : Single change-right.Post
single_change_right κs a r r' s s' p q = p ∙ sym q

pub single_absent_right : Single absent-right.Post
single_absent_right κs a r r' s s' p q = p ∙ sym q

pub single_speed_right : Single speed-right.Post
single_speed_right κs a r r' s s' p q = p ∙ sym q

pub single_direction_right : Single direction-right.Post
single_direction_right κs a r r' s s' p q = p ∙ sym q

pub single_e_right : Single e_right_lem.Post
single_e_right κs a r r' s s' p q = p ∙ sym q

pub single_saturation_right : Single saturation_right_lem.Post
single_saturation_right κs a r r' s s' p q = p ∙ sym q

pub single_deficit_right : Single deficit_right_lem.Post
single_deficit_right κs a r r' s s' p q = p ∙ sym q

pub single_relative_right : Single relative_right_lem.Post
single_relative_right κs a r r' s s' p q = p ∙ sym q

pub single_dew_right : Single dew_right_lem.Post
single_dew_right κs a r r' s s' p q = p the_rule.0 the_rule.1 ∙ sym (q the_rule.0 the_rule.1)

pub single_body_right : Single body_right_lem.Post
single_body_right κs a r r' s s' p q = p the_rule.0 the_rule.1 ∙ sym (q the_rule.0 the_rule.1)

pub single_record_right : Single record-right.Post
single_record_right κs a r r' s s' p q = p the_rule.0 the_rule.1 ∙ sym (q the_rule.0 the_rule.1)
