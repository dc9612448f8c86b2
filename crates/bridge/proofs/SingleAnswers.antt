-- Each exported contract allows a single answer, and a single content of what it is lent to write: each is what its definition gives, the
-- dew point has one rule, and a text one place. Assumes nothing.
use mathlib.Core.Path.{refl, sym, ◌∙◌}
use Rattle.number.specs.Single.{Single, SingleLeft}
use Rattle.watchfile.proofs.DewRules.{the_rule}
use Rattle.entered.proofs.SingleAnswers.{one_by}
use Rattle.bridge.proofs.zhitomrak_settings_of.Reads as settings-of
use Rattle.bridge.proofs.zhitomrak_hear_all.Reads as hear-all
use Rattle.bridge.proofs.zhitomrak_newest.Reads as newest
use Rattle.bridge.proofs.zhitomrak_reading.Reads as reading
use Rattle.bridge.proofs.zhitomrak_stretch.Reads as stretch
use Rattle.bridge.proofs.zhitomrak_record_of.Reads as record_of
use Rattle.bridge.proofs.zhitomrak_place.Reads as place
use Rattle.bridge.proofs.zhitomrak_take_out.Reads as take_out
use Rattle.bridge.proofs.zhitomrak_say_refusal.Reads as say-refusal
use Rattle.bridge.proofs.zhitomrak_say_pressure.Reads as say-pressure
use Rattle.bridge.proofs.zhitomrak_say_tendency.Reads as say-tendency
use Rattle.bridge.proofs.zhitomrak_say_wind.Reads as say-wind
use Rattle.bridge.proofs.zhitomrak_say_humidity.Reads as say-humidity
use Rattle.bridge.proofs.zhitomrak_say_reading.Reads as say-reading

-- ---- records

pub single_place : Single place.Post
single_place κs a r r' s s' p q = (p the_rule.0 the_rule.1).answer ∙ sym (q the_rule.0 the_rule.1).answer

pub single_place_left : SingleLeft place.Post (λ κs s. s.0.now)
single_place_left κs a r r' s s' p q = (p the_rule.0 the_rule.1).bytes ∙ sym (q the_rule.0 the_rule.1).bytes

pub single_take_out : Single take_out.Post
single_take_out κs a r r' s s' p q = (p the_rule.0 the_rule.1).answer ∙ sym (q the_rule.0 the_rule.1).answer

pub single_take_out_left : SingleLeft take_out.Post (λ κs s. s.0.now)
single_take_out_left κs a r r' s s' p q = (p the_rule.0 the_rule.1).bytes ∙ sym (q the_rule.0 the_rule.1).bytes

pub single_record_of : Single record_of.Post
single_record_of κs a r r' s s' p q =
    (one_by a.1.0 a.0.now a.1.1.0 a.1.1.1.0.now s.1.1.1.0.now s'.1.1.1.0.now r r' p.0 q.0).0

pub single_record_of_left : SingleLeft record_of.Post (λ κs s. s.1.1.1.0.now)
single_record_of_left κs a r r' s s' p q =
    (one_by a.1.0 a.0.now a.1.1.0 a.1.1.1.0.now s.1.1.1.0.now s'.1.1.1.0.now r r' p.0 q.0).1

-- ---- settings, counts, and what is kept

pub single_settings_of : Single settings-of.Post
single_settings_of κs a r r' s s' p q = p.answer ∙ sym q.answer

pub single_settings_of_left : SingleLeft settings-of.Post (λ κs s. s.1.0.now)
single_settings_of_left κs a r r' s s' p q = p.sheet ∙ sym q.sheet

pub single_hear_all : Single hear-all.Post
single_hear_all κs a r r' s s' p q = refl

pub single_hear_all_left : SingleLeft hear-all.Post (λ κs s. s.0.now)
single_hear_all_left κs a r r' s s' p q = p.block ∙ sym q.block

pub single_hear_all_counts : SingleLeft hear-all.Post (λ κs s. s.1.1.0.now)
single_hear_all_counts κs a r r' s s' p q = p.counts ∙ sym q.counts

pub single_newest : Single newest.Post
single_newest κs a r r' s s' p q = p.0 ∙ sym q.0

pub single_reading : Single reading.Post
single_reading κs a r r' s s' p q = p.0 ∙ sym q.0

pub single_stretch : Single stretch.Post
single_stretch κs a r r' s s' p q = p.0.answer ∙ sym q.0.answer

pub single_stretch_left : SingleLeft stretch.Post (λ κs s. s.1.1.1.0.now)
single_stretch_left κs a r r' s s' p q = p.0.bytes ∙ sym q.0.bytes

-- ---- sentences

pub single_say_refusal : Single say-refusal.Post
single_say_refusal κs a r r' s s' p q = p.next ∙ sym q.next

pub single_say_refusal_left : SingleLeft say-refusal.Post (λ κs s. s.1.1.1.0.now)
single_say_refusal_left κs a r r' s s' p q = p.laid ∙ sym q.laid

pub single_say_pressure : Single say-pressure.Post
single_say_pressure κs a r r' s s' p q = p.next ∙ sym q.next

pub single_say_pressure_left : SingleLeft say-pressure.Post (λ κs s. s.1.0.now)
single_say_pressure_left κs a r r' s s' p q = p.laid ∙ sym q.laid

pub single_say_tendency : Single say-tendency.Post
single_say_tendency κs a r r' s s' p q = p.next ∙ sym q.next

pub single_say_tendency_left : SingleLeft say-tendency.Post (λ κs s. s.1.0.now)
single_say_tendency_left κs a r r' s s' p q = p.laid ∙ sym q.laid

pub single_say_wind : Single say-wind.Post
single_say_wind κs a r r' s s' p q = p.next ∙ sym q.next

pub single_say_wind_left : SingleLeft say-wind.Post (λ κs s. s.1.0.now)
single_say_wind_left κs a r r' s s' p q = p.laid ∙ sym q.laid

pub single_say_humidity : Single say-humidity.Post
single_say_humidity κs a r r' s s' p q = p.next ∙ sym q.next

pub single_say_humidity_left : SingleLeft say-humidity.Post (λ κs s. s.1.0.now)
single_say_humidity_left κs a r r' s s' p q = p.laid ∙ sym q.laid

pub single_say_reading : Single say-reading.Post
single_say_reading κs a r r' s s' p q = p.next ∙ sym q.next

pub single_say_reading_left : SingleLeft say-reading.Post (λ κs s. s.1.0.now)
single_say_reading_left κs a r r' s s' p q = p.laid ∙ sym q.laid
