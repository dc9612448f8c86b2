-- Each exported contract allows a single answer, and a single content of what it is lent to write: the station's answer is one, and it is
-- told in one way; the dew point has one rule. Assumes nothing.
use mathlib.Core.Path.{◌≡◌, sym, ap, ◌∙◌}
use mathlib.Core.List.{List, [], ◌∷◌}
use Prim.Native.Nat.{ℕ}
use Rattle.number.specs.Single.{Single, SingleLeft}
use Rattle.watchfile.proofs.DewRules.{the_rule}
use Rattle.station.specs.Source.{held}
use Rattle.store.specs.Block.{no_store}
use Rattle.station.specs.Questions.{Asked, Reply, question, foreign_to}
use Rattle.station.specs.Questions as asked
use Rattle.station.proofs.SingleAnswers.{one_reply}
use Rattle.told.specs.Told.{Told, told_in}
use Rattle.zhitomrak.specs.Calls.{AnsweredAs}
use Rattle.zhitomrak.proofs.zhitomrak_open.Reads as opening
use Rattle.zhitomrak.proofs.zhitomrak_hear.Reads as hear
use Rattle.zhitomrak.proofs.zhitomrak_note.Reads as note
use Rattle.zhitomrak.proofs.zhitomrak_pressure.Reads as pressure
use Rattle.zhitomrak.proofs.zhitomrak_tendency.Reads as tendency
use Rattle.zhitomrak.proofs.zhitomrak_wind.Reads as wind
use Rattle.zhitomrak.proofs.zhitomrak_humidity.Reads as humidity
use Rattle.zhitomrak.proofs.zhitomrak_read.Reads as read
use Rattle.zhitomrak.proofs.zhitomrak_record_at.Reads as record-at
use Rattle.zhitomrak.proofs.zhitomrak_write_words.Reads as write
use Rattle.zhitomrak.proofs.zhitomrak_list.Reads as list
use Rattle.zhitomrak.proofs.zhitomrak_version.Reads as version

-- ---- open, hear and note

pub single_open : Single opening.Post
single_open κs a r r' s s' p q = p.answer ∙ sym q.answer

pub single_open_left : SingleLeft opening.Post (λ κs s. s.0.now)
single_open_left κs a r r' s s' p q = p.block ∙ sym q.block

pub single_hear : Single hear.Post
single_hear κs a r r' s s' p q = p.answer ∙ sym q.answer

pub single_hear_left : SingleLeft hear.Post (λ κs s. s.0.now)
single_hear_left κs a r r' s s' p q = p.block ∙ sym q.block

pub single_note : Single note.Post
single_note κs a r r' s s' p q = p.answer ∙ sym q.answer

pub single_note_left : SingleLeft note.Post (λ κs s. s.0.now)
single_note_left κs a r r' s s' p q = p.block ∙ sym q.block

-- ---- questions

one_told : (q : Asked) (s s₁ s₂ : List ℕ) (m : ℕ) (r r' : Told q) → AnsweredAs q s s₁ m r → AnsweredAs q s s₂ m r' → r ≡ r'
one_told q s s₁ s₂ m r r' v w =
    v.told
    ∙ ap (λ (x : Reply q). told_in q ((question q).told x))
    (one_reply q (no_store s ∷ []) (foreign_to q (held s) m) (held s) m v.answer w.answer v.right w.right)
    ∙ sym w.told

pub single_pressure : Single pressure.Post
single_pressure κs a r r' s s' p q = one_told asked.pressure a.0.now s.0.now s'.0.now a.1.0 r r' p q

pub single_tendency : Single tendency.Post
single_tendency κs a r r' s s' p q = one_told asked.tendency a.0.now s.0.now s'.0.now a.1.0 r r' p q

pub single_wind : Single wind.Post
single_wind κs a r r' s s' p q = one_told asked.wind a.0.now s.0.now s'.0.now a.1.0 r r' p q

pub single_humidity : Single humidity.Post
single_humidity κs a r r' s s' p q = one_told asked.humidity a.0.now s.0.now s'.0.now a.1.0 r r' p q

-- ---- watch files

pub single_read : Single read.Post
single_read κs a r r' s s' p q = p the_rule.0 the_rule.1 ∙ sym (q the_rule.0 the_rule.1)

pub single_record : Single record-at.Post
single_record κs a r r' s s' p q = p ∙ sym q

pub single_write : Single write.Post
single_write κs a r r' s s' p q = (p the_rule.0 the_rule.1).answer ∙ sym (q the_rule.0 the_rule.1).answer

pub single_write_left : SingleLeft write.Post (λ κs s. s.0.now)
single_write_left κs a r r' s s' p q = (p the_rule.0 the_rule.1).bytes ∙ sym (q the_rule.0 the_rule.1).bytes

pub single_list : Single list.Post
single_list κs a r r' s s' p q = (p the_rule.0 the_rule.1).answer ∙ sym (q the_rule.0 the_rule.1).answer

pub single_list_left : SingleLeft list.Post (λ κs s. s.1.0.now)
single_list_left κs a r r' s s' p q = (p the_rule.0 the_rule.1).bytes ∙ sym (q the_rule.0 the_rule.1).bytes

pub single_version : Single version.Post
single_version κs a r r' s s' p q = p ∙ sym q
