-- Each public contract of this crate allows a single answer, and `hear_all` a single block to be left. Assumes nothing.
use mathlib.Core.Path.{sym, ap, ◌∙◌}
use mathlib.Core.List.{List}
use Prim.Native.Nat.{ℕ}
use Rattle.number.specs.Single.{Single, SingleLeft}
use Rattle.desk.specs.declared.Counts.{Counts}
use Rattle.desk.proofs.hear_all.Reads as hear-all
use Rattle.desk.proofs.pressure_record.Reads as pressure_record_lem
use Rattle.desk.proofs.tendency_record.Reads as tendency_record_lem
use Rattle.desk.proofs.wind_record.Reads as wind_record_lem
use Rattle.desk.proofs.humidity_record.Reads as humidity_record_lem

pub single_hear_all : Single hear-all.Post
single_hear_all κs a r r' s s' p q = ap make (p.counts ∙ sym q.counts)
  where
    make : List ℕ → Counts
    make l = record { of = l }

pub single_hear_all_left : SingleLeft hear-all.Post (λ κs s. s.0.now)
single_hear_all_left κs a r r' s s' p q = p.block ∙ sym q.block

pub single_pressure_record : Single pressure_record_lem.Post
single_pressure_record κs a r r' s s' p q = p ∙ sym q

pub single_tendency_record : Single tendency_record_lem.Post
single_tendency_record κs a r r' s s' p q = p ∙ sym q

pub single_wind_record : Single wind_record_lem.Post
single_wind_record κs a r r' s s' p q = p ∙ sym q

pub single_humidity_record : Single humidity_record_lem.Post
single_humidity_record κs a r r' s s' p q = p ∙ sym q
