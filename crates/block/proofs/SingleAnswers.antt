-- Each public contract of this crate allows a single answer, and `lay` a single block to be left. Assumes nothing.
use mathlib.Core.Path.{◌≡◌, refl, sym, ap, ◌∙◌}
use Rattle.number.specs.Single.{Single, SingleLeft}
use Rattle.number.specs.declared.Kept.{Kept}
use Rattle.number.proofs.SingleAnswers.{kept_by}
use Rattle.settings.specs.declared.Height.{Height}
use Rattle.settings.specs.declared.SeaLevelDifference.{SeaLevelDifference}
use Rattle.settings.specs.declared.TemperatureCoefficient.{TemperatureCoefficient}
use Rattle.settings.specs.declared.PsychrometerCoefficient.{PsychrometerCoefficient}
use Rattle.block.proofs.lay.Reads as lay
use Rattle.block.proofs.is_store.Reads as is_IsStore
use Rattle.block.proofs.unit.Reads as unit
use Rattle.block.proofs.height.Reads as height
use Rattle.block.proofs.difference.Reads as difference
use Rattle.block.proofs.coefficient.Reads as coefficient
use Rattle.block.proofs.psychrometer.Reads as psychrometer
use Rattle.block.proofs.points.Reads as points
use Rattle.block.proofs.point.Reads as point
use Rattle.block.proofs.certificate.Reads as certificate
use Rattle.block.proofs.rates.Reads as rates
use Rattle.block.proofs.rate.Reads as rate
use Rattle.block.proofs.anemometer.Reads as anemometer

pub single_lay : Single lay.Post
single_lay κs a r r' s s' p q = refl

pub single_lay_left : SingleLeft lay.Post (λ κs s. s.0.now)
single_lay_left κs a r r' s s' p q = p ∙ sym q

pub single_is_store : Single is_IsStore.Post
single_is_store κs a r r' s s' p q = p ∙ sym q

pub single_unit : Single unit.Post
single_unit κs a r r' s s' p q = p ∙ sym q

pub single_height : Single height.Post
single_height κs a r r' s s' p q = ap make (kept_by (p ∙ sym q))
  where
    make : Kept → Height
    make n = record { 0 = n }

pub single_difference : Single difference.Post
single_difference κs a r r' s s' p q = ap make (kept_by (p ∙ sym q))
  where
    make : Kept → SeaLevelDifference
    make n = record { 0 = n }

pub single_coefficient : Single coefficient.Post
single_coefficient κs a r r' s s' p q = ap make (kept_by (p ∙ sym q))
  where
    make : Kept → TemperatureCoefficient
    make n = record { 0 = n }

pub single_psychrometer : Single psychrometer.Post
single_psychrometer κs a r r' s s' p q = ap make (kept_by (p ∙ sym q))
  where
    make : Kept → PsychrometerCoefficient
    make n = record { 0 = n }

pub single_points : Single points.Post
single_points κs a r r' s s' p q = p ∙ sym q

pub single_point : Single point.Post
single_point κs a r r' s s' p q = p ∙ sym q

pub single_rates : Single rates.Post
single_rates κs a r r' s s' p q = p ∙ sym q

pub single_rate : Single rate.Post
single_rate κs a r r' s s' p q = p ∙ sym q

-- of a part that is handed back, the words
abbrev pub SingleCertificate : Type 0
SingleCertificate = (κs : _) (a : _) (r r' : _) (s s' : _) → certificate.Post κs a r s → certificate.Post κs a r' s' → r.now ≡ r'.now

pub single_certificate : SingleCertificate
single_certificate κs a r r' s s' p q = p.0 ∙ sym q.0

abbrev pub SingleAnemometer : Type 0
SingleAnemometer = (κs : _) (a : _) (r r' : _) (s s' : _) → anemometer.Post κs a r s → anemometer.Post κs a r' s' → r.now ≡ r'.now

pub single_anemometer : SingleAnemometer
single_anemometer κs a r r' s s' p q = p.0 ∙ sym q.0
