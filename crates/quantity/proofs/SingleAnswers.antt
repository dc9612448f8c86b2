-- Each public contract of this crate allows a single answer. Assumes nothing.
use mathlib.Core.Path.{sym, ap, ◌∙◌}
use Prim.Native.Nat.{ℕ}
use Rattle.number.specs.Single.{Single}
use Rattle.number.specs.declared.Number.{Number}
use Rattle.number.proofs.SingleAnswers.{number_by}
use Rattle.quantity.specs.declared.Hectopascals.{Hectopascals}
use Rattle.quantity.specs.declared.SpeedParts.{SpeedParts}
use Rattle.quantity.specs.declared.Degrees.{Degrees}
use Rattle.quantity.proofs.BarometerUnit.holds.Reads as barometer-unit
use Rattle.quantity.proofs.Hectopascals.holds.Reads as hectopascals
use Rattle.quantity.proofs.Hectopascals.recorded.Reads as recorded
use Rattle.quantity.proofs.Hectopascals.changes.Reads as changes
use Rattle.quantity.proofs.Millimetres.holds.Reads as millimetres
use Rattle.quantity.proofs.WheelhouseTemperature.holds.Reads as wheelhouse-temperature
use Rattle.quantity.proofs.BulbTemperature.holds.Reads as bulb-temperature
use Rattle.quantity.proofs.BulbTemperature.freezes.Reads as freezes
use Rattle.quantity.proofs.BulbTemperature.leaves_doubt.Reads as leaves-doubt
use Rattle.quantity.proofs.BulbState.holds.Reads as is_state
use Rattle.quantity.proofs.BulbState.numbered.Reads as state-numbered
use Rattle.quantity.proofs.BulbState.number.Reads as state-number
use Rattle.quantity.proofs.MetresPerSecond.holds.Reads as metres-per-second
use Rattle.quantity.proofs.MetresPerSecond.blows.Reads as blows
use Rattle.quantity.proofs.Knots.holds.Reads as knots
use Rattle.quantity.proofs.Degrees.holds.Reads as degrees
use Rattle.quantity.proofs.Minute.holds.Reads as minute
use Rattle.quantity.proofs.Millimetres.hectopascals.Reads as in_hectopascals_lem
use Rattle.quantity.proofs.MetresPerSecond.parts.Reads as metres-parts
use Rattle.quantity.proofs.Knots.parts.Reads as knots-parts
use Rattle.quantity.proofs.Degrees.keep.Reads as degrees-keep

pub single_barometer_unit : Single barometer-unit.Post
single_barometer_unit κs a r r' s s' p q = p ∙ sym q

pub single_hectopascals : Single hectopascals.Post
single_hectopascals κs a r r' s s' p q = p ∙ sym q

pub single_recorded : Single recorded.Post
single_recorded κs a r r' s s' p q = p ∙ sym q

pub single_changes : Single changes.Post
single_changes κs a r r' s s' p q = p ∙ sym q

pub single_millimetres : Single millimetres.Post
single_millimetres κs a r r' s s' p q = p ∙ sym q

pub single_wheelhouse_temperature : Single wheelhouse-temperature.Post
single_wheelhouse_temperature κs a r r' s s' p q = p ∙ sym q

pub single_bulb_temperature : Single bulb-temperature.Post
single_bulb_temperature κs a r r' s s' p q = p ∙ sym q

pub single_freezes : Single freezes.Post
single_freezes κs a r r' s s' p q = p ∙ sym q

pub single_leaves_doubt : Single leaves-doubt.Post
single_leaves_doubt κs a r r' s s' p q = p ∙ sym q

pub single_is_state : Single is_state.Post
single_is_state κs a r r' s s' p q = p ∙ sym q

pub single_state_numbered : Single state-numbered.Post
single_state_numbered κs a r r' s s' p q = p ∙ sym q

pub single_state_number : Single state-number.Post
single_state_number κs a r r' s s' p q = p ∙ sym q

pub single_metres_per_second : Single metres-per-second.Post
single_metres_per_second κs a r r' s s' p q = p ∙ sym q

pub single_blows : Single blows.Post
single_blows κs a r r' s s' p q = p ∙ sym q

pub single_knots : Single knots.Post
single_knots κs a r r' s s' p q = p ∙ sym q

pub single_degrees : Single degrees.Post
single_degrees κs a r r' s s' p q = p ∙ sym q

pub single_minute : Single minute.Post
single_minute κs a r r' s s' p q = p ∙ sym q

pub single_in_hectopascals : Single in_hectopascals_lem.Post
single_in_hectopascals κs a r r' s s' p q = ap make (number_by (p ∙ sym q))
  where
    make : Number → Hectopascals
    make n = record { 0 = n }

parts : ℕ → SpeedParts
parts n = record { 0 = n }

pub single_metres_parts : Single metres-parts.Post
unfolding parts
single_metres_parts κs a r r' s s' p q = ap parts (p ∙ sym q)

pub single_knots_parts : Single knots-parts.Post
unfolding parts
single_knots_parts κs a r r' s s' p q = ap parts (p ∙ sym q)

pub single_degrees_keep : Single degrees-keep.Post
single_degrees_keep κs a r r' s s' p q = ap make (p ∙ sym q)
  where
    make : ℕ → Degrees
    make n = record { 0 = n }
