-- The kind of what is kept: a recall that has no reading of a channel's kind has none, since a reading of another kind is another
-- channel's. By its case. Assumes nothing.
use mathlib.Core.Path.{◌≡◌, refl, sym, ap, ◌∙◌}
use mathlib.Core.Bool.{false, not}
use mathlib.Core.List.{List, [], ◌∷◌}
use Prim.Native.Nat.{ℕ, ◌<◌}
use lib.Dec.{eqb, lit<}
use borrow.Author.Tests.{eq-eqb}
use Rattle.std.specs.Prelude.{Option, Some, None, Result}
use Rattle.std.specs.Option.{ok_or}
use Rattle.number.proofs.Sizes.{never}
use Rattle.quantity.specs.declared.BulbState.{BulbState}
use Rattle.quantity.specs.declared.BulbTemperature.{BulbTemperature}
use Rattle.quantity.specs.declared.Degrees.{Degrees}
use Rattle.quantity.specs.declared.Hectopascals as a
use Rattle.quantity.specs.declared.Knots.{Knots}
use Rattle.quantity.specs.declared.MetresPerSecond.{MetresPerSecond}
use Rattle.quantity.specs.declared.Millimetres as b
use Rattle.quantity.specs.declared.WheelhouseTemperature.{WheelhouseTemperature}
use Rattle.message.specs.Receive.{entry_of}
use Rattle.message.specs.declared.Reading.{Reading}
use Rattle.message.specs.declared.Reading.TheVariants.{Hectopascals, Millimetres, Wheelhouse, ApparentWind, ShipMotion, DryBulb, WetBulb}
use Rattle.cell.specs.Cells.{CHANNELS, recalled, is_present}
use Rattle.store.specs.Block.{recall_of}
use Rattle.station.specs.Source.{held}
use Rattle.station.specs.Questions.{Answers, missing_at}
use Rattle.station.specs.Parts.{Keeps, part_as, channel_as}
use Rattle.station.specs.declared.QuestionRefusal.{QuestionRefusal}
use Rattle.station.specs.declared.QuestionRefusal.TheVariants.{MissingReading}
use Rattle.station.proofs.AnswerLaws.{pass, stop, end}
use Rattle.store.proofs.RecallLaws.{channel_is}

-- A reading of another channel is never kept.
other : (s : List ℕ) (c m : ℕ) {A : Type 0} → c < CHANNELS → (r : Reading) → recall_of s c m ≡ recalled (entry_of m r) → eqb (entry_of m r).channel c ≡ false → A
other s c m low r is o = never (sym o ∙ eq-eqb (entry_of m r).channel c (channel_is s c m low (ap is_present is) (entry_of m r) is))

-- ---- what is of no kind of its channel is missing

module _ (s : List ℕ) (m : ℕ) where
  pub no_pressure : (r : Reading) → recall_of s 0 m ≡ recalled (entry_of m r) → ((p : a.Hectopascals) → r ≡ Hectopascals p → ⊥) → ((p : b.Millimetres) → r ≡ Millimetres p → ⊥) → is_present (recall_of s 0 m) ≡ false
  no_pressure (Hectopascals p) is f g = absurd (f p refl)
  no_pressure (Millimetres p) is f g = absurd (g p refl)
  no_pressure (Wheelhouse x) is f g = other s 0 m (lit< tt) (Wheelhouse x) is refl
  no_pressure (ApparentWind v d) is f g = other s 0 m (lit< tt) (ApparentWind v d) is refl
  no_pressure (ShipMotion v d) is f g = other s 0 m (lit< tt) (ShipMotion v d) is refl
  no_pressure (DryBulb x) is f g = other s 0 m (lit< tt) (DryBulb x) is refl
  no_pressure (WetBulb i x) is f g = other s 0 m (lit< tt) (WetBulb i x) is refl

  pub no_wheelhouse : (r : Reading) → recall_of s 1 m ≡ recalled (entry_of m r) → ((x : WheelhouseTemperature) → r ≡ Wheelhouse x → ⊥) → is_present (recall_of s 1 m) ≡ false
  no_wheelhouse (Hectopascals p) is f = other s 1 m (lit< tt) (Hectopascals p) is refl
  no_wheelhouse (Millimetres p) is f = other s 1 m (lit< tt) (Millimetres p) is refl
  no_wheelhouse (Wheelhouse x) is f = absurd (f x refl)
  no_wheelhouse (ApparentWind v d) is f = other s 1 m (lit< tt) (ApparentWind v d) is refl
  no_wheelhouse (ShipMotion v d) is f = other s 1 m (lit< tt) (ShipMotion v d) is refl
  no_wheelhouse (DryBulb x) is f = other s 1 m (lit< tt) (DryBulb x) is refl
  no_wheelhouse (WetBulb i x) is f = other s 1 m (lit< tt) (WetBulb i x) is refl

  pub no_wind : (r : Reading) → recall_of s 2 m ≡ recalled (entry_of m r) → ((v : MetresPerSecond) → (d : Degrees) → r ≡ ApparentWind v d → ⊥) → is_present (recall_of s 2 m) ≡ false
  no_wind (Hectopascals p) is f = other s 2 m (lit< tt) (Hectopascals p) is refl
  no_wind (Millimetres p) is f = other s 2 m (lit< tt) (Millimetres p) is refl
  no_wind (Wheelhouse x) is f = other s 2 m (lit< tt) (Wheelhouse x) is refl
  no_wind (ApparentWind v d) is f = absurd (f v d refl)
  no_wind (ShipMotion v d) is f = other s 2 m (lit< tt) (ShipMotion v d) is refl
  no_wind (DryBulb x) is f = other s 2 m (lit< tt) (DryBulb x) is refl
  no_wind (WetBulb i x) is f = other s 2 m (lit< tt) (WetBulb i x) is refl

  pub no_motion : (r : Reading) → recall_of s 3 m ≡ recalled (entry_of m r) → ((v : Knots) → (d : Degrees) → r ≡ ShipMotion v d → ⊥) → is_present (recall_of s 3 m) ≡ false
  no_motion (Hectopascals p) is f = other s 3 m (lit< tt) (Hectopascals p) is refl
  no_motion (Millimetres p) is f = other s 3 m (lit< tt) (Millimetres p) is refl
  no_motion (Wheelhouse x) is f = other s 3 m (lit< tt) (Wheelhouse x) is refl
  no_motion (ApparentWind v d) is f = other s 3 m (lit< tt) (ApparentWind v d) is refl
  no_motion (ShipMotion v d) is f = absurd (f v d refl)
  no_motion (DryBulb x) is f = other s 3 m (lit< tt) (DryBulb x) is refl
  no_motion (WetBulb i x) is f = other s 3 m (lit< tt) (WetBulb i x) is refl

  pub no_dry_bulb : (r : Reading) → recall_of s 4 m ≡ recalled (entry_of m r) → ((x : BulbTemperature) → r ≡ DryBulb x → ⊥) → is_present (recall_of s 4 m) ≡ false
  no_dry_bulb (Hectopascals p) is f = other s 4 m (lit< tt) (Hectopascals p) is refl
  no_dry_bulb (Millimetres p) is f = other s 4 m (lit< tt) (Millimetres p) is refl
  no_dry_bulb (Wheelhouse x) is f = other s 4 m (lit< tt) (Wheelhouse x) is refl
  no_dry_bulb (ApparentWind v d) is f = other s 4 m (lit< tt) (ApparentWind v d) is refl
  no_dry_bulb (ShipMotion v d) is f = other s 4 m (lit< tt) (ShipMotion v d) is refl
  no_dry_bulb (DryBulb x) is f = absurd (f x refl)
  no_dry_bulb (WetBulb i x) is f = other s 4 m (lit< tt) (WetBulb i x) is refl

  pub no_wet_bulb : (r : Reading) → recall_of s 5 m ≡ recalled (entry_of m r) → ((i : BulbState) → (x : BulbTemperature) → r ≡ WetBulb i x → ⊥) → is_present (recall_of s 5 m) ≡ false
  no_wet_bulb (Hectopascals p) is f = other s 5 m (lit< tt) (Hectopascals p) is refl
  no_wet_bulb (Millimetres p) is f = other s 5 m (lit< tt) (Millimetres p) is refl
  no_wet_bulb (Wheelhouse x) is f = other s 5 m (lit< tt) (Wheelhouse x) is refl
  no_wet_bulb (ApparentWind v d) is f = other s 5 m (lit< tt) (ApparentWind v d) is refl
  no_wet_bulb (ShipMotion v d) is f = other s 5 m (lit< tt) (ShipMotion v d) is refl
  no_wet_bulb (DryBulb x) is f = other s 5 m (lit< tt) (DryBulb x) is refl
  no_wet_bulb (WetBulb i x) is f = absurd (f i x refl)

-- ---- what a step that reads one kind comes to

module _ (s : List ℕ) (c m : ℕ) {A : Type 0} (of : A → Reading) where
  pub reads_kind : (k : Option A) → Keeps of (recall_of s c m) m k → (r : Result A QuestionRefusal) → r ≡ ok_or k (MissingReading c (record { 0 = m }))
      → Answers (missing_at (held s) m c ∷ []) (λ a. recall_of s c m ≡ recalled (entry_of m (of a))) (part_as r)
  reads_kind None gone r e = rw e (stop _ _ _ (ap not gone))
  reads_kind (Some a) is r e = rw e (pass _ _ _ _ (ap not (ap is_present is)) (end _ _ is))

  -- and where it tells the channel alone
  pub reads_channel : (k : Option A) → Keeps of (recall_of s c m) m k → (r : Result A ℕ) → r ≡ ok_or k c
      → Answers (missing_at (held s) m c ∷ []) (λ a. recall_of s c m ≡ recalled (entry_of m (of a))) (channel_as m r)
  reads_channel None gone r e = rw e (stop _ _ _ (ap not gone))
  reads_channel (Some a) is r e = rw e (pass _ _ _ _ (ap not (ap is_present is)) (end _ _ is))
