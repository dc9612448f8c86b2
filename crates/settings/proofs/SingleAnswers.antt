-- Each public contract of this crate allows a single answer. Assumes nothing.
use mathlib.Core.Path.{◌≡◌, refl, sym, ap, ◌∙◌}
use mathlib.Core.Bool.{cond}
use Prim.Native.Nat.{ℕ}
use lib.Dec.{eqb}
use Rattle.std.specs.Prelude.{Result, Ok, Err}
use Rattle.number.specs.Single.{Single}
use Rattle.number.specs.Refusal.{Answer, refused, given}
use Rattle.settings.specs.Settings.{checked_as}
use Rattle.settings.specs.declared.SettingsRefusal.{SettingsRefusal}
use Rattle.settings.specs.declared.SettingsRefusal.TheVariants.{OutsideLimits, CertificateBroken, AnemometerBroken}
use Rattle.settings.proofs.number.Reads as number
use Rattle.settings.proofs.Height.holds.Reads as height
use Rattle.settings.proofs.SeaLevelDifference.holds.Reads as difference
use Rattle.settings.proofs.TemperatureCoefficient.holds.Reads as coefficient
use Rattle.settings.proofs.PsychrometerCoefficient.holds.Reads as psychrometer
use Rattle.settings.proofs.Correction.holds.Reads as correction
use Rattle.settings.proofs.Rate.holds.Reads as rate
use Rattle.settings.proofs.check.Reads as check

pub single_number : Single number.Post
single_number κs a r r' s s' p q = p ∙ sym q

pub single_height : Single height.Post
single_height κs a r r' s s' p q = p ∙ sym q

pub single_difference : Single difference.Post
single_difference κs a r r' s s' p q = p ∙ sym q

pub single_coefficient : Single coefficient.Post
single_coefficient κs a r r' s s' p q = p ∙ sym q

pub single_psychrometer : Single psychrometer.Post
single_psychrometer κs a r r' s s' p q = p ∙ sym q

pub single_correction : Single correction.Post
single_correction κs a r r' s s' p q = p ∙ sym q

pub single_rate : Single rate.Post
single_rate κs a r r' s s' p q = p ∙ sym q

pub case_of : Answer ℕ (Unit {0}) → Result (Unit {0}) SettingsRefusal
case_of (refused n) = Err (cond (eqb n 9) OutsideLimits (cond (eqb n 10) CertificateBroken AnemometerBroken))
case_of (given a) = Ok a

pub case_back : (c : Result (Unit {0}) SettingsRefusal) → case_of (checked_as c) ≡ c
unfolding case_of
case_back (Ok a) = refl
case_back (Err OutsideLimits) = refl
case_back (Err CertificateBroken) = refl
case_back (Err AnemometerBroken) = refl

pub single_check : Single check.Post
single_check κs a r r' s s' p q = sym (case_back r) ∙ ap case_of (p ∙ sym q) ∙ case_back r'
