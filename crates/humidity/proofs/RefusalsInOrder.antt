-- Humidity refuses with the first of 7, 13, 20, 21, 22 and 15, in this order, whose reason holds, and gives figures where none does:
-- the one law of refusals at its list. With water on the wick 20, 21 and 22 never refuse. Assumes nothing.
use Rattle.std.specs.Prelude.{Result}
use mathlib.Core.Path.{◌≡◌, refl, sym, ◌∙◌}
use mathlib.Core.Bool.{Bool, true, false, not}
use mathlib.Core.List.{List, [], ◌∷◌}
use mathlib.Core.Logic.{◌↔◌}
use Prim.Native.Nat.{ℕ}
use lib.IntN.{ℤ}
use lib.Signed.{le_z}
use Rattle.number.specs.Refusal.{Test, refused, given, answer, Holds, First}
use Rattle.number.proofs.RefusalLaws.{refused_exactly, given_exactly}
use Rattle.quantity.specs.declared.BulbState.{BulbState}
use Rattle.quantity.specs.declared.BulbState.TheVariants.{Water}
use Rattle.humidity.specs.Humidity.{vapour_pressure, too_dry, within_limits, tests, moisture_as, IsMoisture}
use Rattle.humidity.specs.declared.HumidityFigures.{HumidityFigures}
use Rattle.humidity.specs.declared.HumidityRefusal.{HumidityRefusal}
use Rattle.humidity.proofs.VapourPressureLaws.{water_under}

module _ (s : BulbState) (dry wet p a : ℤ) (m : Result HumidityFigures HumidityRefusal) (is : IsMoisture s dry wet p a m) where
  abbrev ts : List (Test ℕ)
  ts = tests s dry wet p a is.d (vapour_pressure s is.w is.i a p dry wet)

  pub humidity_refused : (n : ℕ) → (moisture_as m ≡ refused n) ↔ First ts n
  humidity_refused n =
      let law = refused_exactly is.figures ts n in
      (λ e. law.0 (sym is.first ∙ e), λ w. is.first ∙ law.1 w)

  pub humidity_given : (moisture_as m ≡ given is.figures) ↔ ((n : ℕ) → Holds ts n → ⊥)
  humidity_given =
      let law = given_exactly is.figures ts in
      (λ e. law.0 (sym is.first ∙ e), λ w. is.first ∙ law.1 w)

-- With water on the wick the tests are document 01's: 7, 13 and 15.
abbrev pub water_tests : ℤ → ℤ → ℤ → ℤ → ℤ → List (Test ℕ)
water_tests dry wet p a e =
    record { refusal = 7; holds = not (within_limits dry wet p a) }
    ∷ record { refusal = 13; holds = not (le_z wet dry) }
    ∷ record { refusal = 15; holds = too_dry e }
    ∷ []

pub water_as_before : (dry wet p a : ℤ) (m : Result HumidityFigures HumidityRefusal) (is : IsMoisture Water dry wet p a m)
    → moisture_as m ≡ answer (water_tests dry wet p a (vapour_pressure Water is.w is.i a p dry wet)) is.figures
unfolding answer
water_as_before dry wet p a m is = is.first ∙ go (within_limits dry wet p a) (not (le_z wet dry)) refl refl
  where
    go : (l x : Bool) → within_limits dry wet p a ≡ l → not (le_z wet dry) ≡ x
        → answer (tests Water dry wet p a is.d (vapour_pressure Water is.w is.i a p dry wet)) is.figures
        ≡ answer (water_tests dry wet p a (vapour_pressure Water is.w is.i a p dry wet)) is.figures
    go false x h k = rw h
    go true true h k = rw (h, k)
    go true false h k = rw (h, k, water_under dry wet p a is.d is.w is.i h k (is.near h) (is.entries h refl))
