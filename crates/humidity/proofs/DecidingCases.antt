-- Cases that decide between the rules of W3 and others that a person would write, at 1000.0 hPa with A 662: by computing. Assumes
-- nothing.
use Rattle.std.specs.Prelude.{Result, Ok, Err}
use mathlib.Core.Path.{◌≡◌, refl}
use Prim.Native.Nat.{ℕ, ◌*◌}
use lib.IntN.{ℤ, pos, neg_ℤ, ◌+ℤ◌, ◌-ℤ◌, ◌*ℤ◌}
use Rattle.number.specs.Round.{nearest, rounded}
use Rattle.number.specs.Refusal.{answer}
use Rattle.number.proofs.Sizes.{impossible}
use Rattle.quantity.specs.declared.BulbState.{BulbState}
use Rattle.quantity.specs.declared.BulbState.TheVariants.{Water, Ice, Unknown}
use Rattle.vapour.proofs.SaturationLaws.{near_test, near_by_test}
use Rattle.vapour.proofs.DewLaws.{dew_test}
use Rattle.vapour.specs.Vapour.{water}
use Rattle.humidity.specs.Humidity.{water_factor, ice_factor, parts, less_by, exact, vapour_pressure, IsMoisture}
use Rattle.humidity.specs.Parts.{figures_by}
use Rattle.humidity.specs.declared.HumidityFigures.{HumidityFigures}
use Rattle.humidity.specs.declared.HumidityRefusal.{HumidityRefusal}
use Rattle.humidity.specs.declared.HumidityRefusal.TheVariants.{WetAboveDry, TooWarmForIce, UnknownOutsideRange, AboveSaturation}
use Rattle.humidity.proofs.MoistureLaws.{too_warm}
use Rattle.humidity.proofs.ByTests.{entries_test, by_tests, refused_by_tests}

-- a temperature below zero
abbrev pub below : ℕ → ℤ
below n = neg_ℤ (pos n)

-- what a state and both bulbs come to
abbrev pub Air : BulbState → ℤ → ℤ → Result HumidityFigures HumidityRefusal → Type 0
Air s dry wet m = IsMoisture s dry wet (pos 10000) (pos 662) m

-- ---- where e is rounded, and by which factor

-- Ice, dry -9.0, wet -11.0: 2.38 - 1.168 is 1.21. Without 0.8822 it would be 1.06; with the 0.00115 term, 1.23.
pub ice_by_its_factor : let dry = below 90 in let wet = below 110 in
    (vapour_pressure Ice 265 238 (pos 662) (pos 10000) dry wet ≡ pos 121)
    × (rounded (exact 238 (pos 1000000) (pos 662) (pos 10000) dry wet) parts ≡ pos 106)
    × (rounded (pos 238 *ℤ pos parts *ℤ pos 1000000 -ℤ less_by ice_factor (pos 662) (pos 10000) dry wet *ℤ water_factor wet) (parts * 1000000) ≡ pos 123)
unfolding vapour_pressure nearest rounded
ice_by_its_factor = (refl, refl, refl)

-- Unknown, dry -9.9, wet -11.0: over water 1.93101, over ice 1.73758, the mean 1.83. Of 1.93 and 1.74 it would be 1.84.
pub mean_of_exact : let dry = below 99 in let wet = below 110 in
    (vapour_pressure Unknown 265 238 (pos 662) (pos 10000) dry wet ≡ pos 183)
    × (rounded (vapour_pressure Water 265 238 (pos 662) (pos 10000) dry wet +ℤ vapour_pressure Ice 265 238 (pos 662) (pos 10000) dry wet) 2 ≡ pos 184)
unfolding vapour_pressure nearest rounded
mean_of_exact = (refl, refl)

-- Unknown at -5.0: with the wet bulb there too it is ice; one tenth below it is the mean, 4.02, where ice would be 3.92.
pub unknown_by_the_bulbs :
    (vapour_pressure Unknown 422 402 (pos 662) (pos 10000) (below 50) (below 50) ≡ pos 402)
    × (vapour_pressure Unknown 419 398 (pos 662) (pos 10000) (below 50) (below 51) ≡ pos 402)
    × (vapour_pressure Ice 419 398 (pos 662) (pos 10000) (below 50) (below 51) ≡ pos 392)
unfolding vapour_pressure nearest rounded
unknown_by_the_bulbs = (refl, refl, refl)

-- ---- figures of an iced bulb

-- "dry = wet = -10.0 over ice: e 2.60, 91 %": relative humidity over water, where over ice it would be 100. And the wet bulb a tenth
-- above the dry, which with water is refused.
pub over_ice_lem :
    Air Ice (below 100) (below 100) (Ok (figures_by 260 287 27 91 (below 112)))
    × Air Ice (below 101) (below 100) (Ok (figures_by 266 284 18 94 (below 109)))
    × Air Water (below 101) (below 100) (Err WetAboveDry)
unfolding answer vapour_pressure nearest rounded near_test dew_test entries_test
over_ice_lem = (
  by_tests Ice _ _ _ _ 0 260 _ tt tt tt refl refl refl refl,
  by_tests Ice _ _ _ _ 0 260 _ tt tt tt refl refl refl refl,
  refused_by_tests Water _ _ _ _ 287 0 284 _ tt tt refl (λ e. impossible (cc)),
)

-- ---- each refusal at its border, and one beyond

-- 20: a wet bulb of 0.0, and of 0.1.
pub too_warm_from :
    Air Ice (pos 0) (pos 0) (Ok (figures_by 611 611 0 100 (pos 0)))
    × Air Ice (pos 0) (pos 1) (Err TooWarmForIce)
    × Air Unknown (pos 0) (pos 1) (Err TooWarmForIce)
unfolding answer vapour_pressure nearest rounded near_test dew_test entries_test
too_warm_from = (
  by_tests Ice _ _ _ _ 0 611 _ tt tt tt refl refl refl refl,
  too_warm Ice (pos 0) (pos 1) (pos 10000) (pos 662) 611 refl (near_by_test water (pos 0) 611 tt) refl refl,
  too_warm Unknown (pos 0) (pos 1) (pos 10000) (pos 662) 611 refl (near_by_test water (pos 0) 611 tt) refl refl,
)

-- 21: a state unknown in air of -9.9 and 0.0, and of -10.0 and 0.1.
pub in_doubt_from :
    Air Unknown (below 99) (below 99) (Ok (figures_by 262 289 27 91 (below 111)))
    × Air Unknown (below 100) (below 100) (Err UnknownOutsideRange)
    × Air Unknown (pos 0) (pos 0) (Ok (figures_by 611 611 0 100 (pos 0)))
    × Air Unknown (pos 1) (pos 0) (Err UnknownOutsideRange)
unfolding answer vapour_pressure nearest rounded near_test dew_test entries_test
in_doubt_from = (
  by_tests Unknown _ _ _ _ 289 262 _ tt tt tt refl refl refl refl,
  refused_by_tests Unknown _ _ _ _ 287 260 287 _ tt tt refl (λ e. impossible (cc)),
  by_tests Unknown _ _ _ _ 611 611 _ tt tt tt refl refl refl refl,
  refused_by_tests Unknown _ _ _ _ 611 611 616 _ tt tt refl (λ e. impossible (cc)),
)

-- 22: ice at -8.1 in air of -8.4 makes e 3.25, which is saturation; at -8.2 in air of -8.5 it makes 3.23, and saturation is 3.22.
pub saturated_from :
    Air Ice (below 84) (below 81) (Ok (figures_by 325 325 0 100 (below 84)))
    × Air Ice (below 85) (below 82) (Err AboveSaturation)
unfolding answer vapour_pressure nearest rounded near_test dew_test entries_test
saturated_from = (
  by_tests Ice _ _ _ _ 0 307 _ tt tt tt refl refl refl refl,
  refused_by_tests Ice _ _ _ _ 0 305 322 _ tt tt refl (λ e. impossible (cc)),
)
