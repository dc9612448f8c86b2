-- Document 01's own tests of humidity, before document 02 told of ice: 5, 11, 12, 13 and 15.
use Rattle.std.specs.Prelude.{not, List, [], ◌∷◌, ℕ, ℤ}
use Rattle.std.specs.Int.Signed.{le_z}
use Rattle.number.specs.Round.{rounded}
use Rattle.number.specs.Refusal.{Numbered, Test, test}
use Rattle.humidity.specs.Humidity.{water_factor, parts, exact, too_dry}
use Rattle.station.specs.Source.{Source}
use Rattle.station.specs.Questions.{too_late, missing_at, outside_at, dry_at, wet_at, station_at}

-- "table(wet) - A × pressure × (dry - wet) × (1 + 0.00115 wet), rounded once to 0.01 hPa"
abbrev pub vapour_before : (ℤ → ℕ) → Source → ℕ → ℤ
vapour_before table S m = rounded (exact (table (wet_at S m)) (water_factor (wet_at S m)) S.psychrometer (station_at S m) (dry_at S m) (wet_at S m)) parts

abbrev pub humidity_tests_before : (ℤ → ℕ) → Source → ℕ → List (Test Numbered)
humidity_tests_before table S m =
    too_late m
    ∷ missing_at S m 0 ∷ missing_at S m 4 ∷ missing_at S m 5
    ∷ outside_at S m
    ∷ test 13 [] (not (le_z (wet_at S m) (dry_at S m)))
    ∷ test 15 [] (too_dry (vapour_before table S m))
    ∷ []
