-- Every row of the table of marked figures holds: each by computing both of its sides, those of the series by its test. The
-- winds' four numbers are what is given, and the numbers of humidity the wet bulbs' entries. Assumes nothing.
use mathlib.Core.Path.{refl}
use Rattle.number.specs.Round.{nearest, rounded}
use Rattle.number.specs.Refusal.{answer}
use Rattle.settings.specs.Settings.{every}
use Rattle.sine.specs.Sines.{sines}
use Rattle.sine.specs.Sine.{fold, size, sine, cosine}
use Rattle.certificate.specs.Line.{value_from, none_round}
use Rattle.pressure.specs.Pressure.{in_unit, tenths_in, scale, outside, temperature, height, sea_level, sea_level_answer}
use Rattle.wind.specs.Wind.{sum, N, M, meets, count, between, turned, compass, from}
use Rattle.wind.specs.Answer.{within_limits}
use Rattle.wind.proofs.WindTest.{is_nearest, is_wind, tested}
use Rattle.vapour.proofs.SaturationLaws.{near_test}
use Rattle.vapour.proofs.DewLaws.{dew_test}
use Rattle.humidity.specs.Humidity.{vapour_pressure}
use Rattle.humidity.proofs.ByTests.{entries_test, by_tests}
use Rattle.figures.specs.Marked.{marked, AllSay}

pub marked_figures : AllSay marked
unfolding marked answer every in_unit tenths_in value_from none_round scale outside temperature height sea_level sea_level_answer nearest rounded sines fold size sine cosine sum N M meets count between turned compass from within_limits is_nearest is_wind near_test dew_test entries_test vapour_pressure
marked_figures = (
  refl,
  (
    refl,
    (
      tested 260 125 25 40 _ _ refl,
      (
        tested 30 100 0 0 _ _ refl,
        (
          tested 90 100 50 0 _ _ refl,
          (
            tested 350 0 80 20 _ _ refl,
            (
              tested 0 0 100 0 _ _ refl,
              (
                tested 0 0 0 0 _ _ refl,
                (
                  by_tests _ _ _ _ _ 1703 0 _ tt tt tt refl refl refl refl,
                  (
                    by_tests _ _ _ _ _ 611 0 _ tt tt tt refl refl refl refl,
                    (
                      by_tests _ _ _ _ _ 19 0 _ tt tt tt refl refl refl refl,
                      (by_tests _ _ _ _ _ 0 260 _ tt tt tt refl refl refl refl, tt),
                    ),
                  ),
                ),
              ),
            ),
          ),
        ),
      ),
    ),
  ),
)
