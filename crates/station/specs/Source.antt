-- What a question is answered from.
use Rattle.std.specs.Prelude.{List, ℕ, ℤ, pos, nat_abs}
use Rattle.quantity.specs.Limits.{minutes_between}
use Rattle.quantity.specs.declared.BulbState.{BulbState}
use Rattle.message.specs.Receive.{by_unit, itself, nought, on_wick}
use Rattle.settings.specs.declared.Settings.{Settings}
use Rattle.window.specs.Window.{absents}
use Rattle.cell.specs.Cells.{Recall, is_present, first, second}
use Rattle.block.specs.Words.{setting_of}
use Rattle.store.specs.Block.{recall_of, absent_of}
use Rattle.store.specs.History.{Sent, remembered, history}
use Rattle.pressure.specs.Pressure.{Barometer, barometer_in, barometer_of, tenths_in}

-- The barometer and its certificate, A, what is kept of a channel's minute, and how many of the 179 minutes before a minute have
-- no barometer reading.
pub record Source : Type 0 where
  pub barometer : Barometer
  pub psychrometer : ℤ
  pub recall : ℕ → ℕ → Recall
  pub missing : ℕ → ℕ

-- The paper's meaning: settings, and all messages and entries heard, the newest first, the refused ones among them.
abbrev pub heard : Settings → List Sent → Source
heard g M =
    record {
      barometer = barometer_in g;
      psychrometer = g.psychrometer.0.v;
      recall = λ c m. remembered (history g c M) m;
      missing = λ m. absents (λ j. is_present (remembered (history g 0 M) j)) m minutes_between;
    }

-- A block's words, whatever they are.
abbrev pub held : List ℕ → Source
held s =
    record {
      barometer = barometer_of s;
      psychrometer = setting_of s 4;
      recall = recall_of s;
      missing = absent_of s 0;
    }

-- ---- what is kept of a channel's minute, in a unit

-- "Knots and metres per second, and millimetres of mercury and hectopascals, are kept apart until a formula joins them." A formula
-- asks for its unit: tenths of °C, of m/s and of a knot, and whole degrees (`in_degrees`). A figure that has another unit is 0 to it, and
-- no answer is worked from that.
abbrev pub in_celsius : Recall → ℤ
in_celsius x = by_unit nought nought itself nought nought nought (pos 0) (first x)

abbrev pub in_metres_per_second : Recall → ℕ
in_metres_per_second x = nat_abs (by_unit nought nought nought itself nought nought (pos 0) (first x))

abbrev pub in_knots : Recall → ℕ
in_knots x = nat_abs (by_unit nought nought nought nought itself nought (pos 0) (first x))

-- What is on the wick of the wet bulb.
abbrev pub state_in : Recall → BulbState
state_in x = on_wick (second x)

-- What the barometer shows, in tenths of its unit.
abbrev pub reading_at : Source → ℕ → ℤ
reading_at S m = tenths_in S.barometer.unit (first (S.recall 0 m))
