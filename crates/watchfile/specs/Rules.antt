-- The rules of single fields (document 01, "Watch file").
use Rattle.std.specs.Prelude.{Bool, true, ◌&&◌, cond, ℕ, ◌+◌, ◌*◌, leb, ltb, eqb, ℤ, pos}
use Rattle.number.specs.Whole.{within}
use Rattle.vapour.specs.Vapour.{lowest_vapour, recorded_vapour, relative_humidity, vapour_deficit}
use Rattle.quantity.specs.Limits.{inside, recorded_pressure, pressure_change, true_wind, degrees, last_minute, three_hours, minutes_between}

-- "Kind: 1 pressure, 2 tendency, 3 wind, 4 humidity"
unfoldable pub kind_right : ℕ → Bool
kind_right kind = leb 1 kind && leb kind 4

-- The size of a body, by its kind: 2 bytes; 2 and 1; 2 and 2; 2, 2, 2, 1 and 2.
abbrev pub size_of : ℕ → ℕ
size_of kind = cond (eqb kind 1) 2 (cond (eqb kind 2) 3 (cond (eqb kind 3) 4 9))

-- "Records rise strictly by minute, then kind"
abbrev pub rank : ℕ → ℕ → ℕ
rank minute kind = 8 * minute + kind

-- "Minutes are at most 16,777,215." "one that doesn't [rise] is wrong at its minute"; of a tendency "minute at least 180"
unfoldable pub minute_right : ℕ → ℕ → ℕ → Bool
minute_right before kind minute =
    leb minute last_minute && ltb before (rank minute kind) && cond (eqb kind 2) (leb three_hours minute) true

-- "1 pressure: 8000 to 11500 tenths hPa"
unfoldable pub pressure_right : ℕ → Bool
pressure_right p = inside recorded_pressure (pos p)

-- "2 tendency: -3000 to 3000; absent 0 to 179"
unfoldable pub change_right : ℤ → Bool
change_right change = inside pressure_change change

unfoldable pub absent_right : ℕ → Bool
absent_right absent = leb absent minutes_between

-- "3 wind: speed 0 to 956; direction 0 to 360, 0 exactly when speed is 0"
unfoldable pub speed_right : ℕ → Bool
speed_right speed = inside true_wind (pos speed)

unfoldable pub direction_right : ℕ → ℕ → Bool
direction_right speed direction = cond (eqb speed 0) (eqb direction 0) (leb 1 direction && inside degrees (pos direction))

-- "4 humidity: e 19 to saturation, saturation 19 to 12345, the other three as their rules give"
unfoldable pub e_right : ℕ → ℕ → Bool
e_right saturation e = leb lowest_vapour e && leb e saturation

unfoldable pub saturation_right : ℕ → Bool
saturation_right saturation = recorded_vapour saturation

unfoldable pub deficit_right : ℕ → ℕ → ℕ → Bool
deficit_right e saturation deficit = eqb deficit (vapour_deficit e saturation)

unfoldable pub relative_right : ℕ → ℕ → ℕ → Bool
relative_right e saturation relative = eqb relative (relative_humidity e saturation)

unfoldable pub dew_right : (ℕ → ℤ) → ℕ → ℤ → Bool
dew_right dew e at = recorded_vapour e && within (dew e) (dew e) at
