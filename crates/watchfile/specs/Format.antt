-- The watch file: its fields in reading order, what it says, and the bytes of records (document 01, "Watch file").
-- `dew` is the dew point of each e: a contract speaks of every function that gives it by its rule (`DewRule`), and there is one.
use Rattle.std.specs.Prelude.{◌≡◌, Bool, true, ◌&&◌, not, cond, List, [], ◌∷◌, ◌++◌, map, ℕ, zero, suc, ◌+◌, ◌*◌, leb, ltb, eqb, ℤ, pos, length, get_or, drop, take}
use Rattle.number.specs.Refusal.{Test, Answer, answer, Numbered, numbered}
use Rattle.number.specs.declared.Kept.{Kept}
use Rattle.vapour.specs.Vapour.{DewPoint, recorded_vapour}
use Rattle.octets.specs.Bytes.{le16, le32, bytes16, bytes32, signed16, unsigned16}
use Rattle.octets.specs.Lent.{short}
use Rattle.watchfile.specs.Rules.{kind_right, size_of, rank, minute_right, pressure_right, change_right, absent_right, speed_right, direction_right, e_right, saturation_right, deficit_right, relative_right, dew_right}
use Rattle.watchfile.specs.Fields.{Field, field, field_tests, placed}
use Rattle.watchfile.specs.declared.Body.{Body}
use Rattle.watchfile.specs.declared.Body.TheVariants.{Pressure, Tendency, Wind, Humidity}
use Rattle.watchfile.specs.declared.Record.{Record}
use Rattle.watchfile.specs.declared.Figures.{Figures}

-- dew gives the dew point of every e that a file may hold.
abbrev pub DewRule : (ℕ → ℤ) → Type 0
DewRule dew = (e : ℕ) → recorded_vapour e ≡ true → DewPoint e (dew e)

-- What stands at a place without a record.
abbrev pub blank : Record
blank = record { minute = 0; body = Pressure 0 }

-- ---- bodies: s is the file from the body's offset on

abbrev pub pressure_fields : List ℕ → List Field
pressure_fields s = field 0 2 (pressure_right (le16 s 0)) ∷ []

abbrev pub tendency_fields : List ℕ → List Field
tendency_fields s = field 0 2 (change_right (signed16 (le16 s 0))) ∷ field 2 3 (absent_right (get_or s 2 0)) ∷ []

abbrev pub wind_fields : List ℕ → List Field
wind_fields s = field 0 2 (speed_right (le16 s 0)) ∷ field 2 4 (direction_right (le16 s 0) (le16 s 2)) ∷ []

-- "e is tested once saturation is whole, and before it."
abbrev pub humidity_fields : (ℕ → ℤ) → List ℕ → List Field
humidity_fields dew s =
    field 0 4 (e_right (le16 s 2) (le16 s 0))
    ∷ field 2 4 (saturation_right (le16 s 2))
    ∷ field 4 6 (deficit_right (le16 s 0) (le16 s 2) (le16 s 4))
    ∷ field 6 7 (relative_right (le16 s 0) (le16 s 2) (get_or s 6 0))
    ∷ field 7 9 (dew_right dew (le16 s 0) (signed16 (le16 s 7)))
    ∷ []

abbrev pub body_fields : (ℕ → ℤ) → ℕ → List ℕ → List Field
body_fields dew kind s =
    cond (eqb kind 1) (pressure_fields s)
    (cond (eqb kind 2) (tendency_fields s)
    (cond (eqb kind 3) (wind_fields s)
    (humidity_fields dew s)))

-- What a body says.
abbrev pub kept : ℤ → Kept
kept z = record { v = z }

abbrev pub body_of : ℕ → List ℕ → Body
body_of kind s =
    cond (eqb kind 1) (Pressure (le16 s 0))
    (cond (eqb kind 2) (Tendency (kept (signed16 (le16 s 0))) (get_or s 2 0))
    (cond (eqb kind 3) (Wind (le16 s 0) (le16 s 2))
    (Humidity (le16 s 0) (le16 s 2) (le16 s 4) (get_or s 6 0) (kept (signed16 (le16 s 7))))))

-- A record of a kind by its figures: its minute and "body fields in order", 0 where the kind has fewer.
abbrev pub figures : ℕ → ℕ → ℤ → ℤ → ℤ → ℤ → ℤ → Figures
figures kind minute a b c d e =
    record { kind = kind; minute = minute; first = kept a; second = kept b; third = kept c; fourth = kept d; fifth = kept e }

abbrev pub body_figures : ℕ → Body → Figures
body_figures m (Pressure p) = figures 1 m (pos p) (pos 0) (pos 0) (pos 0) (pos 0)
body_figures m (Tendency change absent) = figures 2 m change.v (pos absent) (pos 0) (pos 0) (pos 0)
body_figures m (Wind speed direction) = figures 3 m (pos speed) (pos direction) (pos 0) (pos 0) (pos 0)
body_figures m (Humidity e saturation deficit relative dew) = figures 4 m (pos e) (pos saturation) (pos deficit) (pos relative) dew.v

abbrev pub figures_of : Record → Figures
figures_of r = body_figures r.minute r.body

-- The figures of no record.
abbrev pub nothing : Figures
nothing = figures 0 0 (pos 0) (pos 0) (pos 0) (pos 0) (pos 0)

-- ---- contents: "8 bytes a record: kind (1), zero (1), body offset (2), minute (4)"

-- s is the file from the record's eight bytes on, next the place where its body has to start, before the rank of the record before it
abbrev pub row_fields : List ℕ → ℕ → ℕ → List Field
row_fields s next before =
    field 0 1 (kind_right (get_or s 0 0))
    ∷ field 1 2 (eqb (get_or s 1 0) 0)
    ∷ field 2 4 (eqb (le16 s 2) next)
    ∷ field 4 8 (minute_right before (get_or s 0 0) (le32 s 4))
    ∷ []

-- ---- the file: "Bytes 57 54, version 01, count 0 to 48."; "the label is one field"

abbrev pub head_fields : List ℕ → List Field
head_fields s =
    field 0 2 (eqb (get_or s 0 0) 0x57 && eqb (get_or s 1 0) 0x54)
    ∷ field 2 3 (eqb (get_or s 2 0) 1)
    ∷ field 3 4 (leb (get_or s 3 0) 48)
    ∷ []

-- The contents of n records from place `at` on.
unfoldable pub rows_fields : List ℕ → ℕ → ℕ → ℕ → ℕ → List Field
rows_fields s zero at next before = []
rows_fields s (suc n) at next before =
    placed at (row_fields (drop at s) next before)
    ++ rows_fields s n (at + 8) (next + size_of (get_or (drop at s) 0 0)) (rank (le32 (drop at s) 4) (get_or (drop at s) 0 0))

-- "Bodies follow in that order with no space between and nothing after them": the last field is that the file ends there
unfoldable pub bodies_fields : (ℕ → ℤ) → List ℕ → ℕ → ℕ → ℕ → List Field
bodies_fields dew s zero row at = field at at (eqb (length s) at) ∷ []
bodies_fields dew s (suc n) row at =
    placed at (body_fields dew (get_or (drop row s) 0 0) (drop at s))
    ++ bodies_fields dew s n (row + 8) (at + size_of (get_or (drop row s) 0 0))

abbrev pub count_of : List ℕ → ℕ
count_of s = get_or s 3 0

abbrev pub start_of : ℕ → ℕ
start_of n = 4 + 8 * n

-- "The reader goes front to back, all contents before any body"
abbrev pub fields : (ℕ → ℤ) → List ℕ → List Field
fields dew s =
    head_fields s
    ++ (rows_fields s (count_of s) 4 (start_of (count_of s)) 0 ++ bodies_fields dew s (count_of s) 4 (start_of (count_of s)))

-- The records of a file.
unfoldable pub records_from : List ℕ → ℕ → ℕ → ℕ → List Record
records_from s zero row at = []
records_from s (suc n) row at =
    record { minute = le32 (drop row s) 4; body = body_of (get_or (drop row s) 0 0) (drop at s) }
    ∷ records_from s n (row + 8) (at + size_of (get_or (drop row s) 0 0))

abbrev pub records : List ℕ → List Record
records s = records_from s (count_of s) 4 (start_of (count_of s))

-- 18: "file broken", with "place"
abbrev pub broken_at : ℕ → Numbered
broken_at place = numbered 18 (place ∷ [])

-- The tests of a file in their order, each with its number and its place.
abbrev pub file_test : Test ℕ → Test Numbered
file_test t = record { refusal = broken_at t.refusal; holds = t.holds }

abbrev pub file_tests : (ℕ → ℤ) → List ℕ → List (Test Numbered)
file_tests dew s = map file_test (field_tests (length s) (fields dew s))

-- Reading a file: its records, or the place where it is broken.
unfoldable pub reading : (ℕ → ℤ) → List ℕ → Answer ℕ (List Record)
reading dew s = answer (field_tests (length s) (fields dew s)) (records s)

-- ---- records, written

abbrev pub kind_of : Body → ℕ
kind_of (Pressure p) = 1
kind_of (Tendency change absent) = 2
kind_of (Wind speed direction) = 3
kind_of (Humidity e saturation deficit relative dew) = 4

abbrev pub body_bytes : Body → List ℕ
body_bytes (Pressure p) = bytes16 p
body_bytes (Tendency change absent) = bytes16 (unsigned16 change.v) ++ (absent ∷ [])
body_bytes (Wind speed direction) = bytes16 speed ++ bytes16 direction
body_bytes (Humidity e saturation deficit relative dew) =
    bytes16 e ++ (bytes16 saturation ++ (bytes16 deficit ++ (relative ∷ bytes16 (unsigned16 dew.v))))

abbrev pub row_bytes : Record → ℕ → List ℕ
row_bytes r next = kind_of r.body ∷ 0 ∷ (bytes16 next ++ bytes32 r.minute)

unfoldable pub rows_bytes : List Record → ℕ → List ℕ
rows_bytes [] next = []
rows_bytes (r ∷ rs) next = row_bytes r next ++ rows_bytes rs (next + size_of (kind_of r.body))

unfoldable pub bodies_bytes : List Record → List ℕ
bodies_bytes [] = []
bodies_bytes (r ∷ rs) = body_bytes r.body ++ bodies_bytes rs

-- "Contents first, then bodies"
abbrev pub file_of : List Record → List ℕ
file_of rs = 0x57 ∷ 0x54 ∷ 1 ∷ length rs ∷ (rows_bytes rs (start_of (length rs)) ++ bodies_bytes rs)

-- ---- what may be written

abbrev pub body_right : (ℕ → ℤ) → Body → Bool
body_right dew (Pressure p) = pressure_right p
body_right dew (Tendency change absent) = change_right change.v && absent_right absent
body_right dew (Wind speed direction) = speed_right speed && direction_right speed direction
body_right dew (Humidity e saturation deficit relative at) =
    e_right saturation e && saturation_right saturation && deficit_right e saturation deficit && relative_right e saturation relative && dew_right dew e at.v

abbrev pub rank_of : Record → ℕ
rank_of r = rank r.minute (kind_of r.body)

abbrev pub record_right : (ℕ → ℤ) → ℕ → Record → Bool
record_right dew before r = minute_right before (kind_of r.body) r.minute && body_right dew r.body

-- 16: "record to write breaks the file rules, or is the 49th", with "the first such record's index; indices count from 0"
unfoldable pub record_tests : (ℕ → ℤ) → ℕ → ℕ → List Record → List (Test Numbered)
record_tests dew i before [] = []
record_tests dew i before (r ∷ rs) =
    record { refusal = numbered 16 (i ∷ []); holds = not (record_right dew before r) } ∷ record_tests dew (i + 1) (rank_of r) rs

abbrev pub past : ℕ → Test Numbered
past count = record { refusal = numbered 16 (48 ∷ []); holds = ltb 48 count }

-- Writing the first `count` of the records handed over into room for so many bytes: 16, then 17 with "bytes needed", or the file.
abbrev pub write_tests : (ℕ → ℤ) → List Record → ℕ → ℕ → List (Test Numbered)
write_tests dew all count room =
    record_tests dew 0 0 (take count all) ++ (past count ∷ short room (length (file_of (take count all))) ∷ [])

unfoldable pub writing : (ℕ → ℤ) → List Record → ℕ → ℕ → Answer Numbered (List ℕ)
writing dew all count room = answer (write_tests dew all count room) (file_of (take count all))
