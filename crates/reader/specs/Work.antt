-- What the reader's own functions find: the answer of a part of the file.
use Rattle.std.specs.Prelude.{◌≡◌, cond, List, ℕ, eqb, ltb, ℤ, pos, get_or, length, Result, Ok, Err, Option, Some, None}
use Rattle.number.specs.Refusal.{Answer, refused, given, answer}
use Rattle.octets.specs.Bytes.{le16, le32, signed16}
use Rattle.watchfile.specs.Fields.{Field, field_tests}
use Rattle.watchfile.specs.Format.{row_fields, rows_fields, bodies_fields, records_from, start_of}
use Rattle.watchfile.specs.declared.Record.{Record}
use Rattle.reader.specs.Read.{row_at, offset_at, is_there}
use Rattle.reader.specs.declared.Broken.{Broken}
use Rattle.reader.specs.declared.Row.{Row}
use Rattle.reader.specs.declared.Place.{Place}

-- What the fields of a part come to: its value, or the place of the first that is wrong, counted from the part's first byte.
abbrev pub found : {A : Type 0} → List ℕ → List Field → A → Answer ℕ A
found s fs a = answer (field_tests (length s) fs) a

-- What reading a part answers: its value, or that place.
abbrev pub found_as : {A : Type 0} → Result A Broken → Answer ℕ A
found_as (Ok a) = given a
found_as (Err b) = refused b.0

-- ---- a row of the contents, at the start of s

abbrev pub row_of : List ℕ → Row
row_of s = record { kind = get_or s 0 0; minute = le32 s 4 }

abbrev pub RowFound : ℕ → ℕ → List ℕ → Result Row Broken → Type 0
RowFound next before s r = found_as r ≡ found s (row_fields s next before) (row_of s)

-- ---- a body, at the start of s: right, or the place of its first wrong field

abbrev pub BodyHas : List Field → List ℕ → Result (Unit {0}) Broken → Type 0
BodyHas fields s r = found_as r ≡ found s fields tt

-- ---- the file s of so many records

-- Its contents: that many, or the place where they are broken.
abbrev pub contents_of : List ℕ → ℕ → Answer ℕ ℕ
contents_of s count = found s (rows_fields s count 4 (start_of count) 0) count

-- Its bodies: the records, or the place where they are broken.
abbrev pub bodies_of : (ℕ → ℤ) → List ℕ → ℕ → Answer ℕ (List Record)
bodies_of rule s count = found s (bodies_fields rule s count 4 (start_of count)) (records_from s count 4 (start_of count))

-- ---- a single record

abbrev pub place_of : List ℕ → ℕ → Option Place
place_of s i = cond (is_there s i) (Some (record { row = row_of (row_at s i); at = offset_at s i })) None

-- The fields of a body by its kind, 0 where it has fewer.
abbrev pub first_of : ℕ → List ℕ → ℤ
first_of kind s = cond (eqb kind 2) (signed16 (le16 s 0)) (pos (le16 s 0))

abbrev pub second_of : ℕ → List ℕ → ℤ
second_of kind s = cond (eqb kind 2) (pos (get_or s 2 0)) (cond (ltb 2 kind) (pos (le16 s 2)) (pos 0))

abbrev pub third_of : ℕ → List ℕ → ℤ
third_of kind s = cond (eqb kind 4) (pos (le16 s 4)) (pos 0)

abbrev pub fourth_of : ℕ → List ℕ → ℤ
fourth_of kind s = cond (eqb kind 4) (pos (get_or s 6 0)) (pos 0)

abbrev pub fifth_of : ℕ → List ℕ → ℤ
fifth_of kind s = cond (eqb kind 4) (signed16 (le16 s 7)) (pos 0)
