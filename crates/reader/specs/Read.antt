-- What reading a watch file answers (document 01, "Watch file" and refusal 18): whether it is good, and each of its records.
use Rattle.std.specs.Prelude.{Bool, ◌&&◌, cond, List, ℕ, ◌+◌, ltb, leb, length, get_or, drop, Result, Ok, Err}
use Rattle.number.specs.Refusal.{Answer, refused, given, Numbered}
use Rattle.octets.specs.Bytes.{le16, le32}
use Rattle.watchfile.specs.Rules.{kind_right, size_of}
use Rattle.watchfile.specs.Format.{broken_at, count_of, start_of, body_of, figures_of, nothing}
use Rattle.watchfile.specs.declared.Record.{Record}
use Rattle.watchfile.specs.declared.Figures.{Figures}
use Rattle.reader.specs.declared.Broken.{Broken}

-- Document 01's number of each case, and what it also returns.
abbrev pub verdict_as : Result ℕ Broken → Answer Numbered ℕ
verdict_as (Ok n) = given n
verdict_as (Err b) = refused (broken_at b.0)

-- A good file is answered with the number of its records, a broken one with 18 and the place.
abbrev pub counted : Answer ℕ (List Record) → Answer Numbered ℕ
counted (refused place) = refused (broken_at place)
counted (given rs) = given (length rs)

-- ---- single records, of any bytes

-- The eight bytes of record i in the contents, and the kind and the offset that they name.
abbrev pub row_at : List ℕ → ℕ → List ℕ
row_at s i = drop (start_of i) s

abbrev pub kind_at : List ℕ → ℕ → ℕ
kind_at s i = get_or (row_at s i) 0 0

abbrev pub offset_at : List ℕ → ℕ → ℕ
offset_at s i = le16 (row_at s i) 2

-- The contents count so many, its row and its body lie in the file, and its kind is one.
abbrev pub is_there : List ℕ → ℕ → Bool
is_there s i =
    ltb i (count_of s) && leb (start_of i + 8) (length s) && kind_right (kind_at s i) && leb (offset_at s i + size_of (kind_at s i)) (length s)

-- "Each body is read from its own offset"
abbrev pub record_in : List ℕ → ℕ → Record
record_in s i = record { minute = le32 (row_at s i) 4; body = body_of (kind_at s i) (drop (offset_at s i) s) }

-- By its figures: of a good file its i-th record, and nothing where it has not so many (`good_record`, `no_more`).
abbrev pub record_at : List ℕ → ℕ → Figures
record_at s i = cond (is_there s i) (figures_of (record_in s i)) nothing
