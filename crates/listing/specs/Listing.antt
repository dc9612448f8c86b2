-- The listing of a watch file (document 01, "Watch file").
use Rattle.std.specs.Prelude.{◌≡◌, List, [], ◌∷◌, ◌++◌, ℕ, ◌+◌, ◌*◌, length, Result, Ok, Err}
use Rattle.number.specs.Refusal.{Test, Answer, refused, given, answer, Numbered, numbered}
use Rattle.octets.specs.Lent.{short, sized, left_by}
use Rattle.text.specs.Letters.{letters}
use Rattle.text.specs.Text.{field, field_of, end}
use Rattle.watchfile.specs.declared.Body.{Body}
use Rattle.watchfile.specs.declared.Body.TheVariants.{Pressure, Tendency, Wind, Humidity}
use Rattle.watchfile.specs.declared.Record.{Record}
use Rattle.listing.specs.declared.TooShort.{TooShort}

-- "kind letter P, T, W or H"
abbrev pub letter : Body → List ℕ
letter (Pressure p) = letters "P"
letter (Tendency change absent) = letters "T"
letter (Wind speed direction) = letters "W"
letter (Humidity e saturation deficit relative dew) = letters "H"

-- "body fields in order, whole numbers as stored"
abbrev pub body_text : Body → List ℕ
body_text (Pressure p) = field p
body_text (Tendency change absent) = field_of change.v ++ field absent
body_text (Wind speed direction) = field speed ++ field direction
body_text (Humidity e saturation deficit relative dew) =
    field e ++ (field saturation ++ (field deficit ++ (field relative ++ field_of dew.v)))

-- "kind letter .., minute, body fields": `T 280 -18 179`
abbrev pub record_line : Record → List ℕ
record_line r = letter r.body ++ (field r.minute ++ (body_text r.body ++ end))

unfoldable pub record_lines : List Record → List ℕ
record_lines [] = []
record_lines (r ∷ rs) = record_line r ++ record_lines rs

-- "(label, version, count)": `WT 1 1`
abbrev pub head_line : ℕ → List ℕ
head_line count = letters "WT 1" ++ (field count ++ end)

-- "A bad file prints only `refused 18 at`, a space and the place."
abbrev pub refused_line : ℕ → List ℕ
refused_line place = letters "refused 18 at" ++ (field place ++ end)

-- The listing of what reading a file came to.
unfoldable pub listing_of : Answer ℕ (List Record) → List ℕ
listing_of (given rs) = head_line (length rs) ++ record_lines rs
listing_of (refused place) = refused_line place

-- ---- how long a listing can be

-- The longest line, of a humidity: its letter, a minute of 10 digits, three numbers of 5, one of 3 and one of 10 with its minus,
-- a space before each, and the line's end.
abbrev pub LINE : ℕ
LINE = 1 + 11 + 3 * 6 + 4 + 12 + 1

-- Room for every listing: `WT 1 48` with its end, and 48 lines.
abbrev pub TEXT : ℕ
TEXT = 8 + 48 * LINE

-- ---- the listing in a lent buffer

-- A text put into room for so many bytes: 17 with "bytes needed", or the text.
abbrev pub list_tests : List ℕ → ℕ → List (Test Numbered)
list_tests text room = short room (length text) ∷ []

unfoldable pub listing : List ℕ → ℕ → Answer Numbered (List ℕ)
listing text room = answer (list_tests text room) text

-- Document 01's number of each case, and what it also returns.
abbrev pub listed_as : Result ℕ TooShort → Answer Numbered ℕ
listed_as (Ok n) = given n
listed_as (Err needed) = refused (numbered 17 (needed.0 ∷ []))

-- A text was to be put into the buffer `before`, which is `after` then, and was answered by r.
pub record Lists (text before after : List ℕ) (r : Result ℕ TooShort) : Type 0 where
  pub answer : listed_as r ≡ sized (listing text (length before))
  pub bytes : after ≡ left_by before (listing text (length before))
