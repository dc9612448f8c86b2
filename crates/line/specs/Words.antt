-- The words of a line, and the fields of a word. A line comes without its line end.
use Rattle.std.specs.Prelude.{Bool, true, false, ◌&&◌, ◌||◌, cond, List, [], ◌∷◌, ℕ, zero, suc, ◌+◌, ◌-◌, leb, eqb, length, take, drop}

-- Blanks are the bytes 20, 09 and 0D.
abbrev pub blank : ℕ → Bool
blank b = eqb b 0x20 || (eqb b 0x09 || eqb b 0x0D)

-- A word: the place of its first byte in the line, and its bytes.
pub record Word : Type 0 where
  pub from : ℕ
  pub bytes : List ℕ

-- What stands before the first byte that parts: a blank parts words, a colon fields.
unfoldable pub before : (ℕ → Bool) → List ℕ → List ℕ
before parts [] = []
before parts (b ∷ s) = cond (parts b) [] (b ∷ before parts s)

-- Words are the longest runs of other bytes: one begins at each byte that is no blank and does not stand behind such a byte.
-- The words of what stands from place k on; `inside` tells whether a word reaches up to k.
unfoldable pub words_from : ℕ → Bool → List ℕ → List Word
words_from k inside [] = []
words_from k inside (b ∷ s) =
    cond (blank b) (words_from (suc k) false s)
    (cond inside (words_from (suc k) true s)
    (record { from = k; bytes = before blank (b ∷ s) } ∷ words_from (suc k) true s))

abbrev pub words : List ℕ → List Word
words line = words_from 0 false line

-- The bytes of the word with a number, counted from 0; none where there is no such word.
unfoldable pub word_number : ℕ → List Word → List ℕ
word_number n [] = []
word_number zero (w ∷ ws) = w.bytes
word_number (suc n) (w ∷ ws) = word_number n ws

-- The fields of a word are parted by colons (3A): what stands before the first one, and a field behind each.
abbrev pub colon : ℕ → Bool
colon b = eqb b 0x3A

abbrev pub field : List ℕ → List ℕ
field s = before colon s

unfoldable pub more : List ℕ → List (List ℕ)
more [] = []
more (b ∷ s) = cond (colon b) (field s ∷ more s) (more s)

abbrev pub fields : List ℕ → List (List ℕ)
fields word = field word ∷ more word

-- Whether two texts are the same, byte by byte.
unfoldable pub same : List ℕ → List ℕ → Bool
same [] [] = true
same [] (y ∷ ys) = false
same (x ∷ xs) [] = false
same (x ∷ xs) (y ∷ ys) = eqb x y && same xs ys

-- ---- a line and a word from a place on

abbrev pub part : List ℕ → ℕ → ℕ → List ℕ
part s from to = take (to - from) (drop from s)

abbrev pub word_at : List ℕ → ℕ → ℕ → Word
word_at line from to = record { from = from; bytes = part line from to }

abbrev pub words_at : List ℕ → ℕ → List Word
words_at line at = words_from at false (drop at line)

-- The fields from the one on that starts at a place; none behind the word's end.
unfoldable pub fields_at : List ℕ → ℕ → List (List ℕ)
fields_at word at = cond (leb at (length word)) (fields (drop at word)) []

-- Where a word or a field ends that starts at a place.
unfoldable pub end_from : (ℕ → Bool) → List ℕ → ℕ → ℕ
end_from parts s at = at + length (before parts (drop at s))

abbrev pub field_end : List ℕ → ℕ → ℕ
field_end word at = end_from colon word at
