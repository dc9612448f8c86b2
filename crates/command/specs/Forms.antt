-- Forms: what the words behind a command's name are, and the numbers that they say.
-- A form has a letter for each word. Behind a colon stand the forms of the words of a list, which ends the line, with a letter for
-- each field; one that begins with a capital or with `a` is for the words whose first field is that capital, or `anemometer`.
use Rattle.std.specs.Prelude.{Bool, true, false, ◌&&◌, ◌||◌, cond, List, [], ◌∷◌, ◌++◌, ℕ, suc, ◌+◌, leb, ltb, eqb, length, get_or, Option, Some, None, Result, Ok, Err}
use Rattle.text.specs.Letters.{letters}
use Rattle.line.specs.Words.{Word, field, more, fields, same}
use Rattle.line.specs.Numeral.{whole, signed}
use Rattle.line.specs.declared.Place.{Place}
use Rattle.hexadecimal.specs.Hex.{is_hex}
use Rattle.values.specs.Values.{anemometer_word}
use Rattle.command.specs.declared.Verb.{Verb}
use Rattle.command.specs.declared.Deed.{Deed}
use Rattle.command.specs.declared.Fault.{Fault}
use Rattle.command.specs.declared.Fault.TheVariants as fault
use Rattle.command.specs.declared.Flaw.{Flaw}
use Rattle.command.specs.declared.Flaw.TheVariants.{NotSuch, Misshapen, LeftOver}

-- ---- letters

-- A number, where a text is what it should be.
abbrev pub only : Bool → ℕ → Option ℕ
only right n = cond right (Some n) None

-- What a text says by a letter. n, h and o are whole numbers of 32, 16 and 8 bits, z is one of 32 bits with a sign, u the barometer's
-- unit, x bytes in hex, and a the word `anemometer`. Whatever letter is none of these stands for itself.
unfoldable pub told : ℕ → List ℕ → Option ℕ
told letter s =
    cond (eqb letter 0x6E {- n -}) (whole 4294967295 s)
    (cond (eqb letter 0x68 {- h -}) (whole 65535 s)
    (cond (eqb letter 0x6F {- o -}) (whole 255 s)
    (cond (eqb letter 0x7A {- z -}) (signed s)
    (cond (eqb letter 0x75 {- u -}) (cond (same s (letters "hPa")) (Some 0) (only (same s (letters "mmHg")) 1))
    (cond (eqb letter 0x78 {- x -}) (only (is_hex s) 0)
    (cond (eqb letter 0x61 {- a -}) (only (same s (letters "anemometer")) anemometer_word)
    (only (same s (letter ∷ [])) letter)))))))

-- ---- words, from the left

-- The numbers that words or fields say before the first flaw, and what they come to.
pub record Told (A : Type 0) : Type 0 where
  pub numbers : List ℕ
  pub outcome : A

abbrev pub ends : {A : Type 0} → A → Told A
ends a = record { numbers = []; outcome = a }

abbrev pub behind : {A : Type 0} → List ℕ → Told A → Told A
behind ns t = record { numbers = ns ++ t.numbers; outcome = t.outcome }

-- What a letter's text says, and then the rest.
abbrev pub letter_then : ℕ → Option ℕ → Told (Result (Unit {0}) Flaw) → Told (Result (Unit {0}) Flaw)
letter_then letter (Some n) rest = behind (n ∷ []) rest
letter_then letter None rest = ends (Err (NotSuch letter))

-- The fields of a word by the letters of a form. A point (2E) says 0 and stands for no field.
unfoldable pub fields_told : List ℕ → List (List ℕ) → Told (Result (Unit {0}) Flaw)
fields_told [] [] = ends (Ok tt)
fields_told [] (f ∷ fs) = ends (Err Misshapen)
fields_told (l ∷ ls) [] = cond (eqb l 0x2E) (behind (0 ∷ []) (fields_told ls [])) (ends (Err Misshapen))
fields_told (l ∷ ls) (f ∷ fs) = cond (eqb l 0x2E) (behind (0 ∷ []) (fields_told ls (f ∷ fs))) (letter_then l (told l f) (fields_told ls fs))

-- Whether a form is one for a word: a capital (41 to 5A) or a (61) at its start has to be what the word's first field says.
abbrev pub picks : ℕ → Bool
picks letter = eqb letter 0x61 || (leb 0x41 letter && leb letter 0x5A)

abbrev pub says : Option ℕ → Bool
says (Some n) = true
says None = false

unfoldable pub fits : List ℕ → List ℕ → Bool
fits form word = cond (picks (get_or form 0 0)) (says (told (get_or form 0 0) (field word))) true

-- A word of a list, by the first of some forms that is one for it.
unfoldable pub list_told : List (List ℕ) → List ℕ → Told (Result (Unit {0}) Flaw)
list_told [] word = ends (Err Misshapen)
list_told (f ∷ fs) word = cond (fits f word) (fields_told f (fields word)) (list_told fs word)

-- Where the letters have run out: no form at all means that the word is left over.
abbrev pub left_told : List (List ℕ) → List ℕ → Told (Result (Unit {0}) Flaw)
left_told [] word = ends (Err LeftOver)
left_told (f ∷ fs) word = list_told (f ∷ fs) word

-- The word with a number behind the name, counted from 0.
unfoldable pub word_told : List ℕ → ℕ → List ℕ → Told (Result (Unit {0}) Flaw)
word_told form number word =
    cond (ltb number (length (field form))) (letter_then (get_or form number 0) (told (get_or form number 0) word) (ends (Ok tt))) (left_told (more form) word)

-- A line may end where each letter had its word; a word in hex may be missing, and means no bytes.
unfoldable pub may_end : List ℕ → ℕ → Bool
may_end form number = cond (ltb number (length (field form))) (eqb (get_or form number 0) 0x78 {- x -}) true

-- Where a word stands: its first byte, and the place behind its last.
abbrev pub place_of : Word → Place
place_of w = record { from = w.from; to = w.from + length w.bytes }

-- What a flaw of a word is in its line.
abbrev pub fault_of : Flaw → Place → Fault
fault_of (NotSuch letter) p = fault.NotSuch letter p
fault_of Misshapen p = fault.Misshapen p
fault_of LeftOver p = fault.WordCount

-- A word without a flaw, and then the rest of the line; or the fault.
abbrev pub word_then : Word → Told (Result (Unit {0}) Flaw) → Told (Result (Option Deed) Fault) → Told (Result (Option Deed) Fault)
word_then w t rest = go t.outcome
  where
    go : Result (Unit {0}) Flaw → Told (Result (Option Deed) Fault)
    go (Ok u) = behind t.numbers rest
    go (Err flaw) = record { numbers = t.numbers; outcome = Err (fault_of flaw (place_of w)) }

-- The words of a line from the one with a number on.
unfoldable pub line_told : Verb → List ℕ → ℕ → List Word → Told (Result (Option Deed) Fault)
line_told verb form number [] = ends (cond (may_end form number) (Ok (Some (record { verb = verb; words = number }))) (Err fault.WordCount))
line_told verb form number (w ∷ ws) = word_then w (word_told form number w.bytes) (line_told verb form (suc number) ws)
