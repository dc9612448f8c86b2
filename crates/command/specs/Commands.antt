-- The commands of the console: from a line to a command and its numbers, or to the first fault from the left.
use Rattle.std.specs.Prelude.{Bool, false, cond, List, [], ◌∷◌, ◌++◌, ℕ, suc, eqb, get_or, drop, Option, None, Result, Ok, Err}
use Prim.Native.String.{String}
use Rattle.text.specs.Letters.{letters}
use Rattle.line.specs.Words.{Word, words, same}
use Rattle.command.specs.declared.Verb.{Verb}
use Rattle.command.specs.declared.Verb.TheVariants.{Open, Hear, Note, Pressure, Tendency, Wind, Humidity, Read, Write}
use Rattle.command.specs.declared.Fault.{Fault}
use Rattle.command.specs.declared.Fault.TheVariants.{NotACommand}
use Rattle.command.specs.declared.Deed.{Deed}
use Rattle.command.specs.Forms.{Told, ends, line_told, place_of}

-- A command: its name, its verb, and the form of the words behind its name.
pub record Row : Type 0 where
  pub name : List ℕ
  pub verb : Verb
  pub form : List ℕ

abbrev pub row : String → Verb → String → Row
row name verb form = record { name = letters name; verb = verb; form = letters form }

abbrev pub table : List Row
table =
    row "open" Open "uzzzz:a.:zz"
    ∷ row "hear" Hear "x"
    ∷ row "note" Note "nnnnn"
    ∷ row "pressure" Pressure "n"
    ∷ row "tendency" Tendency "n"
    ∷ row "wind" Wind "n"
    ∷ row "humidity" Humidity "n"
    ∷ row "read" Read "x"
    ∷ row "write" Write "n:Pnh....:Tnzo...:Wnhh...:Hnhhhoz"
    ∷ []

-- The command of the first row whose name a word is; whatever is in no row is no command.
unfoldable pub by_table : List Row → Word → List Word → Told (Result (Option Deed) Fault)
by_table [] w ws = ends (Err (NotACommand (place_of w)))
by_table (r ∷ rs) w ws = cond (same w.bytes r.name) (line_told r.verb r.form 0 ws) (by_table rs w ws)

-- A word that begins with `#` (23).
abbrev pub remark : List ℕ → Bool
remark [] = false
remark (b ∷ s) = eqb b 0x23

-- A line without words, or whose first word begins with `#`, is nothing.
abbrev pub command_from : List Word → Told (Result (Option Deed) Fault)
command_from [] = ends (Ok None)
command_from (w ∷ ws) = cond (remark w.bytes) (ends (Ok None)) (by_table table w ws)

unfoldable pub command_of : List ℕ → Told (Result (Option Deed) Fault)
command_of line = command_from (words line)

-- ---- the table as a text: a name, and a form behind `=`, row by row, each row's verb at its place

abbrev pub text_of : List Row → List ℕ
text_of [] = []
text_of (r ∷ rs) = r.name ++ (letters " =" ++ (r.form ++ (letters " " ++ text_of rs)))

abbrev pub verbs : List Verb
verbs = Open ∷ Hear ∷ Note ∷ Pressure ∷ Tendency ∷ Wind ∷ Humidity ∷ Read ∷ []

abbrev pub verb_at : ℕ → Verb
verb_at i = get_or verbs i Write

unfoldable pub rows_of : ℕ → List Word → List Row
rows_of i [] = []
rows_of i (name ∷ []) = []
rows_of i (name ∷ form ∷ ws) = record { name = name.bytes; verb = verb_at i; form = drop 1 form.bytes } ∷ rows_of (suc i) ws
