-- What the console says of a line that is no command.
use Rattle.std.specs.Prelude.{cond, List, ◌++◌, ℕ, eqb}
use Rattle.text.specs.Letters.{letters}
use Rattle.text.specs.Text.{field, end}
use Rattle.command.specs.declared.Fault.{Fault}
use Rattle.command.specs.declared.Fault.TheVariants.{NotACommand, WordCount, NotSuch, Misshapen}
use Rattle.line.specs.declared.Place.{Place}

-- `not a command, at 0`: what it is, and the place of the word
abbrev pub wrong_line : List ℕ → Place → List ℕ
wrong_line words p = words ++ (letters ", at" ++ (field p.from ++ end))

-- What a word is not, by the letter of the form: u and x (75, 78), or one of the numbers'.
abbrev pub not_such : ℕ → List ℕ
not_such letter =
    cond (eqb letter 0x75) (letters "not a unit, hPa or mmHg")
    (cond (eqb letter 0x78) (letters "not bytes in hex")
    (letters "not a number that fits"))

abbrev pub fault_line : Fault → List ℕ
fault_line (NotACommand p) = wrong_line (letters "not a command") p
fault_line WordCount = letters "a word is missing or left over" ++ end
fault_line (NotSuch letter p) = wrong_line (not_such letter) p
fault_line (Misshapen p) = wrong_line (letters "not of the form that is wanted") p
