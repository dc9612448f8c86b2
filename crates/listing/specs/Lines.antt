-- Lines of records by their figures, as the code puts them: of a record they are its line (proofs/LineLaws).
use Rattle.std.specs.Prelude.{cond, List, [], ◌++◌, ℕ, zero, suc, eqb}
use Rattle.text.specs.Letters.{letters}
use Rattle.text.specs.Text.{field, field_of, end}
use Rattle.watchfile.specs.declared.Figures.{Figures}
use Rattle.reader.specs.Read.{record_at}

abbrev pub letter_of : ℕ → List ℕ
letter_of kind = cond (eqb kind 1) (letters "P") (cond (eqb kind 2) (letters "T") (cond (eqb kind 3) (letters "W") (letters "H")))

abbrev pub humidity_text : Figures → List ℕ
humidity_text f =
    field_of f.first.v ++ field_of f.second.v ++ (field_of f.third.v ++ field_of f.fourth.v ++ field_of f.fifth.v)

abbrev pub figures_text : Figures → List ℕ
figures_text f =
    cond (eqb f.kind 1) (field_of f.first.v)
    (cond (eqb f.kind 4) (humidity_text f)
    (field_of f.first.v ++ field_of f.second.v))

-- The line of a record; nothing where there is none.
unfoldable pub figures_line : Figures → List ℕ
figures_line f =
    cond (eqb f.kind 0) []
    (letter_of f.kind ++ (field f.minute ++ (figures_text f ++ end)))

-- The lines of n records of a file from the one with index i on.
unfoldable pub lines_from : List ℕ → ℕ → ℕ → List ℕ
lines_from s i zero = []
lines_from s i (suc n) = figures_line (record_at s i) ++ lines_from s (suc i) n
