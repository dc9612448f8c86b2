-- Texts in a row.
use Rattle.std.specs.Prelude.{List, [], ◌∷◌, ◌++◌, ℕ}

-- The text of each number, one behind the other.
unfoldable pub row : (ℕ → List ℕ) → List ℕ → List ℕ
row text [] = []
row text (n ∷ numbers) = text n ++ row text numbers
