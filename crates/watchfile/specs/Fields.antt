-- The fields of a file in the order in which they are tested, and the place of the first that is wrong.
use Rattle.std.specs.Prelude.{Bool, not, List, [], ◌∷◌, ℕ, ◌+◌, ltb}
use Rattle.number.specs.Refusal.{Test}

-- A field: its first byte, how many bytes a file must have before it is whole, and whether it is right.
pub record Field : Type 0 where
  pub at : ℕ
  pub whole : ℕ
  pub right : Bool

abbrev pub field : ℕ → ℕ → Bool → Field
field at whole right = record { at = at; whole = whole; right = right }

-- "tests a field once it is whole": "The place of refusal 18 is the first byte of the first wrong field, the file's length where
-- a field is cut short"; of a file of n bytes
unfoldable pub field_tests : ℕ → List Field → List (Test ℕ)
field_tests n [] = []
field_tests n (f ∷ fs) =
    record { refusal = n; holds = ltb n f.whole } ∷ record { refusal = f.at; holds = not f.right } ∷ field_tests n fs

-- The fields of a part that starts at a place.
abbrev pub placed : ℕ → List Field → List Field
placed k [] = []
placed k (f ∷ fs) = field (k + f.at) (k + f.whole) f.right ∷ placed k fs
