-- The next word from a place on, and where a word starts and ends.
use Rattle.std.specs.Prelude.{◌≡◌, false, List, [], ◌∷◌, ℕ, ◌≤◌, ◌<◌, length, get_or, Option, Some, None}
use Rattle.line.specs.Words.{Word, blank, end_from, word_at, words_at}
use Rattle.line.specs.declared.Place.{Place}

-- Where a word starts: at the first byte from a place on that is no blank.
pub record Begins (line : List ℕ) (at r : ℕ) : Type 0 where
  pub behind : at ≤ r
  pub inside : r < length line
  pub words : words_at line at ≡ words_at line r
  pub byte : blank (get_or line r 0) ≡ false

-- Or there is no such byte, and no word.
abbrev pub Start : List ℕ → ℕ → Option ℕ → Type 0
Start line at (Some r) = Begins line at r
Start line at None = words_at line at ≡ []

-- Where a word ends that reaches up to a place.
abbrev pub WordEnd : List ℕ → ℕ → ℕ → Type 0
WordEnd line at r = r ≡ end_from blank line at

-- The next word lies within the line, and has a byte.
abbrev pub Within : ℕ → List ℕ → Option Place → Type 0
Within at s (Some p) = (at ≤ p.from) × (p.from < p.to) × (p.to ≤ length s)
Within at s None = Unit {0}

abbrev pub words_told : List ℕ → Option Place → List Word
words_told line (Some p) = word_at line p.from p.to ∷ words_at line p.to
words_told line None = []

-- The words from a place on are that one and those behind it, or there are none.
pub record NextWord (line : List ℕ) (at : ℕ) (r : Option Place) : Type 0 where
  pub words : words_at line at ≡ words_told line r
  pub within : Within at line r
