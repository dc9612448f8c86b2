-- Words of a text as bytes.
use Rattle.std.specs.Prelude.{List, [] as none, ◌∷◌ as ◌then◌, ℕ}
use Prim.Native.Char.{code}
use Prim.Native.String.{String, [], ◌∷◌}

-- The bytes of a word's letters: "0" is 48, a space 32, the end of a line 10 (0A).
abbrev pub letters : String → List ℕ
letters [] = none
letters (c ∷ word) = code c then letters word
