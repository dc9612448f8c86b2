-- Bytes laid at the start of a lent buffer: what is answered, and what the buffer holds then (document 01, refusal 17).
use Rattle.std.specs.Prelude.{List, [], ◌∷◌, ◌++◌, ℕ, ltb, length, drop}
use Rattle.number.specs.Refusal.{Test, Answer, refused, given, Numbered, numbered}

-- 17: "lent buffer too short", with "bytes needed"
abbrev pub short : ℕ → ℕ → Test Numbered
short room needed = record { refusal = numbered 17 (needed ∷ []); holds = ltb room needed }

-- What is laid is answered with the number of its bytes.
abbrev pub sized : Answer Numbered (List ℕ) → Answer Numbered ℕ
sized (refused r) = refused r
sized (given laid) = given (length laid)

-- "A successful write leaves bytes behind the file untouched."; a refused one leaves every byte
abbrev pub left_by : List ℕ → Answer Numbered (List ℕ) → List ℕ
left_by before (refused r) = before
left_by before (given laid) = laid ++ drop (length laid) before
