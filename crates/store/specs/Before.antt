-- What a message came to before refusals 8 and 19 were told apart: document 01's own list, where 8 stands for both.
use Rattle.std.specs.Prelude.{Bool, not, cond, List, [], ◌∷◌, ◌++◌, ℕ, eqb}
use Rattle.number.specs.Refusal.{Numbered, Test, Answer, refused, given, answer}
use Rattle.message.specs.Receive.{Entry, tests}
use Rattle.window.specs.Window.{takes}
use Rattle.block.specs.Layout.{NO_STORE}
use Rattle.block.specs.Words.{is_store, unit_of, window_of}
use Rattle.store.specs.Block.{entry_of_bytes}

-- "A message must be later than its channel's newest."
abbrev pub is_later : List ℕ → Entry → Bool
is_later s e = takes (window_of e.channel s) e.minute

-- 8: "not later than the channel's newest"
abbrev pub tests_before : List ℕ → List ℕ → List (Test ℕ)
tests_before s m = tests (unit_of s) m ++ (record { refusal = 8; holds = not (is_later s (entry_of_bytes s m)) } ∷ [])

unfoldable pub hearing_before : List ℕ → List ℕ → Answer ℕ Entry
hearing_before s m = answer (record { refusal = NO_STORE; holds = not (is_store s) } ∷ tests_before s m) (entry_of_bytes s m)

-- An answer of today as it was told then: what is kept stays, each refusal has its number, and 19 was 8.
abbrev pub told_before : Answer Numbered Entry → Answer ℕ Entry
told_before (refused r) = refused (cond (eqb r.number 19) 8 r.number)
told_before (given e) = given e
