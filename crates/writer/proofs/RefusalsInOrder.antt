-- Writes test in number order, 16 by index and then 17: a refusal is given exactly when its test holds and none before it does.
-- Assumes nothing.
use mathlib.Core.Path.{◌≡◌}
use mathlib.Core.Logic.{◌↔◌}
use mathlib.Core.List.{List}
use Prim.Native.Nat.{ℕ}
use lib.IntN.{ℤ}
use lib.ListN.{take}
use Rattle.number.specs.Refusal.{refused, given, Holds, Numbered, First}
use Rattle.number.proofs.RefusalLaws.{refused_exactly, given_exactly}
use Rattle.watchfile.specs.Format.{writing, write_tests, file_of}
use Rattle.watchfile.specs.declared.Record.{Record}

module _ (rule : ℕ → ℤ) (all : List Record) (count room : ℕ) where
  pub writes_in_order : (r : Numbered) → (writing rule all count room ≡ refused r) ↔ First (write_tests rule all count room) r
  unfolding writing
  writes_in_order r = refused_exactly (file_of (take count all)) (write_tests rule all count room) r

  pub written_exactly : (writing rule all count room ≡ given (file_of (take count all))) ↔ ((r : Numbered) → Holds (write_tests rule all count room) r → ⊥)
  unfolding writing
  written_exactly = given_exactly (file_of (take count all)) (write_tests rule all count room)
