-- The two round trips: what is written is read as the same records, and what is read is written as the same bytes. Of the
-- definitions of reading and writing, which the contracts of the reader and the writer name. Assumes nothing.
use mathlib.Core.Path.{◌≡◌, refl, ap, ◌∙◌, subst}
use mathlib.Core.Bool.{Bool, true, false, cond}
use mathlib.Core.List.{List, [], ◌∷◌}
use Prim.Native.Nat.{ℕ, ◌≤◌}
use native.Mathlib.Omega.{arith}
use lib.Dec.{ltb}
use lib.IntN.{ℤ}
use lib.ListN.{length, take, length-take}
use borrow.Author.Tests.{ltb-false, le-ltb}
use Rattle.number.specs.Refusal.{refused, given, answer, Numbered, numbered}
use Rattle.octets.specs.Bytes.{AreBytes}
use Rattle.octets.specs.Lent.{short}
use Rattle.watchfile.specs.Format.{DewRule, reading, writing, file_of, past}
use Rattle.watchfile.specs.declared.Record.{Record}
use Rattle.writer.proofs.RightLaws.{AllRight, right_goes_on, given_right}
use Rattle.writer.proofs.WrittenReadLaws.{right_read}
use Rattle.writer.proofs.ReadWrittenLaws.{read_right}

last_tests : (a b : Bool) (r q : Numbered) (x y : List ℕ) → cond a (refused r) (cond b (refused q) (given x)) ≡ given y → (a ≡ false) × (x ≡ y)
last_tests true b r q x y e = (cc, cc)
last_tests false true r q x y e = (refl, cc)
last_tests false false r q x y e = (refl, cc)

-- records that are written are right, 48 at most, and the bytes are their file
module _ (rule : ℕ → ℤ) (all : List Record) (count room : ℕ) (bytes : List ℕ) (e : writing rule all count room ≡ given bytes) where
  tested : AllRight rule 0 (take count all) × (answer (past count ∷ short room (length (file_of (take count all))) ∷ []) (file_of (take count all)) ≡ given bytes)
  unfolding writing
  tested = given_right rule (past count ∷ short room (length (file_of (take count all))) ∷ []) (file_of (take count all)) 0 0 (take count all) bytes e

  passed : (ltb 48 count ≡ false) × (file_of (take count all) ≡ bytes)
  unfolding answer
  passed =
      last_tests (ltb 48 count) (ltb room (length (file_of (take count all)))) (numbered 16 (48 ∷ [])) (numbered 17 (length (file_of (take count all)) ∷ []))
      (file_of (take count all)) bytes tested.1

  pub few_written : count ≤ 48
  few_written = ltb-false 48 count passed.0

  few : length (take count all) ≤ 48
  few = omega (arith, few_written, length-take count all)

  -- WHAT IS WRITTEN IS READ AS THE SAME RECORDS.
  pub written_then_read : DewRule rule → reading rule bytes ≡ given (take count all)
  written_then_read ruled = subst (λ (s : List ℕ). reading rule s ≡ given (take count all)) passed.1 (right_read rule ruled (take count all) few tested.0)

module _ (rule : ℕ → ℤ) (s : List ℕ) (rs : List Record) (are : AreBytes s) (e : reading rule s ≡ given rs) where
  -- WHAT IS READ IS WRITTEN AS THE SAME BYTES: the file of the records is the file read,
  pub read_is_file : file_of rs ≡ s
  read_is_file = (read_right rule s rs are e).same

  -- and the writer takes them, wherever they stand first, into any buffer that has the room.
  pub read_then_written : (all : List Record) (room : ℕ) → take (length rs) all ≡ rs → length s ≤ room → writing rule all (length rs) room ≡ given s
  unfolding writing answer
  read_then_written all room first enough =
      let f = read_right rule s rs are e in
      let n : length (file_of rs) ≡ length s = ap length f.same in
      rw first
      (right_goes_on rule (past (length rs) ∷ short room (length (file_of rs)) ∷ []) (file_of rs) 0 0 rs f.right
      ∙ (rw (le-ltb 48 (length rs) f.few, le-ltb room (length (file_of rs)) (omega arith)) (ap given f.same)))
