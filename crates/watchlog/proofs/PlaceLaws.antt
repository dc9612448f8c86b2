-- From the records in 48 places to what writing all of them comes to, also where the last of 49 has no place. Assumes nothing.
use mathlib.Core.Path.{◌≡◌, refl, sym, ap, ◌∙◌, subst}
use mathlib.Core.Bool.{Bool, true, false, not, cond}
use mathlib.Core.List.{List, [], ◌∷◌, ◌++◌}
use Prim.Native.Nat.{ℕ, suc, ◌+◌, ◌≤◌, ◌<◌, min}
use native.Mathlib.Omega.{arith}
use native.Mathlib.Decide.{dec_lt}
use lib.IntN.{ℤ}
use lib.ListN.{length, take, set, get_or, length-take, length-set}
use lib.Seq.{get_or-take, take_all, take-take, take-suc, take-set-lt}
use Rattle.number.specs.Refusal.{Test, Answer, refused, given, answer, Numbered, numbered}
use Rattle.octets.specs.Bytes.{AreBytes}
use Rattle.octets.specs.Lent.{short}
use Rattle.watchfile.specs.Format.{blank, record_right, record_tests, past, rank_of, file_of, reading, writing}
use Rattle.watchfile.specs.declared.Record.{Record}
use Rattle.reader.specs.Read.{verdict_as, counted}
use Rattle.std.specs.Prelude.{Result, Ok, Err}
use Rattle.reader.specs.declared.Broken as reader
use Rattle.reader.proofs.VerdictLaws.{broken_is, good_is}
use Rattle.writer.specs.Write.{written_as, Wrote}
use Rattle.writer.specs.declared.WriteRefusal.{WriteRefusal}
use Rattle.writer.proofs.RestLaws.{at}
use Rattle.writer.proofs.ReadWrittenLaws.{read_right}
use Rattle.watchlog.specs.Places.{ReadIn}
use Rattle.watchlog.specs.Placing.{inserted, placed_as, writing_all, Leaves, place_of, pushed}
use Rattle.watchlog.specs.declared.PlaceRefusal.{PlaceRefusal}
use Rattle.watchlog.proofs.LaidLaws.{same_front, file_records}
use Rattle.watchlog.proofs.InsertLaws.{place_most, insert_set, insert_push, push_front, push_length}

module _ (rule : ℕ → ℤ) where
  -- the 49th record is refused, be it right or wrong
  one_past : (right : Bool) (i : ℕ) (L L' : List (Test Numbered)) (a a' : List ℕ) → i ≡ 48
      → cond (not right) (refused (numbered 16 (i ∷ []))) (answer (past 49 ∷ L) a) ≡ answer (past 49 ∷ L') a'
  unfolding answer
  one_past true i L L' a a' e = refl
  one_past false i L L' a a' e = ap (λ (k : ℕ). refused (numbered 16 (k ∷ []))) e

  last_past : (i before : ℕ) (xs : List Record) (y : Record) (L L' : List (Test Numbered)) (a a' : List ℕ) → i + length xs ≡ 48
      → answer (record_tests rule i before (xs ++ (y ∷ [])) ++ (past 49 ∷ L)) a ≡ answer (record_tests rule i before xs ++ (past 49 ∷ L')) a'
  unfolding answer record_tests
  last_past i before [] y L L' a a' h = one_past (record_right rule before y) i L L' a a' (omega arith)
  last_past i before (x ∷ xs) y L L' a a' h =
      ap (λ (z : Answer Numbered (List ℕ)). cond (not (record_right rule before x)) (refused (numbered 16 (i ∷ []))) z)
      (last_past (i + 1) (rank_of x) xs y L L' a a' (omega arith))

  forty_nine : (X : List Record) (room : ℕ) → length X ≡ 49 → writing rule (take 48 X) 49 room ≡ writing rule X 49 room
  unfolding writing
  forty_nine X room n =
      let front : take 49 (take 48 X) ≡ take 48 X = take_all 49 (take 48 X) (omega (arith, length-take 48 X)) in
      let whole : take 49 X ≡ take 48 X ++ (get_or X 48 blank ∷ []) = take-suc X 48 blank (omega arith) in
      rw (front, whole)
      (sym (last_past 0 0 (take 48 X) (get_or X 48 blank)
      (short room (length (file_of (take 48 X ++ (get_or X 48 blank ∷ [])))) ∷ []) (short room (length (file_of (take 48 X))) ∷ [])
      (file_of (take 48 X ++ (get_or X 48 blank ∷ []))) (file_of (take 48 X)) (omega (arith, length-take 48 X))))

  module _ (records : List Record) (long : length records ≡ 48) (count : ℕ) (few : count ≤ 48) (r : Record) (room : ℕ) where
    abbrev rs : List Record
    rs = take count records

    abbrev here : ℕ
    here = place_of (rank_of r) rs

    many : length rs ≡ count
    many = omega (arith, length-take count records)

    -- one of the same minute and kind is replaced
    writes_set : here < count → rank_of (at rs here) ≡ rank_of r → writing rule (set records here r) count room ≡ writing_all rule room (inserted r rs)
    writes_set l e =
        let is : inserted r rs ≡ set rs here r = insert_set r rs (omega (arith, many)) e in
        let n : length (inserted r rs) ≡ count = ap length is ∙ length-set rs here r ∙ many in
        same_front rule (set records here r) (inserted r rs) count room
        (take-set-lt count records here r l ∙ sym is ∙ sym (take_all count (inserted r rs) (omega arith)))
        ∙ ap (λ (k : ℕ). writing rule (inserted r rs) k room) (sym n)

    -- or it is one more
    writes_push : (here < count → rank_of (at rs here) ≡ rank_of r → ⊥) → writing rule (take 48 (pushed here r records)) (count + 1) room ≡ writing_all rule room (inserted r rs)
    writes_push none =
        let is : inserted r rs ≡ pushed here r rs = insert_push r rs (λ l e. none (omega (arith, many)) e) in
        let n : length (inserted r rs) ≡ count + 1 = ap length is ∙ push_length here r rs ∙ (omega (arith, many)) in
        go (dec_lt count 48) is n ∙ ap (λ (k : ℕ). writing rule (inserted r rs) k room) (sym n)
      where
        go : Dec (count < 48) → inserted r rs ≡ pushed here r rs → length (inserted r rs) ≡ count + 1
            → writing rule (take 48 (pushed here r records)) (count + 1) room ≡ writing rule (inserted r rs) (count + 1) room
        go (yes y) is n =
            let k : count + 1 ≡ suc count = omega arith in
            let front : take (suc count) (pushed here r records) ≡ pushed here r rs = push_front count here r records (omega (arith, place_most (rank_of r) rs, many)) in
            let less : take (suc count) (take 48 (pushed here r records)) ≡ take (suc count) (pushed here r records) = take-take (suc count) 48 (pushed here r records) (omega arith) in
            let all : take (suc count) (inserted r rs) ≡ inserted r rs = take_all (suc count) (inserted r rs) (omega arith) in
            same_front rule (take 48 (pushed here r records)) (inserted r rs) (count + 1) room (rw k (less ∙ front ∙ sym is ∙ sym all))
        go (no z) is n =
            let c : count + 1 ≡ 49 = omega arith in
            let whole : rs ≡ records = take_all count records (omega arith) in
            let same : pushed here r records ≡ inserted r rs = ap (pushed here r) (sym whole) ∙ sym is in
            rw (c, same) (forty_nine (inserted r rs) room (n ∙ c))

    -- the same of the place that was found
    module _ (rank i : ℕ) (ranked : rank ≡ rank_of r) (found : i ≡ place_of rank rs) where
      is_here : i ≡ here
      is_here = found ∙ ap (λ (k : ℕ). place_of k rs) ranked

      stands : i < count → rank_of (at rs here) ≡ rank_of (at records i)
      stands l = ap (λ (k : ℕ). rank_of (at rs k)) (sym is_here) ∙ ap rank_of (get_or-take count records i blank l)

      pub set_written : i < count → rank_of (at records i) ≡ rank → writing rule (set records i r) count room ≡ writing_all rule room (inserted r rs)
      set_written l e =
          ap (λ (k : ℕ). writing rule (set records k r) count room) is_here
          ∙ writes_set (omega (arith, is_here)) (stands l ∙ e ∙ ranked)

      pub push_written : (i < count → rank_of (at records i) ≡ rank → ⊥)
          → writing rule (take 48 (pushed i r records)) (count + 1) room ≡ writing_all rule room (inserted r rs)
      push_written none =
          ap (λ (k : ℕ). writing rule (take 48 (pushed k r records)) (count + 1) room) is_here
          ∙ writes_push (λ l e. let k : i < count = omega (arith, is_here) in none k (sym (stands k) ∙ e ∙ sym ranked))

-- what a write answers and leaves, as an answer of the logbook
pub leaves : (rule : ℕ → ℤ) (all : List Record) (count : ℕ) (before after : List ℕ) (w : Result ℕ WriteRefusal) (p : Result ℕ PlaceRefusal) (file : Answer Numbered (List ℕ))
    → Wrote rule all count before after w → placed_as p ≡ written_as w → writing rule all count (length before) ≡ file → Leaves file before after p
leaves rule all count before after w p file wrote e same =
    subst (λ (f : Answer Numbered (List ℕ)). Leaves f before after p) same (record { answer = e ∙ wrote.answer; bytes = wrote.bytes })

-- ---- the file that was read

-- a whole slice is its first n, where n is its length or more
front : (s : List ℕ) (n end : ℕ) → end ≡ min n (length s) → take end s ≡ take n s
front s n end e = go (dec_lt n (length s))
  where
    go : Dec (n < length s) → take end s ≡ take n s
    go (yes y) = let k : end ≡ n = omega arith in ap (λ (j : ℕ). take j s) k
    go (no z) = take_all end s (omega arith) ∙ sym (take_all n s (omega arith))

-- a file that was found broken, and one that was found good
pub broken_there : (a : Answer ℕ (List Record)) (v : Result ℕ reader.Broken) (b : reader.Broken) → verdict_as v ≡ counted a → v ≡ Err b → a ≡ refused b.0
broken_there a v b e f = broken_is a b.0 (sym e ∙ ap verdict_as f)

pub good_there : (rule : ℕ → ℤ) (s : List ℕ) → AreBytes s → (v : Result ℕ reader.Broken) (records : List Record) (count : ℕ)
    → verdict_as v ≡ counted (reading rule s) → v ≡ Ok count → ReadIn s 48 records → reading rule s ≡ given (take count records)
good_there rule s are v records count e f at =
    let good = good_is (reading rule s) count (sym e ∙ ap verdict_as f) in
    let few = (read_right rule s good.0 are good.1).few in
    good.1 ∙ ap given (sym (ap (λ (n : ℕ). take n records) (sym good.2) ∙ file_records rule s good.0 records are good.1 few at))

pub good_few : (rule : ℕ → ℤ) (s : List ℕ) → AreBytes s → (v : Result ℕ reader.Broken) (count : ℕ) → verdict_as v ≡ counted (reading rule s) → v ≡ Ok count → count ≤ 48
good_few rule s are v count e f =
    let good = good_is (reading rule s) count (sym e ∙ ap verdict_as f) in
    omega (arith, good.2, (read_right rule s good.0 are good.1).few)

-- ---- what is made of the file in a buffer: F of what its first bytes read as

pub leaves_read : (rule : ℕ → ℤ) (F : Answer ℕ (List Record) → Answer Numbered (List ℕ)) (n end : ℕ) (before after : List ℕ) (p : Result ℕ PlaceRefusal)
    (a : Answer ℕ (List Record)) → end ≡ min n (length before) → reading rule (take end before) ≡ a → Leaves (F a) before after p
    → Leaves (F (reading rule (take n before))) before after p
leaves_read rule F n end before after p a ends e l = rw (ap (reading rule) (sym (front before n end ends)) ∙ e) l
