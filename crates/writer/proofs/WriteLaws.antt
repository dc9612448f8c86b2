-- From the checked records and the bytes written to what a write answers and leaves. Assumes nothing.
use mathlib.Core.Path.{◌≡◌, sym, ap, ◌∙◌}
use mathlib.Core.List.{List, [], ◌∷◌, ◌++◌, append_assoc}
use Prim.Native.Nat.{ℕ, ◌+◌, ◌*◌, ◌≤◌, ◌<◌, min}
use native.Mathlib.Omega.{arith}
use lib.IntN.{ℤ}
use lib.ListN.{length, take, drop, get_or, length-take}
use lib.Seq.{sets, sets-eq, length-take-le, get_or-take}
use borrow.Author.Tests.{lt-ltb, le-ltb}
use Rattle.number.specs.Refusal.{Test, refused, given, answer, Numbered, numbered}
use Rattle.number.proofs.RefusalLaws.{refused_stays, given_goes_on}
use Rattle.octets.specs.Lent.{short}
use Rattle.watchfile.specs.Format.{DewRule, blank, record_tests, past, rows_bytes, bodies_bytes, file_of, start_of, writing}
use Rattle.watchfile.specs.declared.Record.{Record}
use Rattle.handed.specs.Words.{record_at, records_in}
use Rattle.handed.proofs.WordLaws.{records_at}
use Rattle.writer.specs.Write.{Wrote, offered, Checks, written_as, write_refusal, rules_tests}
use Rattle.std.specs.Prelude.{Result, Ok, Err}
use Rattle.writer.specs.declared.WriteRefusal.{WriteRefusal}
use Rattle.writer.specs.declared.WriteRefusal.TheVariants.{TooShort}
use Rattle.writer.proofs.PartLaws.{sets_append}
use Rattle.writer.proofs.SizeLaws.{length_rows, length_file}

pub past_stops : {A : Type 0} (count : ℕ) (a : A) → 48 < count → answer (past count ∷ []) a ≡ refused (numbered 16 (48 ∷ []))
unfolding answer
past_stops count a h = rw (lt-ltb 48 count h)

pub past_goes_on : {A : Type 0} (count : ℕ) (a : A) → count ≤ 48 → answer (past count ∷ []) a ≡ given a
unfolding answer
past_goes_on count a h = rw (le-ltb 48 count h)

module _ (rule : ℕ → ℤ) (all : List Record) (count room : ℕ) where
  writing_is : writing rule all count room ≡ answer (rules_tests rule all count ++ (short room (length (file_of (take count all))) ∷ [])) (file_of (take count all))
  unfolding writing
  writing_is = ap (λ (ts : List (Test Numbered)). answer ts (file_of (take count all))) (sym (append_assoc (record_tests rule 0 0 (take count all)) (past count ∷ []) (short room (length (file_of (take count all))) ∷ [])))

  pub writing_breaks : (r : Numbered) → refused r ≡ answer (rules_tests rule all count) (length (file_of (take count all))) → writing rule all count room ≡ refused r
  writing_breaks r e = writing_is ∙ refused_stays (rules_tests rule all count) _ (length (file_of (take count all))) (file_of (take count all)) r (sym e)

  last_test : (n : ℕ) → given n ≡ answer (rules_tests rule all count) (length (file_of (take count all))) → writing rule all count room ≡ answer (short room (length (file_of (take count all))) ∷ []) (file_of (take count all))
  last_test n e = writing_is ∙ given_goes_on (rules_tests rule all count) _ (length (file_of (take count all))) n (file_of (take count all)) (sym e)

  pub writing_short : (n : ℕ) → n ≡ length (file_of (take count all)) → room < n → given n ≡ answer (rules_tests rule all count) (length (file_of (take count all))) → writing rule all count room ≡ refused (numbered 17 (n ∷ []))
  unfolding answer
  writing_short n l h e = last_test n e ∙ (rw (sym l, lt-ltb room n h))

  pub writing_done : (n : ℕ) → n ≡ length (file_of (take count all)) → n ≤ room → given n ≡ answer (rules_tests rule all count) (length (file_of (take count all))) → writing rule all count room ≡ given (file_of (take count all))
  unfolding answer
  writing_done n l h e = last_test n e ∙ (rw (sym l, le-ltb room n h))

-- the head, the rows and the bodies, written one after the other, are the file
pub file_written : (all : List Record) (count : ℕ) (b b1 b2 : List ℕ) → length all ≡ min count 48 → count ≤ 48 → length (file_of (take count all)) ≤ length b
    → b1 ≡ sets b 0 (0x57 ∷ 0x54 ∷ 1 ∷ count ∷ [])
    → b2 ≡ sets (sets b1 4 (rows_bytes (take count all) (start_of count))) (start_of count) (bodies_bytes (take count all))
    → b2 ≡ file_of (take count all) ++ drop (length (file_of (take count all))) b
file_written all count b b1 b2 n m h e1 e2 =
    let rs : List Record = take count all in
    let l : length rs ≡ count = length-take-le count all (omega arith) in
    let rows : List ℕ = rows_bytes rs (start_of count) in
    let bodies : List ℕ = bodies_bytes rs in
    let head : List ℕ = 0x57 ∷ 0x54 ∷ 1 ∷ count ∷ [] in
    let lr : length rows ≡ 8 * count = length_rows rs (start_of count) ∙ ap (λ (k : ℕ). 8 * k) l in
    let w : head ++ (rows ++ bodies) ≡ file_of rs = ap (λ (k : ℕ). 0x57 ∷ 0x54 ∷ 1 ∷ k ∷ (rows_bytes rs (start_of k) ++ bodies)) (sym l) in
    let z : 0 + length (file_of rs) ≡ length (file_of rs) = omega arith in
    e2
    ∙ ap (λ (y : List ℕ). sets (sets y 4 rows) (4 + 8 * count) bodies) e1
    ∙ ap (λ (k : ℕ). sets (sets (sets b 0 head) 4 rows) (4 + k) bodies) (sym lr)
    ∙ sym (sets_append rows bodies (sets b 0 head) 4)
    ∙ sym (sets_append head (rows ++ bodies) b 0)
    ∙ ap (sets b 0) w
    ∙ sets-eq (file_of rs) b 0 (omega arith)
    ∙ ap (λ (k : ℕ). file_of rs ++ drop k b) z

-- ---- what `write` does by what `check` said

module _ (all : List Record) (count : ℕ) (q : Result ℕ WriteRefusal) (ok : Checks all count q) (b : List ℕ) where
  pub needed : (n : ℕ) → q ≡ Ok n → (count ≤ 48) × (n ≡ length (file_of (take count all)))
  needed n e = rw e at ok.room

  pub wrote_breaks : (r : WriteRefusal) → q ≡ Err r → (rule : ℕ → ℤ) → DewRule rule → Wrote rule all count b b (Err r)
  wrote_breaks r e rule dew =
      let w = writing_breaks rule all count (length b) (write_refusal r) (ap written_as (sym e) ∙ ok.answer rule dew) in
      record { answer = rw w; bytes = rw w }

  pub wrote_short : (n : ℕ) → q ≡ Ok n → length b < n → (rule : ℕ → ℤ) → DewRule rule → Wrote rule all count b b (Err (TooShort n))
  wrote_short n e h rule dew =
      let w = writing_short rule all count (length b) n (needed n e).1 h (ap written_as (sym e) ∙ ok.answer rule dew) in
      record { answer = rw w; bytes = rw w }

  pub wrote_done : (n : ℕ) → q ≡ Ok n → n ≤ length b → (b1 b2 : List ℕ) → length all ≡ min count 48 → b1 ≡ sets b 0 (0x57 ∷ 0x54 ∷ 1 ∷ count ∷ [])
      → b2 ≡ sets (sets b1 4 (rows_bytes (take count all) (start_of count))) (start_of count) (bodies_bytes (take count all))
      → (rule : ℕ → ℤ) → DewRule rule → Wrote rule all count b b2 (Ok n)
  wrote_done n e h b1 b2 l e1 e2 rule dew =
      let f = needed n e in
      let w = writing_done rule all count (length b) n f.1 h (ap written_as (sym e) ∙ ok.answer rule dew) in
      record { answer = rw w (ap given f.1); bytes = rw w (file_written all count b b1 b2 l f.0 (omega arith) e1 e2) }

  -- the room that each part asks for
  pub room_asked : (n : ℕ) → q ≡ Ok n → length all ≡ min count 48 → n ≡ start_of count + length (bodies_bytes (take count all))
  room_asked n e l = omega (arith, needed n e, length-take-le count all (omega (arith, needed n e)), length_file (take count all))

-- ---- the records that words hold

pub length_offered : (w : List ℕ) → length (offered w) ≡ min (length (records_in w)) 48
length_offered w = length-take 48 (records_in w) ∙ omega arith

pub offered_at : (w : List ℕ) (i : ℕ) → i < length (records_in w) → i < 48 → record_at w i ≡ get_or (offered w) i blank
offered_at w i h few = sym (get_or-take 48 (records_in w) i blank few ∙ records_at w i h)
