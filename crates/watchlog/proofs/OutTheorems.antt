-- What a record taken out means for a watch file: it stands there no more, every other record stays, and of a good file that has it the
-- taking out is never refused, since what is left is right and no longer. Assumes nothing.
use mathlib.Core.Path.{◌≡◌, sym, ap, ◌∙◌}
use mathlib.Core.Bool.{true}
use mathlib.Core.List.Memᴰ
use mathlib.Core.List.{List, [], ◌∷◌, ◌++◌, Memᴰ}
use mathlib.Core.Logic.{⊎_elim}
use Prim.Native.Nat.{ℕ, suc, ◌≤◌, ◌<◌}
use native.Mathlib.Omega.{arith}
use lib.IntN.{ℤ}
use lib.ListN.{length, take, length-append, length-take}
use lib.Seq.{take-length}
use borrow.Author.Tests.{le-ltb}
use Rattle.number.specs.Refusal.{given, answer}
use Rattle.octets.specs.Bytes.{AreBytes}
use Rattle.octets.specs.Lent.{short}
use Rattle.watchfile.specs.Rules.{kind_right, rank}
use Rattle.watchfile.specs.Format.{DewRule, rank_of, body_bytes, bodies_bytes, file_of, reading, past, writing}
use Rattle.watchfile.specs.declared.Record.{Record}
use Rattle.writer.proofs.SizeLaws.{length_file}
use Rattle.writer.proofs.RightLaws.{AllRight, right_goes_on}
use Rattle.writer.proofs.ReadWrittenLaws.{read_right}
use Rattle.writer.proofs.RoundTrips.{written_then_read}
use Rattle.watchlog.specs.Placing.{writing_all, stands, without, taking}
use Rattle.watchlog.proofs.OutLaws.{later, same, above, by}
use Rattle.watchlog.proofs.PlaceTheorems.{behind, right_above, rises}

-- ---- the records

module _ (n : ℕ) where
  -- EVERY RECORD OF ANOTHER MINUTE OR KIND STAYS,
  pub others_left : (x : Record) (qs : List Record) → (rank_of x ≡ n → ⊥) → Memᴰ x qs → Memᴰ x (without n qs)
  others_left x [] other m = absurd (Memᴰ.not-nil m)
  others_left x (q ∷ qs) other m =
      by n q qs (Memᴰ x (without n (q ∷ qs)))
      (λ h. rw (later n q qs h).1 (⊎_elim (λ e. Memᴰ.head e) (λ k. Memᴰ.tail (others_left x qs other k)) (Memᴰ.cases_cons m)))
      (λ h. rw (same n q qs h).1 (⊎_elim (λ e. absurd (other (ap rank_of e ∙ h))) (λ k. k) (Memᴰ.cases_cons m)))
      (λ h. rw (above n q qs h).1 m)

  -- NO OTHER COMES,
  pub none_comes : (x : Record) (qs : List Record) → Memᴰ x (without n qs) → Memᴰ x qs
  unfolding without
  none_comes x [] m = m
  none_comes x (q ∷ qs) m =
      by n q qs (Memᴰ x (q ∷ qs))
      (λ h. ⊎_elim (λ e. Memᴰ.head e) (λ k. Memᴰ.tail (none_comes x qs k)) (Memᴰ.cases_cons (rw (later n q qs h).1 at m)))
      (λ h. Memᴰ.tail (rw (same n q qs h).1 at m))
      (λ h. rw (above n q qs h).1 at m)

module _ (rule : ℕ → ℤ) (n : ℕ) where
  -- AND NONE OF THAT MINUTE AND KIND IS LEFT.
  pub gone : (b : ℕ) (x : Record) (qs : List Record) → AllRight rule b qs → Memᴰ x (without n qs) → rank_of x ≡ n → ⊥
  unfolding without
  gone b x [] h m e = Memᴰ.not-nil m
  gone b x (q ∷ qs) h m e =
      by n q qs ⊥
      (λ l. ⊎_elim (λ f. let g = ap rank_of f in omega arith) (λ k. gone (rank_of q) x qs h.1 k e) (Memᴰ.cases_cons (rw (later n q qs l).1 at m)))
      (λ l. let g = rises rule (rank_of q) x qs h.1 (rw (same n q qs l).1 at m) in omega arith)
      (λ l. ⊎_elim (λ f. let g = ap rank_of f in omega arith) (λ k. let g = rises rule (rank_of q) x qs h.1 k in omega arith)
      (Memᴰ.cases_cons (rw (above n q qs l).1 at m)))

  -- what is left is right
  lower : (b c : ℕ) (qs : List Record) → c < b → AllRight rule b qs → AllRight rule c qs
  lower b c [] l h = tt
  lower b c (q ∷ qs) l h = (behind rule b c q h.0 (omega (arith, right_above rule b q h.0)), h.1)

  right_without : (b : ℕ) (qs : List Record) → AllRight rule b qs → AllRight rule b (without n qs)
  unfolding without
  right_without b [] h = tt
  right_without b (q ∷ qs) h =
      by n q qs (AllRight rule b (without n (q ∷ qs)))
      (λ l. rw (later n q qs l).1 (h.0, right_without (rank_of q) qs h.1))
      (λ l. rw (same n q qs l).1 (lower (rank_of q) b qs (right_above rule b q h.0) h.1))
      (λ l. rw (above n q qs l).1 h)

-- and no longer
fewer : (n : ℕ) (qs : List Record) → length (without n qs) ≤ length qs
unfolding without
fewer n [] = omega arith
fewer n (q ∷ qs) =
    by n q qs (length (without n (q ∷ qs)) ≤ suc (length qs))
    (λ h. omega (arith, ap length (later n q qs h).1, fewer n qs))
    (λ h. omega (arith, ap length (same n q qs h).1))
    (λ h. omega (arith, ap length (above n q qs h).1))

shorter : (n : ℕ) (qs : List Record) → length (bodies_bytes (without n qs)) ≤ length (bodies_bytes qs)
unfolding without bodies_bytes
shorter n [] = omega arith
shorter n (q ∷ qs) =
    let one = length-append (body_bytes q.body) (bodies_bytes qs) in
    by n q qs (length (bodies_bytes (without n (q ∷ qs))) ≤ length (body_bytes q.body ++ bodies_bytes qs))
    (λ h. rw (later n q qs h).1 (omega (arith, one, length-append (body_bytes q.body) (bodies_bytes (without n qs)), shorter n qs)))
    (λ h. rw (same n q qs h).1 (omega (arith, one)))
    (λ h. rw (above n q qs h).1 (omega arith))

file_shorter : (n : ℕ) (qs : List Record) → length (file_of (without n qs)) ≤ length (file_of qs)
file_shorter n qs = omega (arith, length_file qs, length_file (without n qs), fewer n qs, shorter n qs)

-- ---- the file

module _ (rule : ℕ → ℤ) (minute kind k : ℕ) (before : List ℕ) (rs : List Record) (old : reading rule (take k before) ≡ given rs)
    (right : kind_right kind ≡ true) (there : stands (rank minute kind) rs ≡ true) where
  abbrev left : List Record
  left = without (rank minute kind) rs

  taking_is : taking rule minute kind k before ≡ writing_all rule (length before) left
  taking_is = rw (old, right, there)

  -- WHAT IS LEFT IS READ BACK.
  pub taken_then_read : DewRule rule → (file : List ℕ) → taking rule minute kind k before ≡ given file → reading rule file ≡ given left
  taken_then_read ruled file e =
      written_then_read rule left (length left) (length before) file (sym taking_is ∙ e) ruled ∙ ap given (take-length left)

  -- A RECORD THAT IS THERE IS ALWAYS TAKEN OUT.
  pub always_taken : AreBytes (take k before) → taking rule minute kind k before ≡ given (file_of left)
  unfolding writing answer
  always_taken are =
      let f = read_right rule (take k before) rs are old in
      let ok = right_without rule (rank minute kind) 0 rs f.right in
      let size : length (file_of rs) ≤ length before = omega (arith, ap length f.same, length-take k before) in
      taking_is
      ∙ (rw (take-length left)
      (right_goes_on rule (past (length left) ∷ short (length before) (length (file_of left)) ∷ []) (file_of left) 0 0 left ok
      ∙ (rw (
        le-ltb 48 (length left) (omega (arith, fewer (rank minute kind) rs, f.few)),
        le-ltb (length before) (length (file_of left)) (omega (arith, file_shorter (rank minute kind) rs)),
      ))))
