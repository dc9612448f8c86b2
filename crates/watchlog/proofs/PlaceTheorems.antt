-- What a record put in its place means for a watch file: it stands there, every other record stays, what is written is read back, and
-- of a good file with a place left for it only too short a buffer refuses it. Assumes nothing.
use mathlib.Core.Path.{◌≡◌, refl, sym, ap, ◌∙◌, subst}
use mathlib.Core.Bool.{true, ◌&&◌, cond}
use mathlib.Core.List.Memᴰ
use mathlib.Core.List.{List, [], ◌∷◌, Memᴰ}
use mathlib.Core.Logic.{◌⊎◌, inl, inr, ⊎_elim}
use Prim.Native.Nat.{ℕ, suc, ◌*◌, ◌≤◌, ◌<◌}
use native.Mathlib.Omega.{arith}
use lib.Dec.{ltb, leb, eqb}
use lib.IntN.{ℤ}
use lib.ListN.{length, take, length-append}
use lib.Seq.{take-length}
use borrow.Author.Tests.{ltb-true, lt-ltb, le-ltb}
use Rattle.number.specs.Refusal.{Answer, refused, given, answer, Numbered, numbered}
use Rattle.number.proofs.Sizes.{and_true, both}
use Rattle.quantity.specs.Limits.{last_minute, three_hours}
use Rattle.octets.specs.Bytes.{AreBytes}
use Rattle.octets.specs.Lent.{short}
use Rattle.octets.proofs.LentLaws.{refused_leaves}
use Rattle.watchfile.specs.Rules.{minute_right, rank}
use Rattle.watchfile.specs.Format.{DewRule, kind_of, body_right, record_right, rank_of, body_bytes, bodies_bytes, file_of, reading, past, writing}
use Rattle.watchfile.specs.declared.Record.{Record}
use Rattle.watchfile.proofs.FieldLaws.{size_most}
use Rattle.writer.proofs.SizeLaws.{length_body, length_file}
use Rattle.writer.proofs.RightLaws.{AllRight, right_goes_on}
use Rattle.writer.proofs.ReadWrittenLaws.{read_right}
use Rattle.writer.proofs.RoundTrips.{written_then_read}
use Rattle.watchlog.specs.Placing.{inserted, placed_as, writing_all, placing, Leaves}
use Rattle.std.specs.Prelude.{Result}
use Rattle.watchlog.specs.declared.PlaceRefusal.{PlaceRefusal}
use Rattle.watchlog.proofs.InsertLaws.{insert_later, insert_same, insert_before, by_rank}

-- ---- the records

module _ (r : Record) where
  -- THE RECORD IS AMONG THEM,
  pub placed_there : (qs : List Record) → Memᴰ r (inserted r qs)
  unfolding inserted
  placed_there [] = Memᴰ.head refl
  placed_there (q ∷ qs) =
      by_rank r q (Memᴰ r (inserted r (q ∷ qs)))
      (λ h. rw (insert_later r q qs h) (Memᴰ.tail (placed_there qs)))
      (λ h. rw (insert_same r q qs h) (Memᴰ.head refl))
      (λ h. rw (insert_before r q qs h) (Memᴰ.head refl))

  -- EVERY RECORD OF ANOTHER MINUTE OR KIND STAYS,
  pub others_stay : (x : Record) (qs : List Record) → (rank_of x ≡ rank_of r → ⊥) → Memᴰ x qs → Memᴰ x (inserted r qs)
  others_stay x [] other m = absurd (Memᴰ.not-nil m)
  others_stay x (q ∷ qs) other m =
      by_rank r q (Memᴰ x (inserted r (q ∷ qs)))
      (λ h. rw (insert_later r q qs h) (⊎_elim (λ e. Memᴰ.head e) (λ n. Memᴰ.tail (others_stay x qs other n)) (Memᴰ.cases_cons m)))
      (λ h. rw (insert_same r q qs h) (⊎_elim (λ e. absurd (other (ap rank_of e ∙ h))) (λ n. Memᴰ.tail n) (Memᴰ.cases_cons m)))
      (λ h. rw (insert_before r q qs h) (Memᴰ.tail m))

  -- AND THERE ARE NO OTHERS.
  pub no_others : (x : Record) (qs : List Record) → Memᴰ x (inserted r qs) → (x ≡ r) ⊎ Memᴰ x qs
  unfolding inserted
  no_others x [] m = Memᴰ.cases_cons m
  no_others x (q ∷ qs) m =
      by_rank r q ((x ≡ r) ⊎ Memᴰ x (q ∷ qs))
      (λ h. ⊎_elim (λ e. inr (Memᴰ.head e)) (λ n. ⊎_elim (λ e. inl e) (λ k. inr (Memᴰ.tail k)) (no_others x qs n)) (Memᴰ.cases_cons (rw (insert_later r q qs h) at m)))
      (λ h. ⊎_elim (λ e. inl e) (λ n. inr (Memᴰ.tail n)) (Memᴰ.cases_cons (rw (insert_same r q qs h) at m)))
      (λ h. Memᴰ.cases_cons (rw (insert_before r q qs h) at m))

-- ---- right records stay right

module _ (rule : ℕ → ℤ) where
  -- a record that may stand somewhere may stand behind every smaller rank
  pub behind : (b c : ℕ) (r : Record) → record_right rule b r ≡ true → c < rank_of r → record_right rule c r ≡ true
  unfolding minute_right
  behind b c r h l =
      let k = kind_of r.body in
      let t = r.minute in
      let p = and_true (minute_right b k t) (body_right rule r.body) h in
      let q = and_true (leb t last_minute && ltb b (rank t k)) (cond (eqb k 2) (leb three_hours t) true) p.0 in
      let s = and_true (leb t last_minute) (ltb b (rank t k)) q.0 in
      both (both (both s.0 (lt-ltb c (rank t k) l)) q.1) p.1

  pub right_above : (b : ℕ) (r : Record) → record_right rule b r ≡ true → b < rank_of r
  unfolding minute_right
  right_above b r h =
      let k = kind_of r.body in
      let t = r.minute in
      let p = and_true (minute_right b k t) (body_right rule r.body) h in
      let q = and_true (leb t last_minute && ltb b (rank t k)) (cond (eqb k 2) (leb three_hours t) true) p.0 in
      ltb-true b (rank t k) (and_true (leb t last_minute) (ltb b (rank t k)) q.0).1

  pub right_inserted : (b : ℕ) (r : Record) (qs : List Record) → record_right rule b r ≡ true → AllRight rule b qs → AllRight rule b (inserted r qs)
  unfolding inserted
  right_inserted b r [] ok h = (ok, tt)
  right_inserted b r (q ∷ qs) ok h =
      by_rank r q (AllRight rule b (inserted r (q ∷ qs)))
      (λ l. rw (insert_later r q qs l) (h.0, right_inserted (rank_of q) r qs (behind b (rank_of q) r ok l) h.1))
      (λ e. rw (insert_same r q qs e) (ok, subst (λ (k : ℕ). AllRight rule k qs) e h.1))
      (λ l. rw (insert_before r q qs l) (ok, (behind b (rank_of r) q h.0 l, h.1)))

  -- of one minute and kind there is a single record then
  pub rises : (b : ℕ) (x : Record) (qs : List Record) → AllRight rule b qs → Memᴰ x qs → b < rank_of x
  rises b x [] h m = absurd (Memᴰ.not-nil m)
  rises b x (q ∷ qs) h m =
      ⊎_elim (λ e. subst (λ (y : Record). b < rank_of y) (sym e) (right_above b q h.0))
      (λ n. omega (arith, right_above b q h.0, rises (rank_of q) x qs h.1 n)) (Memᴰ.cases_cons m)

  -- ONE OF THE SAME MINUTE AND KIND IS REPLACED: there are no more records than before;
  pub replaced : (b : ℕ) (r x : Record) (qs : List Record) → AllRight rule b qs → Memᴰ x qs → rank_of x ≡ rank_of r → length (inserted r qs) ≡ length qs
  replaced b r x [] h m e = absurd (Memᴰ.not-nil m)
  replaced b r x (q ∷ qs) h m e =
      by_rank r q (length (inserted r (q ∷ qs)) ≡ suc (length qs))
      (λ l. ap length (insert_later r q qs l) ∙ ⊎_elim (λ f. absurd (let g = ap rank_of f in omega arith)) (λ n. ap suc (replaced (rank_of q) r x qs h.1 n e)) (Memᴰ.cases_cons m))
      (λ l. ap length (insert_same r q qs l))
      (λ l. absurd (⊎_elim (λ f. let g = ap rank_of f in omega arith) (λ n. let g = rises (rank_of q) x qs h.1 n in omega arith) (Memᴰ.cases_cons m)))

  -- of its minute and kind there is no other,
  pub only_one : (b : ℕ) (r x : Record) (qs : List Record) → AllRight rule b qs → Memᴰ x (inserted r qs) → rank_of x ≡ rank_of r → x ≡ r
  unfolding inserted
  only_one b r x [] h m e = ⊎_elim (λ f. f) (λ n. absurd (Memᴰ.not-nil n)) (Memᴰ.cases_cons m)
  only_one b r x (q ∷ qs) h m e =
      by_rank r q (x ≡ r)
      (λ l. ⊎_elim (λ f. absurd (let g = ap rank_of f in omega arith)) (λ n. only_one (rank_of q) r x qs h.1 n e) (Memᴰ.cases_cons (rw (insert_later r q qs l) at m)))
      (λ l. ⊎_elim (λ f. f) (λ n. absurd (let g = rises (rank_of q) x qs h.1 n in omega arith)) (Memᴰ.cases_cons (rw (insert_same r q qs l) at m)))
      (λ l. ⊎_elim (λ f. f)
      (λ k. ⊎_elim (λ f. absurd (let g = ap rank_of f in omega arith)) (λ n. absurd (let g = rises (rank_of q) x qs h.1 n in omega arith)) (Memᴰ.cases_cons k))
      (Memᴰ.cases_cons (rw (insert_before r q qs l) at m)))

-- and at most one more in any case.
pub one_more : (r : Record) (qs : List Record) → length (inserted r qs) ≤ suc (length qs)
unfolding inserted
one_more r [] = omega arith
one_more r (q ∷ qs) =
    by_rank r q (length (inserted r (q ∷ qs)) ≤ suc (suc (length qs)))
    (λ h. omega (arith, ap length (insert_later r q qs h), one_more r qs))
    (λ h. omega (arith, ap length (insert_same r q qs h)))
    (λ h. omega (arith, ap length (insert_before r q qs h)))

-- ---- the file

bodies_most : (rs : List Record) → length (bodies_bytes rs) ≤ 9 * length rs
unfolding bodies_bytes
bodies_most [] = omega arith
bodies_most (r ∷ rs) =
    omega (arith, length-append (body_bytes r.body) (bodies_bytes rs), length_body r.body, size_most (kind_of r.body), bodies_most rs)

-- the longest file
pub file_most : (rs : List Record) → length rs ≤ 48 → length (file_of rs) ≤ 820
file_most rs h = omega (arith, length_file rs, bodies_most rs)

module _ (rule : ℕ → ℤ) (r : Record) (n : ℕ) (before : List ℕ) (rs : List Record) (old : reading rule (take n before) ≡ given rs) where
  placing_is : placing rule r n before ≡ writing_all rule (length before) (inserted r rs)
  placing_is = rw old

  -- WHAT IS PLACED IS READ BACK: the records of the new file.
  pub placed_then_read : DewRule rule → (file : List ℕ) → placing rule r n before ≡ given file → reading rule file ≡ given (inserted r rs)
  placed_then_read ruled file e =
      written_then_read rule (inserted r rs) (length (inserted r rs)) (length before) file (sym placing_is ∙ e) ruled ∙ ap given (take-length (inserted r rs))

  -- there is a place for it among the 48 where the file has fewer, or one of the same minute and kind
  pub place_left : length rs < 48 → length (inserted r rs) ≤ 48
  place_left h = omega (arith, one_more r rs)

  module _ (are : AreBytes (take n before)) where
    pub place_taken : (x : Record) → Memᴰ x rs → rank_of x ≡ rank_of r → length (inserted r rs) ≤ 48
    place_taken x m e =
        let f = read_right rule (take n before) rs are old in
        omega (arith, replaced rule 0 r x rs f.right m e, f.few)

    module _ (ok : record_right rule 0 r ≡ true) (few : length (inserted r rs) ≤ 48) where
      last_test : placing rule r n before ≡ answer (short (length before) (length (file_of (inserted r rs))) ∷ []) (file_of (inserted r rs))
      unfolding writing answer
      last_test =
          let all = inserted r rs in
          let right = right_inserted rule 0 r rs ok (read_right rule (take n before) rs are old).right in
          placing_is
          ∙ (rw (take-length all)
          (right_goes_on rule (past (length all) ∷ short (length before) (length (file_of all)) ∷ []) (file_of all) 0 0 all right
          ∙ (rw (le-ltb 48 (length all) few))))

      -- A RECORD THAT IS RIGHT BY ITSELF IS REFUSED ONLY 17,
      pub refused_where_short : length before < length (file_of (inserted r rs)) → placing rule r n before ≡ refused (numbered 17 (length (file_of (inserted r rs)) ∷ []))
      unfolding answer
      refused_where_short h = last_test ∙ (rw (lt-ltb (length before) (length (file_of (inserted r rs))) h))

      -- AND PLACED WHERE THE BUFFER HAS ROOM FOR THE NEW FILE,
      pub placed_where_room : length (file_of (inserted r rs)) ≤ length before → placing rule r n before ≡ given (file_of (inserted r rs))
      unfolding answer
      placed_where_room h = last_test ∙ (rw (le-ltb (length before) (length (file_of (inserted r rs))) h))

      -- AS ONE OF 820 BYTES ALWAYS HAS.
      pub always_placed : 820 ≤ length before → placing rule r n before ≡ given (file_of (inserted r rs))
      always_placed h = placed_where_room (omega (arith, file_most (inserted r rs) few))

-- REFUSED, NO BYTE CHANGES.
pub refused_leaves_every_byte : (file : Answer Numbered (List ℕ)) (before after : List ℕ) (p : Result ℕ PlaceRefusal) (x : Numbered)
    → Leaves file before after p → placed_as p ≡ refused x → after ≡ before
refused_leaves_every_byte file before after p x l e = l.bytes ∙ refused_leaves file before x (sym l.answer ∙ e)
