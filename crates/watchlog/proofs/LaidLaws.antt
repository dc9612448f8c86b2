-- Records laid as words, one behind the other, are the records that words hold; and the records of a file are what its figures make.
-- Assumes nothing.
use mathlib.Core.Path.{◌≡◌, refl, sym, ap, ◌∙◌, subst}
use mathlib.Core.List.{List, [], ◌∷◌, ◌++◌}
use Prim.Native.Nat.{ℕ, zero, suc, ◌+◌, ◌-◌, ◌*◌, ◌≤◌, ◌<◌, min}
use native.Mathlib.Omega.{arith}
use native.Mathlib.Decide.{dec_lt}
use lib.IntN.{ℤ}
use lib.ListN.{length, get_or, set, take, drop, replicate, length-set, length-take, length-append, get_or-append}
use lib.Seq.{sets, sets-eq, length-sets, get_or-append-add, get_or-append_seam, get_or-set_same, get_or-set_other, get_or-take, get_or-drop, take_all, take-take, take-append-le}
use borrow.Author.Tests.{lt-ltb}
use Rattle.number.specs.Refusal.{given}
use Rattle.octets.specs.Bytes.{AreBytes}
use Rattle.octets.specs.Lent.{sized, left_by}
use Rattle.octets.proofs.ByteLaws.{bytes_drop}
use Rattle.watchfile.specs.Format.{blank, reading, writing}
use Rattle.watchfile.specs.declared.Record.{Record}
use Rattle.watchfile.proofs.SmallLaws.{Small, small_body}
use Rattle.reader.specs.Read.{kind_at, offset_at}
use Rattle.reader.specs.Read as read
use Rattle.reader.proofs.RecordLaws.{at_row, good_record}
use Rattle.handed.specs.Handed.{record_of}
use Rattle.handed.proofs.HandedLaws.{of_figures}
use Rattle.handed.specs.Words.{figures_in, held, record_at, records_in}
use Rattle.handed.proofs.WordLaws.{length_records, records_at, figures_by_lem, same_entries}
use Rattle.writer.specs.Write.{Wrote, offered}
use Rattle.std.specs.Prelude.{Result}
use Rattle.writer.specs.declared.WriteRefusal.{WriteRefusal}
use Rattle.watchlog.specs.Places.{Laid, ReadIn}

-- ---- words set at a place

module _ (l vs : List ℕ) (at : ℕ) (room : at + length vs ≤ length l) where
  front : length (take at l ++ vs) ≡ at + length vs
  front = length-append (take at l) vs ∙ ap (λ (n : ℕ). n + length vs) (length-take at l ∙ omega arith)

  pub before : (k : ℕ) → k < at → get_or (sets l at vs) k 0 ≡ get_or l k 0
  before k h =
      rw (sets-eq vs l at room)
      (get_or-append (take at l ++ vs) (drop (at + length vs) l) 0 k (omega (arith, front))
      ∙ get_or-append (take at l) vs 0 k (omega (arith, length-take at l))
      ∙ get_or-take at l k 0 h)

  pub inside : (k : ℕ) → k < length vs → get_or (sets l at vs) (at + k) 0 ≡ get_or vs k 0
  inside k h =
      let n : length (take at l) ≡ at = length-take at l ∙ omega arith in
      rw (sets-eq vs l at room)
      (get_or-append (take at l ++ vs) (drop (at + length vs) l) 0 (at + k) (omega (arith, front))
      ∙ ap (λ (j : ℕ). get_or (take at l ++ vs) (j + k) 0) (sym n)
      ∙ get_or-append-add (take at l) vs k 0)

  pub behind : (k : ℕ) → at + length vs ≤ k → get_or (sets l at vs) k 0 ≡ get_or l k 0
  behind k h =
      let m = k - (at + length vs) in
      let e : k ≡ length (take at l ++ vs) + m = omega (arith, front) in
      let f : at + length vs + m ≡ k = omega arith in
      rw (sets-eq vs l at room)
      (ap (λ (j : ℕ). get_or (take at l ++ vs ++ drop (at + length vs) l) j 0) e
      ∙ get_or-append-add (take at l ++ vs) (drop (at + length vs) l) m 0
      ∙ get_or-drop (at + length vs) l m 0
      ∙ ap (λ (j : ℕ). get_or l j 0) f)

-- ---- one more record laid

pub laid_on : (records : List Record) (i : ℕ) (w w' seven : List ℕ) (r : Record) → Laid records i w → i < 48 → length seven ≡ 7
    → w' ≡ sets w (7 * i) seven → record_of (figures_in seven) ≡ r → get_or records i blank ≡ r → Laid records (i + 1) w'
laid_on records i w w' seven r laid h n e is at =
    let room : 7 * i + length seven ≤ length w = omega (arith, laid.long, n) in
    rw e
    (record {
      long = length-sets w (7 * i) seven ∙ laid.long;
      each = λ j l. go room j (dec_lt j i) l;
      none = λ k l. behind w seven (7 * i) room k (omega (arith, n)) ∙ laid.none k (omega arith);
    })
  where
    go : 7 * i + length seven ≤ length w → (j : ℕ) → Dec (j < i) → j < i + 1 → record_of (figures_in (drop (7 * j) (sets w (7 * i) seven))) ≡ get_or records j blank
    go room j (yes l) _ =
        ap record_of (figures_by_lem (sets w (7 * i) seven) w (7 * j) (7 * j) (λ k m. before w seven (7 * i) room (7 * j + k) (omega arith)))
        ∙ laid.each j l
    go room j (no l) m =
        let same : j ≡ i = omega arith in
        let here = figures_by_lem (sets w (7 * i) seven) seven (7 * i) 0 (λ k q. inside w seven (7 * i) room k (omega (arith, n)) ∙ ap (λ (x : ℕ). get_or seven x 0) (omega arith)) in
        ap (λ (x : ℕ). record_of (figures_in (drop (7 * x) (sets w (7 * i) seven)))) same
        ∙ ap record_of here
        ∙ is
        ∙ sym at
        ∙ ap (λ (x : ℕ). get_or records x blank) (sym same)

-- ---- the records that the words hold

module _ (records : List Record) (w : List ℕ) (long : length records ≡ 48) (laid : Laid records 48 w) (n : ℕ) (few : n ≤ 49) where
  abbrev words : List ℕ
  words = take (7 * n) w

  many : held words ≡ n
  many = let e : length words ≡ 7 * n = length-take (7 * n) w ∙ omega (arith, laid.long) in rw e (omega arith)

  -- 48 records, and one behind them that is none
  abbrev all : List Record
  all = records ++ (blank ∷ [])

  at_each : (k : ℕ) → k < n → record_at words k ≡ get_or all k blank
  at_each k h = rw (many, lt-ltb k n h) (ap record_of (figures_by_lem words w (7 * k) (7 * k) (λ j l. get_or-take (7 * n) w (7 * k + j) 0 (omega arith))) ∙ go (dec_lt k 48))
    where
      go : Dec (k < 48) → record_of (figures_in (drop (7 * k) w)) ≡ get_or all k blank
      go (yes l) = laid.each k l ∙ sym (get_or-append records (blank ∷ []) blank k (omega (arith, long)))
      go (no l) =
          let e : k ≡ 48 = omega arith in
          let zeros = figures_by_lem w [] (7 * k) 0 (λ j l. laid.none (7 * k + j) (omega arith)) in
          ap record_of zeros
          ∙ sym (ap (λ (x : ℕ). get_or all x blank) (e ∙ sym long) ∙ get_or-append_seam records blank [] blank)

  pub held_records : records_in words ≡ take n all
  held_records =
      let size : length (records_in words) ≡ n = length_records words ∙ many in
      let room : length all ≡ 49 = length-append records (blank ∷ []) ∙ omega (arith, long) in
      same_entries (records_in words) (take n all) (size ∙ sym (length-take n all ∙ omega (arith, room)))
      (λ k h. let l : k < n = omega (arith, h, size) in records_at words k h ∙ at_each k l ∙ sym (get_or-take n all k blank l))

-- ---- what a write of the words comes to

-- what is written are the first `count`
pub same_front : (rule : ℕ → ℤ) (all X : List Record) (count room : ℕ) → take count all ≡ take count X → writing rule all count room ≡ writing rule X count room
unfolding writing
same_front rule all X count room e = rw e

module _ (rule : ℕ → ℤ) (records : List Record) (w : List ℕ) (long : length records ≡ 48) (laid : Laid records 48 w) (count n room : ℕ) (least : n ≡ min count 49) where
  -- of 49 and more only the count is told
  past_same : (c : ℕ) → 48 < c → writing rule records c room ≡ writing rule records 49 room
  unfolding writing
  past_same c h = rw (take_all c records (omega (arith, long)), take_all 49 records (omega (arith, long)), lt-ltb 48 c h)

  pub same_writing : writing rule (offered (take (7 * n) w)) (length (records_in (take (7 * n) w))) room ≡ writing rule records count room
  same_writing =
      let few : n ≤ 49 = omega arith in
      let held = held_records records w long laid n few in
      let room_all : length (records ++ (blank ∷ [])) ≡ 49 = length-append records (blank ∷ []) ∙ omega (arith, long) in
      let size : length (records_in (take (7 * n) w)) ≡ n = ap length held ∙ length-take n (records ++ (blank ∷ [])) ∙ omega (arith, room_all) in
      ap (λ (l : List Record). writing rule (take 48 l) (length (records_in (take (7 * n) w))) room) held
      ∙ ap (λ (k : ℕ). writing rule (take 48 (take n (records ++ (blank ∷ [])))) k room) size
      ∙ go (dec_lt 48 count)
    where
      front : (k : ℕ) → k ≤ 48 → take k (records ++ (blank ∷ [])) ≡ take k records
      front k h = take-append-le k records (blank ∷ []) (omega (arith, long))

      go : Dec (48 < count) → writing rule (take 48 (take n (records ++ (blank ∷ [])))) n room ≡ writing rule records count room
      go (yes l) =
          let e : n ≡ 49 = omega arith in
          let first : take 48 (take n (records ++ (blank ∷ []))) ≡ records = take-take 48 n (records ++ (blank ∷ [])) (omega arith) ∙ front 48 (omega arith) ∙ take_all 48 records (omega (arith, long)) in
          ap (λ (l : List Record). writing rule l n room) first ∙ ap (λ (k : ℕ). writing rule records k room) e ∙ sym (past_same count l)
      go (no l) =
          let e : n ≡ count = omega arith in
          same_front rule (take 48 (take n (records ++ (blank ∷ [])))) records n room
          (take-take n 48 (take n (records ++ (blank ∷ []))) (omega arith) ∙ take-take n n (records ++ (blank ∷ [])) (omega arith) ∙ front n (omega arith))
          ∙ ap (λ (k : ℕ). writing rule records k room) e

  pub wrote_first : (before after : List ℕ) (x : Result ℕ WriteRefusal) → length before ≡ room
      → Wrote rule (offered (take (7 * n) w)) (length (records_in (take (7 * n) w))) before after x → Wrote rule records count before after x
  wrote_first before after x e h =
      let same = ap (writing rule (offered (take (7 * n) w)) (length (records_in (take (7 * n) w)))) e ∙ same_writing ∙ ap (writing rule records count) (sym e) in
      record { answer = h.answer ∙ ap sized same; bytes = h.bytes ∙ ap (left_by before) same }

-- ---- the records of a good file, from its figures

pub file_records : (rule : ℕ → ℤ) (s : List ℕ) (rs r : List Record) → AreBytes s → reading rule s ≡ given rs → length rs ≤ 48 → ReadIn s 48 r → take (length rs) r ≡ rs
file_records rule s rs r are good few at =
    let n : length (take (length rs) r) ≡ length rs = length-take (length rs) r ∙ omega (arith, at.long) in
    same_entries (take (length rs) r) rs n (λ k h. each k (omega (arith, h, n)))
  where
    each : (k : ℕ) → k < length rs → get_or (take (length rs) r) k blank ≡ get_or rs k blank
    each k h =
        let t = at_row rule s rs good k h in
        let small = subst (λ (x : Record). Small x.body) t.is (small_body (kind_at s k) (drop (offset_at s k) s) (bytes_drop s (offset_at s k) are)) in
        get_or-take (length rs) r k blank h
        ∙ at.each k (omega arith)
        ∙ ap record_of (good_record rule s rs good k h)
        ∙ of_figures (get_or rs k blank) small

-- one more of them read
pub read_on : (s : List ℕ) (records : List Record) (i : ℕ) (r : Record) → ReadIn s i records → i < 48 → r ≡ record_of (read.record_at s i) → ReadIn s (i + 1) (set records i r)
read_on s records i r at h e =
    record { long = length-set records i r ∙ at.long; each = λ j l. go j (dec_lt j i) l }
  where
    go : (j : ℕ) → Dec (j < i) → j < i + 1 → get_or (set records i r) j blank ≡ record_of (read.record_at s j)
    go j (yes l) _ = get_or-set_other records i j r blank (λ z. omega arith) ∙ at.each j l
    go j (no l) m =
        let same : j ≡ i = omega arith in
        rw same (get_or-set_same records i r blank (omega (arith, at.long)) ∙ e)

-- words that are all zeros
pub zeros_there : (n k : ℕ) → let zero_word : ℕ = 0 in get_or (replicate n zero_word) k 0 ≡ 0
zeros_there zero k = refl
zeros_there (suc n) zero = refl
zeros_there (suc n) (suc k) = zeros_there n k
