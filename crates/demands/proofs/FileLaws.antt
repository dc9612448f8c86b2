-- What the contracts of the reader and the writer say of calls, and both round trips over what they hand back and leave. Assumes nothing.
use mathlib.Core.Path.{◌≡◌, refl, sym, ap, subst, ◌∙◌}
use mathlib.Core.Bool.{Bool, true, false, cond}
use mathlib.Core.List.{List, [], ◌∷◌, ◌++◌}
use Prim.Native.Nat.{ℕ, ◌≤◌, ◌<◌}
use native.Mathlib.Omega.{arith}
use lib.Dec.{ltb}
use lib.IntN.{ℤ}
use lib.ListN.{length, take, drop, get_or}
use lib.Seq.{take_all, take-append_seam}
use Rattle.number.specs.Refusal.{numbered, Answer, refused, given, answer}
use Rattle.number.proofs.Sizes.{impossible}
use Rattle.octets.specs.Bytes.{AreBytes}
use Rattle.octets.specs.Lent.{sized, left_by}
use Rattle.octets.proofs.ByteLaws.{bytes_drop}
use Rattle.octets.proofs.LentLaws.{given_lays}
use Rattle.watchfile.specs.Format.{DewRule, blank, figures_of, reading, writing}
use Rattle.watchfile.specs.declared.Record.{Record}
use Rattle.watchfile.proofs.DewRules.{the_rule}
use Rattle.watchfile.specs.declared.Figures.{Figures}
use Rattle.watchfile.proofs.SmallLaws.{Small, small_body}
use Rattle.reader.specs.Read.{verdict_as, counted, kind_at, offset_at, record_at}
use Rattle.std.specs.Prelude.{Result, Ok}
use Rattle.reader.specs.declared.Broken.{Broken}
use Rattle.reader.proofs.VerdictLaws.{verdict_by, good_is}
use Rattle.reader.proofs.RecordLaws.{at_row, good_record}
use Rattle.handed.specs.Words.{words_of, held, records_in}
use Rattle.handed.specs.Words as handed
use Rattle.handed.proofs.WordLaws.{length_records, records_at, same_entries, held_there}
use Rattle.writer.specs.Write.{WroteWords, offered, written_as}
use Rattle.writer.specs.declared.WriteRefusal.{WriteRefusal}
use Rattle.writer.proofs.RoundTrips.{few_written, read_then_written, written_then_read}
use Rattle.writer.proofs.ReadWrittenLaws.{read_right}
use Rattle.writer.proofs.SingleAnswers.{case_of, case_back}
use Rattle.listing.specs.Listing.{listing_of, listing, Lists}
use Rattle.listing.specs.declared.TooShort.{TooShort}
use Rattle.demands.specs.Working.{ReadsFile, ReadsRecord, HandedOn, WritesFile, ListsFile}

-- ---- single calls

pub read_is : (s : List ℕ) (x : Result ℕ Broken) → ReadsFile s x → (rule : ℕ → ℤ) → DewRule rule → verdict_as x ≡ counted (reading rule s)
read_is s x w rule ruled =
    let which = w.5 in
    ap verdict_as (sym which.1) ∙ w.4 rule ruled ∙ ap (λ (b : List ℕ). counted (reading rule b)) which.0

record_is : (s : List ℕ) (i : ℕ) (f : Figures) → ReadsRecord s i f → f ≡ record_at s i
record_is s i f w =
    let which = w.5 in
    sym which.2 ∙ w.4 ∙ ap (λ (b : List ℕ). record_at b w.1.1.0) which.0 ∙ ap (record_at s) which.1

pub write_is : (words before : List ℕ) (x : Result ℕ WriteRefusal) (after : List ℕ) → WritesFile words before x after
    → (rule : ℕ → ℤ) → DewRule rule → WroteWords rule words before after x
write_is words before x after w rule ruled =
    let which = w.5 in
    subst (λ (b : List ℕ). WroteWords rule words before b x) which.3
    (subst (λ (y : Result ℕ WriteRefusal). WroteWords rule words before w.3.0.now y) which.2
    (subst (λ (v : List ℕ). WroteWords rule v before w.3.0.now w.2) which.1
    (subst (λ (b : List ℕ). WroteWords rule w.1.1.0.now b w.3.0.now w.2) which.0 (w.4 rule ruled))))

pub list_is : (s before : List ℕ) (l : Result ℕ TooShort) (after : List ℕ) → ListsFile s before l after
    → (rule : ℕ → ℤ) → DewRule rule → Lists (listing_of (reading rule s)) before after l
list_is s before l after w rule ruled =
    let which = w.5 in
    subst (λ (b : List ℕ). Lists (listing_of (reading rule s)) before b l) which.3
    (subst (λ (y : Result ℕ TooShort). Lists (listing_of (reading rule s)) before w.3.1.0.now y) which.2
    (subst (λ (b : List ℕ). Lists (listing_of (reading rule s)) b w.3.1.0.now w.2) which.1
    (subst (λ (f : List ℕ). Lists (listing_of (reading rule f)) w.1.1.0.now w.3.1.0.now w.2) which.0 (w.4 rule ruled))))

-- ---- what they come to

pub done : (x : Result ℕ WriteRefusal) (n : ℕ) → written_as x ≡ given n → x ≡ Ok n
done x n e = sym (case_back x) ∙ ap case_of e ∙ case_back (Ok n)

-- a listing that has room is the text
given_text : (text : List ℕ) (room : ℕ) (file : List ℕ) → listing text room ≡ given file → file ≡ text
unfolding listing answer
given_text text room file e = go (ltb room (length text)) e
  where
    go : (b : Bool) → cond b (refused (numbered 17 (length text ∷ []))) (given text) ≡ given file → file ≡ text
    go true e = impossible (cc)
    go false e = cc

-- ---- "A good watch file read and written again has the same bytes"

-- words that hold a file's records as they were read hold its records
handed_on : (rule : ℕ → ℤ) (s : List ℕ) (rs : List Record) (words : List ℕ) → AreBytes s → reading rule s ≡ given rs → HandedOn s (length rs) words → records_in words ≡ rs
handed_on rule s rs words are good on =
    let many : held words ≡ length rs = rw on.long (omega arith) in
    let n : length (records_in words) ≡ length rs = length_records words ∙ many in
    same_entries (records_in words) rs n (λ k h. records_at words k h ∙ each k (omega (arith, h, n)) (omega (arith, h, n, many)))
  where
    each : (k : ℕ) → k < length rs → k < held words → handed.record_at words k ≡ get_or rs k blank
    each k h l =
        let at = on.each k h in
        let t = at_row rule s rs good k h in
        let small = subst (λ (x : Record). Small x.body) t.is (small_body (kind_at s k) (drop (offset_at s k) s) (bytes_drop s (offset_at s k) are)) in
        let same : at.0 ≡ figures_of (get_or rs k blank) = record_is s k at.0 at.1 ∙ good_record rule s rs good k h in
        held_there words k (get_or rs k blank) l small (at.2 ∙ ap words_of same)

pub file_again : (s : List ℕ) → AreBytes s → (count : ℕ) → ReadsFile s (Ok count) → (words : List ℕ) → HandedOn s count words
    → (before after : List ℕ) (y : Result ℕ WriteRefusal) → length s ≤ length before → WritesFile words before y after
    → (y ≡ Ok (length s)) × (take (length s) after ≡ s)
file_again s are count r words on before after y room w =
    let rule = the_rule.0 in
    let good = good_is (reading rule s) count (sym (read_is s (Ok count) r rule the_rule.1)) in
    let rs = good.0 in
    let held = handed_on rule s rs words are good.1 (subst (λ (n : ℕ). HandedOn s n words) (sym good.2) on) in
    let few = (read_right rule s rs are good.1).few in
    let first : take (length rs) (take 48 rs) ≡ rs = ap (take (length rs)) (take_all 48 rs few) ∙ take_all (length rs) rs (omega arith) in
    let out : writing rule (offered words) (length (records_in words)) (length before) ≡ given s =
    ap (λ (l : List Record). writing rule (take 48 l) (length l) (length before)) held ∙ read_then_written rule s rs are good.1 (take 48 rs) (length before) first room in
    let wrote = write_is words before y after w rule the_rule.1 in
    (done y (length s) (wrote.answer ∙ ap sized out), ap (take (length s)) (wrote.bytes ∙ ap (left_by before) out) ∙ take-append_seam s _)

-- ---- "and accepted records written and read again are the same"

module _ (words before after : List ℕ) (size : ℕ) (w : WritesFile words before (Ok size) after) where
  read_back : reading the_rule.0 (take size after) ≡ given (records_in words)
  read_back =
      let rule = the_rule.0 in
      let count = length (records_in words) in
      let wrote = write_is words before (Ok size) after w rule the_rule.1 in
      let l = given_lays (writing rule (offered words) count (length before)) before size (sym wrote.answer) in
      let file_is : take size after ≡ l.0 =
      ap (λ (n : ℕ). take n after) (sym l.2) ∙ ap (take (length l.0)) (wrote.bytes ∙ l.3) ∙ take-append_seam l.0 _ in
      let few = few_written rule (offered words) count (length before) l.0 l.1 in
      let all : take count (offered words) ≡ records_in words = ap (take count) (take_all 48 (records_in words) few) ∙ take_all count (records_in words) (omega arith) in
      ap (reading rule) file_is ∙ written_then_read rule (offered words) count (length before) l.0 l.1 the_rule.1 ∙ ap given all

  pub records_again : ((x : Result ℕ Broken) → ReadsFile (take size after) x → x ≡ Ok (length (records_in words)))
      × ((i : ℕ) (f : Figures) → ReadsRecord (take size after) i f → i < length (records_in words) → f ≡ figures_of (get_or (records_in words) i blank))
  records_again = (
    λ x r. verdict_by x (Ok (length (records_in words))) (read_is (take size after) x r the_rule.0 the_rule.1 ∙ ap counted read_back),
    λ i f r h. record_is (take size after) i f r ∙ good_record the_rule.0 (take size after) (records_in words) read_back i h,
  )

-- ---- listings

pub listed_as_lem : (rule : ℕ → ℤ) → DewRule rule → (s before after : List ℕ) (size : ℕ) → ListsFile s before (Ok size) after
    → (size ≡ length (listing_of (reading rule s))) × (after ≡ listing_of (reading rule s) ++ drop size before)
listed_as_lem rule ruled s before after size w =
    let text = listing_of (reading rule s) in
    let h = list_is s before (Ok size) after w rule ruled in
    let l = given_lays (listing text (length before)) before size (sym h.answer) in
    let is : l.0 ≡ text = given_text text (length before) l.0 l.1 in
    (sym l.2 ∙ ap length is, h.bytes ∙ l.3 ∙ ap (λ (f : List ℕ). f ++ drop size before) is)
