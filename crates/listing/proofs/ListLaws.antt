-- What was read, as text, and that text in a lent buffer. Assumes nothing.
use mathlib.Core.Path.{◌≡◌, sym, ap, ◌∙◌}
use mathlib.Core.List.{List, ◌++◌}
use Prim.Native.Nat.{ℕ, ◌≤◌, ◌<◌}
use native.Mathlib.Omega.{arith}
use Rattle.std.specs.Borrow.{MutBor}
use lib.IntN.{ℤ}
use lib.ListN.{length, take, drop}
use lib.Seq.{take_at}
use borrow.Author.Tests.{lt-ltb, le-ltb}
use Rattle.number.specs.Refusal.{Answer, refused, given, answer}
use Rattle.std.specs.Prelude.{Ok, Err}
use Rattle.text.specs.declared.Page.{Page}
use Rattle.text.specs.Text.{IsPage, Put, Puts}
use Rattle.text.proofs.PutLaws.{put_front}
use Rattle.watchfile.specs.Format.{reading, broken_at}
use Rattle.watchfile.specs.declared.Record.{Record}
use Rattle.reader.specs.Read.{counted}
use Rattle.reader.proofs.VerdictLaws.{broken_is, good_is}
use Rattle.listing.specs.Listing.{head_line, refused_line, listing_of, listing, Lists}
use Rattle.listing.specs.Lines.{lines_from}
use Rattle.listing.proofs.LineLaws.{good_lines}

-- ---- what was read

-- a good file: as many as were counted, and the lines of its records
pub good_text : (rule : ℕ → ℤ) (s : List ℕ) (n : ℕ) → counted (reading rule s) ≡ given n → head_line n ++ lines_from s 0 n ≡ listing_of (reading rule s)
unfolding listing_of
good_text rule s n v =
    let good = good_is (reading rule s) n v in
    let rs = good.0 in
    ap (λ (k : ℕ). head_line k ++ lines_from s 0 k) (sym good.2)
    ∙ ap (λ (x : List ℕ). head_line (length rs) ++ x) (good_lines rule s rs good.1)
    ∙ ap listing_of (sym good.1)

pub broken_text : (a : Answer ℕ (List Record)) (place : ℕ) → counted a ≡ refused (broken_at place) → refused_line place ≡ listing_of a
unfolding listing_of
broken_text a place v = rw (broken_is a place v)

-- ---- the text in a lent buffer: it was put whole into room of its own, from which its n bytes are put into the buffer

-- a text put on a new page stands at the start of the lent bytes
pub put_from : {page after : Page} {lent : MutBor (List ℕ)} {text : List ℕ} → IsPage page lent → Puts page after text → Put lent.now after.text.now 0 text after.at
put_from new p = rw (new.text, new.start) at p.put

module _ {room whole text before : List ℕ} {n : ℕ} (fits : length text ≤ length room) (p : Put room whole 0 text n) where
  pub lists_none : length before < n → Lists text before before (Err (record { 0 = n }))
  unfolding answer listing
  lists_none h =
      let size = (put_front p fits).1 in
      let small : length before < length text = omega arith in
      record { answer = rw (lt-ltb (length before) (length text) small, size); bytes = rw (lt-ltb (length before) (length text) small) }

  pub lists_all : {put : List ℕ} {k : ℕ} (left : List ℕ) → left ≡ put → n ≤ length before → Put before put 0 (take n whole) k → Lists text before left (Ok n)
  unfolding answer listing
  lists_all left same h q =
      let size = (put_front p fits).1 in
      let front : take n whole ≡ text = ap (take n) (put_front p fits).0 ∙ take_at text (drop (length text) room) n (sym size) in
      let enough : length text ≤ length before = omega arith in
      record { answer = rw (le-ltb (length before) (length text) enough, size); bytes = rw (le-ltb (length before) (length text) enough) (same ∙ (put_front (rw front at q) enough).0) }

-- or straight into the buffer, where that has room for it
pub lists_straight : {text before after : List ℕ} {k : ℕ} → length text ≤ length before → Put before after 0 text k → Lists text before after (Ok k)
unfolding answer listing
lists_straight {text} {before} enough q =
    let f = put_front q enough in
    record { answer = rw (le-ltb (length before) (length text) enough) (ap given f.1); bytes = rw (le-ltb (length before) (length text) enough) f.0 }
