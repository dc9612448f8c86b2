-- Laws of forms: what the next letter and the next field or word say decides what all from them on say, and the numbers of one word
-- behind those of another are the two of them joined. Assumes nothing.
use mathlib.Core.Path.{◌≡◌, refl, sym, ap, ◌∙◌}
use mathlib.Core.Bool.{Bool, true, false}
use mathlib.Core.List.{List, [], ◌∷◌}
use Prim.Native.Nat.{ℕ, suc, ◌+◌, ◌-◌, ◌≤◌, ◌<◌}
use native.Mathlib.Omega.{arith}
use native.Mathlib.Numerals.{add-one}
use lib.Dec.{eqb}
use lib.ListN.{length, get_or, take, drop, drop_of_length-le}
use lib.Seq.{drop-cons}
use borrow.Author.Tests.{lt-ltb, le-ltb}
use Rattle.text.specs.Text.{put, behind as place_behind, Put}
use Rattle.number.proofs.Sizes.{impossible}
use Rattle.text.proofs.PutLaws.{join, put_nothing}
use Rattle.line.specs.Words.{Word, before, words_from, words, colon, field, field_end, more, fields, same, part, word_at, words_at}
use Rattle.std.specs.Prelude.{Option, Some, None, Result, Ok, Err, is_some}
use Rattle.line.specs.declared.Place.{Place}
use Rattle.line.proofs.EndLaws.{before_end}
use Rattle.line.proofs.WordLaws.{WordIs, part_cons, part_length}
use Rattle.command.specs.Forms.{told, Told, ends, behind, letter_then, fields_told, picks, says, fits, list_told, left_told, word_told, may_end, fault_of, place_of, line_told}
use Rattle.command.specs.Commands.{table, by_table, remark, command_of, text_of, verb_at, rows_of}
use Rattle.command.specs.Laid.{placed, Lays, Parses}
use Rattle.command.specs.declared.Verb.{Verb}
use Rattle.command.specs.declared.Flaw.{Flaw}
use Rattle.command.specs.declared.Flaw.TheVariants.{NotSuch, Misshapen, LeftOver}
use Rattle.command.specs.declared.Deed.{Deed}
use Rattle.command.specs.declared.Fault.{Fault}
use Rattle.command.specs.declared.Fault.TheVariants as fault

-- ---- numbers that are laid

nothing_put : (b : List ℕ) (at : ℕ) → b ≡ put b at []
unfolding put
nothing_put b at = refl

pub lays_flaw : (b : List ℕ) (at : ℕ) (f : Flaw) → Lays b b at (ends (Err f)) (Err f)
lays_flaw b at f = record { numbers = nothing_put b at; outcome = refl }

pub lays_done : (b : List ℕ) (at : ℕ) → at ≤ length b → Lays b b at (ends (Ok tt)) (Ok at)
lays_done b at h = record { numbers = nothing_put b at; outcome = ap Ok (put_nothing b at h).next }

pub lays_behind : {b b₁ b₂ ns : List ℕ} {at k : ℕ} {t : Told (Result (Unit {0}) Flaw)} {r : Result ℕ Flaw} → Put b b₁ at ns k → Lays b₁ b₂ k t r → Lays b b₂ at (behind ns t) r
lays_behind {b} {b₁} {b₂} {ns} {at} {k} {t} p q =
    let rest : Put b₁ b₂ k t.numbers (place_behind b₁ k t.numbers) = record { laid = q.numbers; next = refl } in
    let all = join p rest in
    record { numbers = all.laid; outcome = q.outcome ∙ ap (λ (n : ℕ). placed n t.outcome) all.next }

-- one number, and no flaw
pub lays_one : {b b₁ ns : List ℕ} {at k : ℕ} → Put b b₁ at ns k → k ≤ length b₁ → Lays b b₁ at (behind ns (ends (Ok tt))) (Ok k)
lays_one {b₁ = b₁} {k = k} p h = lays_behind p (lays_done b₁ k h)

-- by its result a word has no flaw, or this one
placed_ok : {n k : ℕ} (o : Result (Unit {0}) Flaw) → Ok k ≡ placed n o → (k ≡ n) × (o ≡ Ok tt)
placed_ok (Ok u) e = (cc, refl)
placed_ok (Err f) e = impossible (cc)

placed_err : (n : ℕ) {f : Flaw} (o : Result (Unit {0}) Flaw) → Err f ≡ placed n o → o ≡ Err f
placed_err n (Ok u) e = impossible (cc)
placed_err n (Err g) e = cc

pub lays_ok : {b b₁ : List ℕ} {at k : ℕ} {t : Told (Result (Unit {0}) Flaw)} {r : Result ℕ Flaw} → Lays b b₁ at t r → r ≡ Ok k → Put b b₁ at t.numbers k × (t.outcome ≡ Ok tt)
lays_ok {t = t} p e =
    let z = placed_ok t.outcome (sym e ∙ p.outcome) in
    (record { laid = p.numbers; next = z.0 }, z.1)

pub lays_err : {b b₁ : List ℕ} {at : ℕ} {f : Flaw} {t : Told (Result (Unit {0}) Flaw)} {r : Result ℕ Flaw} → Lays b b₁ at t r → r ≡ Err f → t.outcome ≡ Err f
lays_err {t = t} p e = placed_err _ t.outcome (sym e ∙ p.outcome)

-- what a line leaves from a place on
pub record Leaves (before after : List ℕ) (at : ℕ) (t : Told (Result (Option Deed) Fault)) (r : Result (Option Deed) Fault) : Type 0 where
  pub numbers : after ≡ put before at t.numbers
  pub command : r ≡ t.outcome

pub leaves_ends : (b : List ℕ) (at : ℕ) (r : Result (Option Deed) Fault) → Leaves b b at (ends r) r
leaves_ends b at r = record { numbers = nothing_put b at; command = refl }

pub leaves_behind : {b b₁ b₂ ns : List ℕ} {at k : ℕ} {t : Told (Result (Option Deed) Fault)} {r : Result (Option Deed) Fault} → Put b b₁ at ns k → Leaves b₁ b₂ k t r → Leaves b b₂ at (behind ns t) r
leaves_behind {b} {b₁} {b₂} {ns} {at} {k} {t} p q =
    let rest : Put b₁ b₂ k t.numbers (place_behind b₁ k t.numbers) = record { laid = q.numbers; next = refl } in
    record { numbers = (join p rest).laid; command = q.command }

-- a line from its start
pub parses : {before after : List ℕ} {t : Told (Result (Option Deed) Fault)} {r : Result (Option Deed) Fault} → Leaves before after 0 t r → Parses before after t r
parses g = record { numbers = g.numbers; command = g.command }

pub parses_ends : (b : List ℕ) (r : Result (Option Deed) Fault) → Parses b b (ends r) r
parses_ends b r = parses (leaves_ends b 0 r)

-- ---- the name of a row

-- what was told of a part of the line, where that ends with the word
pub named : (line text : List ℕ) (from to end : ℕ) {told is : Bool} → told ≡ same (part line from end) text → end ≡ to → told ≡ is → same (part line from to) text ≡ is
named line text from to end t e i = ap (λ (k : ℕ). same (part line from k) text) (sym e) ∙ sym t ∙ i

-- ---- the fields of a word

module _ (form : List ℕ) (i : ℕ) (fs : List (List ℕ)) (h : i < length form) where
  pub point_told : eqb (get_or form i 0) 0x2E ≡ true → fields_told (drop i form) fs ≡ behind (0 ∷ []) (fields_told (drop (i + 1) form) fs)
  unfolding fields_told
  point_told e = rw (add-one i, drop-cons form i 0 h) (go (get_or form i 0) (drop (suc i) form) fs e)
    where
      go : (l : ℕ) (ls : List ℕ) (fs : List (List ℕ)) → eqb l 0x2E ≡ true → fields_told (l ∷ ls) fs ≡ behind (0 ∷ []) (fields_told ls fs)
      go l ls [] e = rw e
      go l ls (f ∷ fs) e = rw e

  pub missing_told : eqb (get_or form i 0) 0x2E ≡ false → fs ≡ [] → fields_told (drop i form) fs ≡ ends (Err Misshapen)
  unfolding fields_told
  missing_told e n = rw (drop-cons form i 0 h, n, e)

  pub field_told : {f : List ℕ} {gs : List (List ℕ)} → eqb (get_or form i 0) 0x2E ≡ false → fs ≡ f ∷ gs
      → fields_told (drop i form) fs ≡ letter_then (get_or form i 0) (told (get_or form i 0) f) (fields_told (drop (i + 1) form) gs)
  unfolding fields_told
  field_told e n = rw (add-one i, drop-cons form i 0 h, n, e)

pub all_told : (form : List ℕ) (i : ℕ) {fs : List (List ℕ)} → length form ≤ i → fs ≡ [] → fields_told (drop i form) fs ≡ ends (Ok tt)
unfolding fields_told
all_told form i h n = rw (drop_of_length-le form h, n)

pub more_told : (form : List ℕ) (i : ℕ) {f : List ℕ} {fs gs : List (List ℕ)} → length form ≤ i → fs ≡ f ∷ gs → fields_told (drop i form) fs ≡ ends (Err Misshapen)
unfolding fields_told
more_told form i h n = rw (drop_of_length-le form h, n)

pub such_told : (l : ℕ) (rest : Told (Result (Unit {0}) Flaw)) {n : ℕ} {s : Option ℕ} → s ≡ Some n → letter_then l s rest ≡ behind (n ∷ []) rest
such_told l rest e = rw e

pub not_such_lem : (l : ℕ) (rest : Told (Result (Unit {0}) Flaw)) {s : Option ℕ} → s ≡ None → letter_then l s rest ≡ ends (Err (NotSuch l))
not_such_lem l rest e = rw e

-- ---- a word of a list

pub fits_none : (form word : List ℕ) → length form ≡ 0 → fits form word ≡ true
unfolding fits
fits_none [] word h = refl
fits_none (l ∷ ls) word h = absurd (omega arith)

pub fits_any : (form word : List ℕ) → picks (get_or form 0 0) ≡ false → fits form word ≡ true
unfolding fits
fits_any form word e = rw e

pub fits_picked : (form word : List ℕ) {s : Option ℕ} → picks (get_or form 0 0) ≡ true → told (get_or form 0 0) (field word) ≡ s → fits form word ≡ says s
unfolding fits
fits_picked form word e t = rw (e, t)

pub first_field : (word : List ℕ) (to : ℕ) → to ≡ field_end word 0 → take to word ≡ field word
first_field word to e =
    let k : field_end word 0 - 0 ≡ to = omega (arith, e) in
    sym (before_end colon word 0 ∙ ap (λ (n : ℕ). take n word) k)

pub says_is : (s : Option ℕ) → is_some s ≡ says s
says_is (Some n) = refl
says_is None = refl

pub list_none : (word : List ℕ) {fs : List (List ℕ)} → fs ≡ [] → list_told fs word ≡ ends (Err Misshapen)
unfolding list_told
list_none word n = rw n

pub list_here : (word : List ℕ) {f : List ℕ} {fs gs : List (List ℕ)} → fs ≡ f ∷ gs → fits f word ≡ true → list_told fs word ≡ fields_told f (fields word)
unfolding list_told
list_here word n e = rw (n, e)

pub list_on : (word : List ℕ) {f : List ℕ} {fs gs : List (List ℕ)} → fs ≡ f ∷ gs → fits f word ≡ false → list_told fs word ≡ list_told gs word
unfolding list_told
list_on word n e = rw (n, e)

-- ---- a word of a line

pub fixed_told : (form : List ℕ) (number : ℕ) (word : List ℕ) → number < length (field form)
    → word_told form number word ≡ letter_then (get_or form number 0) (told (get_or form number 0) word) (ends (Ok tt))
unfolding word_told
fixed_told form number word h = rw (lt-ltb number (length (field form)) h)

pub left_told_lem : (form : List ℕ) (number : ℕ) (word : List ℕ) → length (field form) ≤ number → word_told form number word ≡ left_told (more form) word
unfolding word_told
left_told_lem form number word h = rw (le-ltb number (length (field form)) h)

pub left_over : (word : List ℕ) {fs : List (List ℕ)} → fs ≡ [] → left_told fs word ≡ ends (Err LeftOver)
left_over word n = rw n

pub left_listed : (word : List ℕ) {f : List ℕ} {fs gs : List (List ℕ)} → fs ≡ f ∷ gs → left_told fs word ≡ list_told fs word
left_listed word n = rw n

-- ---- the words of a line

-- a word stands from its first byte to the place behind its last
pub place_at : (line : List ℕ) (p : Place) → p.from < p.to → p.to ≤ length line → place_of (word_at line p.from p.to) ≡ p
place_at line p h l =
    let e : p.from + length (part line p.from p.to) ≡ p.to = omega (arith, part_length line p.from p.to (omega arith) l) in
    ap (λ (to : ℕ). record { from = p.from; to = to }) e

pub may_end_past : (form : List ℕ) (number : ℕ) → length (field form) ≤ number → may_end form number ≡ true
unfolding may_end
may_end_past form number h = rw (le-ltb number (length (field form)) h)

pub may_end_letter : (form : List ℕ) (number : ℕ) → number < length (field form) → may_end form number ≡ eqb (get_or form number 0) 0x78
unfolding may_end
may_end_letter form number h = rw (lt-ltb number (length (field form)) h)

module _ (verb : Verb) (form : List ℕ) (number : ℕ) where
  pub line_done : {ws : List Word} → ws ≡ [] → may_end form number ≡ true → line_told verb form number ws ≡ ends (Ok (Some (record { verb = verb; words = number })))
  unfolding line_told
  line_done n e = rw (n, e)

  pub line_short : {ws : List Word} → ws ≡ [] → may_end form number ≡ false → line_told verb form number ws ≡ ends (Err fault.WordCount)
  unfolding line_told
  line_short n e = rw (n, e)

  module _ {line : List ℕ} {at : ℕ} {p : Place} (w : WordIs line at p) where
    pub word_then_lem : (word_told form number (part line p.from p.to)).outcome ≡ Ok tt
        → line_told verb form number (words_at line at) ≡ behind (word_told form number (part line p.from p.to)).numbers (line_told verb form (number + 1) (words_at line p.to))
    unfolding line_told
    word_then_lem e = rw (w.words, e, add-one number)

    pub word_fault : (f : Flaw) → (word_told form number (part line p.from p.to)).outcome ≡ Err f
        → line_told verb form number (words_at line at) ≡ record { numbers = (word_told form number (part line p.from p.to)).numbers; outcome = Err (fault_of f p) }
    unfolding line_told
    word_fault f e =
        rw (w.words, e) (ap (λ (q : Place). record { numbers = (word_told form number (part line p.from p.to)).numbers; outcome = Err (fault_of f q) }) (place_at line p w.some w.inside))

-- ---- the table

module _ (name : Word) (ws : List Word) (row : ℕ) {table : List ℕ} {at : ℕ} {p : Place} (first : WordIs table at p) where
  pub no_form : words_at table p.to ≡ [] → by_table (rows_of row (words_at table at)) name ws ≡ ends (Err (fault.NotACommand (place_of name)))
  unfolding rows_of by_table
  no_form n = rw (first.words, n)

  module _ {q : Place} (second : WordIs table p.to q) where
    pub row_here : same name.bytes (part table p.from p.to) ≡ true
        → by_table (rows_of row (words_at table at)) name ws ≡ line_told (verb_at row) (part table (q.from + 1) q.to) 0 ws
    unfolding rows_of by_table
    row_here e =
        let h : q.from < q.to = second.some in
        let l : q.from < length table = omega (arith, second.inside) in
        rw (first.words, second.words, e, part_cons table q.from q.to h l)

    pub row_on : same name.bytes (part table p.from p.to) ≡ false
        → by_table (rows_of row (words_at table at)) name ws ≡ by_table (rows_of (row + 1) (words_at table q.to)) name ws
    unfolding rows_of by_table
    row_on e = rw (first.words, second.words, e, add-one row)

pub no_row : (name : Word) (ws : List Word) (row : ℕ) {names : List Word} → names ≡ [] → by_table (rows_of row names) name ws ≡ ends (Err (fault.NotACommand (place_of name)))
unfolding rows_of by_table
no_row name ws row n = rw n

-- the text of the table says its rows
pub table_is : rows_of 0 (words (text_of table)) ≡ table
unfolding before words_from rows_of
table_is = refl

-- ---- a line by its first word

pub line_nothing : (line : List ℕ) → words_at line 0 ≡ [] → command_of line ≡ ends (Ok None)
unfolding command_of
line_nothing line n = rw n

module _ {line : List ℕ} {p : Place} (w : WordIs line 0 p) where
  remark_is : remark (part line p.from p.to) ≡ eqb (get_or line p.from 0) 0x23
  remark_is =
      let h = w.some in
      let l : p.from < length line = omega (arith, w.inside) in
      rw (part_cons line p.from p.to h l)

  pub line_remark : eqb (get_or line p.from 0) 0x23 ≡ true → command_of line ≡ ends (Ok None)
  unfolding command_of
  line_remark e = rw (w.words, remark_is ∙ e)

  pub line_command : eqb (get_or line p.from 0) 0x23 ≡ false → command_of line ≡ by_table table (word_at line p.from p.to) (words_at line p.to)
  unfolding command_of
  line_command e = rw (w.words, remark_is ∙ e)
