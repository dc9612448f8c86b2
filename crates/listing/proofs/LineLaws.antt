-- Laws of the lines of records: by its figures a record has its own line, the lines of a good file are those of its records, and they
-- are put one by one. Assumes nothing.
use mathlib.Core.Path.{◌≡◌, refl, sym, ap, ◌∙◌, subst}
use mathlib.Core.List.{List, [], ◌∷◌, ◌++◌, append_assoc}
use Prim.Native.Nat.{ℕ, suc, ◌+◌, ◌-◌, ◌≤◌, ◌<◌}
use native.Mathlib.Omega.{arith}
use lib.IntN.{ℤ}
use lib.ListN.{length, get_or}
use Rattle.number.specs.Refusal.{given}
use Rattle.text.specs.declared.Page.{Page}
use Rattle.text.specs.Text.{Puts, decimal_of, field, field_of, end}
use Rattle.text.proofs.PutLaws.{then, put_nothing}
use Rattle.watchfile.specs.Format.{blank, figures_of, body_figures, reading}
use Rattle.watchfile.specs.declared.Body.{Body}
use Rattle.watchfile.specs.declared.Body.TheVariants.{Pressure, Tendency, Wind, Humidity}
use Rattle.watchfile.specs.declared.Record.{Record}
use Rattle.reader.specs.Read.{record_at}
use Rattle.reader.proofs.RecordLaws.{good_record}
use Rattle.listing.specs.Listing.{letter, body_text, record_line, record_lines}
use Rattle.listing.specs.Lines.{figures_text, figures_line, lines_from}

-- ---- a record by its figures

text_of : (m : ℕ) (b : Body) → figures_text (body_figures m b) ≡ body_text b
unfolding decimal_of
text_of m (Pressure p) = refl
text_of m (Tendency change absent) = refl
text_of m (Wind speed direction) = refl
text_of m (Humidity e saturation deficit relative dew) =
    append_assoc (field e) (field saturation) (field deficit ++ field relative ++ field_of dew.v)
    ∙ ap (λ (x : List ℕ). field e ++ (field saturation ++ x)) (append_assoc (field deficit) (field relative) (field_of dew.v))

line_by : (m : ℕ) (b : Body) → figures_line (body_figures m b) ≡ letter b ++ (field m ++ (figures_text (body_figures m b) ++ end))
unfolding figures_line
line_by m (Pressure p) = refl
line_by m (Tendency change absent) = refl
line_by m (Wind speed direction) = refl
line_by m (Humidity e saturation deficit relative dew) = refl

pub line_of : (r : Record) → figures_line (figures_of r) ≡ record_line r
line_of r = line_by r.minute r.body ∙ ap (λ (x : List ℕ). letter r.body ++ (field r.minute ++ (x ++ end))) (text_of r.minute r.body)

-- ---- the lines of a good file

lines_of : (s : List ℕ) (i : ℕ) (rs : List Record) → ((k : ℕ) → k < length rs → record_at s (i + k) ≡ figures_of (get_or rs k blank))
    → lines_from s i (length rs) ≡ record_lines rs
unfolding lines_from record_lines
lines_of s i [] at = refl
lines_of s i (r ∷ rs) at =
    let z : i + 0 ≡ i = omega arith in
    let first : record_at s i ≡ figures_of r = ap (record_at s) (sym z) ∙ at 0 (omega arith) in
    ap (λ (x : List ℕ). x ++ lines_from s (suc i) (length rs)) (ap figures_line first ∙ line_of r)
    ∙ ap (λ (x : List ℕ). record_line r ++ x) (lines_of s (suc i) rs (λ k h. let e : suc i + k ≡ i + suc k = omega arith in ap (record_at s) e ∙ at (suc k) (omega (arith, h))))

pub good_lines : (rule : ℕ → ℤ) (s : List ℕ) (rs : List Record) → reading rule s ≡ given rs → lines_from s 0 (length rs) ≡ record_lines rs
good_lines rule s rs good = lines_of s 0 rs (λ k h. let e : 0 + k ≡ k = omega arith in ap (record_at s) e ∙ good_record rule s rs good k h)

-- ---- put one by one

-- a line and those behind it are those from it on
pub put_line : {p q r : Page} (s : List ℕ) (count i : ℕ) → i < count
    → Puts p q (figures_line (record_at s i)) → Puts q r (lines_from s (i + 1) (count - (i + 1)))
    → Puts p r (lines_from s i (count - i))
unfolding lines_from
put_line {p} {q} {r} s count i h a b =
    let m = count - (i + 1) in
    let e : suc m ≡ count - i = omega arith in
    let next : i + 1 ≡ suc i = omega arith in
    subst (λ (n : ℕ). Puts p r (lines_from s i n)) e (then a (subst (λ (j : ℕ). Puts q r (lines_from s j m)) next b))

-- and none are left at the end
pub no_line : (p : Page) (s : List ℕ) (count i : ℕ) → count ≤ i → p.at ≤ length p.text.now → Puts p p (lines_from s i (count - i))
unfolding lines_from
no_line p s count i h l =
    let e : count - i ≡ 0 = omega arith in
    rw e (record { put = put_nothing p.text.now p.at l; lent = refl })
