-- Laws of texts in a row: a text and those behind it are those from it on, and nothing is left at the end. Assumes nothing.
use mathlib.Core.Path.{refl}
use mathlib.Core.List.{List}
use Prim.Native.Nat.{ℕ, ◌+◌, ◌≤◌, ◌<◌}
use native.Mathlib.Omega.{arith}
use native.Mathlib.Numerals.{add-one}
use lib.ListN.{length, drop, get_or, drop_of_length-le}
use lib.Seq.{drop-cons}
use Rattle.text.specs.declared.Page.{Page}
use Rattle.text.specs.Text.{Put, Puts}
use Rattle.text.proofs.PutLaws.{join, put_nothing, put_inside, then}
use Rattle.hexadecimal.specs.Row.{row}

pub put_next : {b b₁ b₂ : List ℕ} {at k₁ k₂ : ℕ} (text : ℕ → List ℕ) (all : List ℕ) (i : ℕ) → i < length all
    → Put b b₁ at (text (get_or all i 0)) k₁ → Put b₁ b₂ k₁ (row text (drop (i + 1) all)) k₂ → Put b b₂ at (row text (drop i all)) k₂
unfolding row
put_next text all i h p q = rw (drop-cons all i 0 h) (join p (rw (add-one i) at q))

pub put_last : (b : List ℕ) (at : ℕ) (text : ℕ → List ℕ) (all : List ℕ) (i : ℕ) → length all ≤ i → at ≤ length b → Put b b at (row text (drop i all)) at
unfolding row
put_last b at text all i h l = rw (drop_of_length-le all h) (put_nothing b at l)

-- the same on a page
pub puts_next : {p q r : Page} (text : ℕ → List ℕ) (all : List ℕ) (i : ℕ) → i < length all
    → Puts p q (text (get_or all i 0)) → Puts q r (row text (drop (i + 1) all)) → Puts p r (row text (drop i all))
unfolding row
puts_next text all i h a b = rw (drop-cons all i 0 h) (then a (rw (add-one i) at b))

pub puts_last : (p : Page) (text : ℕ → List ℕ) (all : List ℕ) (i : ℕ) → length all ≤ i → p.at ≤ length p.text.now → Puts p p (row text (drop i all))
puts_last p text all i h l = record { put = put_last p.text.now p.at text all i h l; lent = refl }

pub puts_inside : {p q : Page} {xs : List ℕ} → Puts p q xs → q.at ≤ length q.text.now
puts_inside {p} {q} {xs} a = let z = put_inside a.put in omega arith
