-- Each public contract of this crate allows a single answer: the place, the bytes or the number is given as a function of the
-- arguments; and a word that is the first from a place on stands where it stands. Assumes nothing.
use mathlib.Core.Path.{◌≡◌, refl, sym, ap, ap₂, ◌∙◌}
use mathlib.Core.List.{List, [], ◌∷◌}
use Prim.Native.Nat.{ℕ, ◌+◌}
use native.Mathlib.Omega.{arith}
use lib.ListN.{length}
use Rattle.std.specs.Prelude.{Option, Some, None}
use Rattle.number.specs.Single.{Single}
use Rattle.number.proofs.Sizes.{impossible}
use Rattle.line.specs.Words.{Word, part}
use Rattle.line.specs.Next.{words_told, NextWord}
use Rattle.line.specs.declared.Place.{Place}
use Rattle.line.proofs.WordLaws.{part_length}
use Rattle.line.proofs.next_word.Reads as next_word
use Rattle.line.proofs.word.Reads as word
use Rattle.line.proofs.field_end.Reads as field_end
use Rattle.line.proofs.same.Reads as same
use Rattle.line.proofs.whole.Reads as whole
use Rattle.line.proofs.signed.Reads as signed

-- where the first of some words stands
start_of : List Word → ℕ
start_of [] = 0
start_of (w ∷ ws) = w.from

stop_of : List Word → ℕ
stop_of [] = 0
stop_of (w ∷ ws) = w.from + length w.bytes

one_next : (line : List ℕ) (at : ℕ) (r r' : Option Place) → NextWord line at r → NextWord line at r' → r ≡ r'
unfolding start_of stop_of
one_next line at None None p q = refl
one_next line at None (Some w) p q = let e = sym p.words ∙ q.words in impossible (cc)
one_next line at (Some w) None p q = let e = sym q.words ∙ p.words in impossible (cc)
one_next line at (Some w) (Some w') p q =
    let e : words_told line (Some w) ≡ words_told line (Some w') = sym p.words ∙ q.words in
    let starts : w.from ≡ w'.from = ap start_of e in
    let stops : w.from + length (part line w.from w.to) ≡ w'.from + length (part line w'.from w'.to) = ap stop_of e in
    let here = p.within in
    let there = q.within in
    let ends : w.to ≡ w'.to = omega (arith, part_length line w.from w.to (omega arith) here.2, part_length line w'.from w'.to (omega arith) there.2) in
    ap₂ (λ (from to : ℕ). Some (record { from = from; to = to })) starts ends

pub single_next_word : Single next_word.Post
single_next_word κs a r r' s s' p q = one_next _ _ r r' p q

-- of a part that is handed back, the bytes
abbrev pub SingleWord : Type 0
SingleWord = (κs : _) (a : _) (r r' : _) (s s' : _) → word.Post κs a r s → word.Post κs a r' s' → r.now ≡ r'.now

pub single_word : SingleWord
single_word κs a r r' s s' p q = p ∙ sym q

pub single_field_end : Single field_end.Post
single_field_end κs a r r' s s' p q = p ∙ sym q

pub single_same : Single same.Post
single_same κs a r r' s s' p q = p ∙ sym q

pub single_whole : Single whole.Post
single_whole κs a r r' s s' p q = p ∙ sym q

pub single_signed : Single signed.Post
single_signed κs a r r' s s' p q = p ∙ sym q
