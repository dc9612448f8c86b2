-- Each public contract of this crate allows a single answer: a new page is one, and each text that is put leaves one page, its place and
-- its bytes. Assumes nothing.
use mathlib.Core.Path.{◌≡◌, sym, ap₂, ◌∙◌}
use mathlib.Core.List.{List, ◌∷◌}
use Prim.Native.Nat.{ℕ}
use Rattle.number.specs.Single.{Single, SingleLeft}
use Rattle.std.specs.Borrow.{MutBor}
use Rattle.text.specs.declared.Page.{Page}
use Rattle.text.specs.Text.{Puts}
use Rattle.text.proofs.Page.new.Reads as page
use Rattle.text.proofs.Page.byte.Reads as byte
use Rattle.text.proofs.Page.bytes.Reads as bytes
use Rattle.text.proofs.Page.natural.Reads as natural
use Rattle.text.proofs.Page.number.Reads as number
use Rattle.text.proofs.Page.field.Reads as field
use Rattle.text.proofs.Page.signed.Reads as signed

-- a page as words: the place, and the bytes
abbrev pub words_of : Page → List ℕ
words_of p = p.at ∷ p.text.now

pub left : {old p q : Page} {xs : List ℕ} → Puts old p xs → Puts old q xs → words_of p ≡ words_of q
left a b = ap₂ ◌∷◌ (a.put.next ∙ sym b.put.next) (a.put.laid ∙ sym b.put.laid)

page_of : MutBor (List ℕ) → ℕ → Page
page_of text at = record { text = text; at = at }

pub single_new : Single page.Post
unfolding page_of
single_new κs a r r' s s' p q = ap₂ page_of (p.text ∙ sym q.text) (p.start ∙ sym q.start)

pub single_byte_page : SingleLeft byte.Post (λ κs s. words_of s.0.now)
single_byte_page κs a r r' s s' p q = left p q

pub single_bytes_page : SingleLeft bytes.Post (λ κs s. words_of s.0.now)
single_bytes_page κs a r r' s s' p q = left p q

pub single_natural_page : SingleLeft natural.Post (λ κs s. words_of s.0.now)
single_natural_page κs a r r' s s' p q = left p q

pub single_number_page : SingleLeft number.Post (λ κs s. words_of s.0.now)
single_number_page κs a r r' s s' p q = left p q

pub single_field_page : SingleLeft field.Post (λ κs s. words_of s.0.now)
single_field_page κs a r r' s s' p q = left p q

pub single_signed_page : SingleLeft signed.Post (λ κs s. words_of s.0.now)
single_signed_page κs a r r' s s' p q = left p q
