-- A listing is refused 17 exactly when the lent buffer is shorter than this listing, with the bytes that it needs, and is given
-- exactly when it is not. Assumes nothing.
use mathlib.Core.Path.{◌≡◌, sym, ap, ◌∙◌}
use mathlib.Core.List.{List}
use mathlib.Core.Logic.{◌↔◌}
use Prim.Native.Nat.{ℕ}
use lib.ListN.{length}
use Rattle.number.specs.Refusal.{refused, given, Holds, Numbered, First}
use Rattle.number.proofs.RefusalLaws.{refused_exactly, given_exactly}
use Rattle.octets.specs.Lent.{sized}
use Rattle.octets.proofs.LentLaws.{sized_refused}
use Rattle.listing.specs.Listing.{list_tests, listing, listed_as, Lists}
use Rattle.std.specs.Prelude.{Result}
use Rattle.listing.specs.declared.TooShort.{TooShort}

module _ (text : List ℕ) (room : ℕ) where
  pub lists_in_order : (r : Numbered) → (listing text room ≡ refused r) ↔ First (list_tests text room) r
  unfolding listing
  lists_in_order r = refused_exactly text (list_tests text room) r

  pub listed_exactly : (listing text room ≡ given text) ↔ ((r : Numbered) → Holds (list_tests text room) r → ⊥)
  unfolding listing
  listed_exactly = given_exactly text (list_tests text room)

-- The same of what `list` answers.
pub list_refused : (text before after : List ℕ) (l : Result ℕ TooShort) → Lists text before after l → (n : Numbered) → (listed_as l ≡ refused n) ↔ First (list_tests text (length before)) n
list_refused text before after l h n =
    let law = lists_in_order text (length before) n in
    (λ e. law.0 (sized_refused (listing text (length before)) n (sym h.answer ∙ e)), λ f. h.answer ∙ ap sized (law.1 f))
