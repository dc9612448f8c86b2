-- Document 01's example of a listing, and a file that is no watch file, worked by the definitions. Assumes nothing.
use mathlib.Core.Path.{◌≡◌, refl}
use mathlib.Core.List.{[], ◌∷◌}
use Prim.Native.Nat.{ℕ}
use lib.IntN.{ℤ}
use Rattle.number.specs.Refusal.{answer}
use Rattle.text.specs.Letters.{letters}
use Rattle.text.specs.Text.{digits, decimal, decimal_of}
use Rattle.watchfile.specs.Fields.{field_tests}
use Rattle.watchfile.specs.Rules.{kind_right, minute_right, change_right, absent_right}
use Rattle.watchfile.specs.Format.{rows_fields, bodies_fields, records_from, reading}
use Rattle.listing.specs.Listing.{record_lines, listing_of}

-- "For 57 54 01 01 02 00 0C 00 18 01 00 00 EE FF B3 it prints two lines"
pub the_example : (rule : ℕ → ℤ)
    → listing_of (reading rule (0x57 ∷ 0x54 ∷ 1 ∷ 1 ∷ 2 ∷ 0 ∷ 0x0C ∷ 0 ∷ 0x18 ∷ 1 ∷ 0 ∷ 0 ∷ 0xEE ∷ 0xFF ∷ 0xB3 ∷ []))
    ≡ letters "WT 1 1\nT 280 -18 179\n"
unfolding answer digits decimal decimal_of field_tests kind_right minute_right change_right absent_right rows_fields bodies_fields records_from reading record_lines listing_of
the_example rule = refl

-- "A bad file prints only `refused 18 at`, a space and the place."
pub the_empty_file : (rule : ℕ → ℤ) → listing_of (reading rule []) ≡ letters "refused 18 at 0\n"
unfolding answer digits decimal field_tests reading listing_of
the_empty_file rule = refl
