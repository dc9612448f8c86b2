-- What the contract of `list` says of the buffer: a refused listing leaves every byte, one that is given stands at the start, with
-- every byte behind it untouched, and TEXT bytes are enough for the listing of any file. Assumes nothing.
use mathlib.Core.Path.{◌≡◌, sym, ap, ◌∙◌}
use mathlib.Core.List.{List}
use Prim.Native.Nat.{ℕ, ◌^◌, ◌≤◌, ◌<◌}
use native.Mathlib.Omega.{arith}
use lib.IntN.{ℤ}
use lib.ListN.{length, take, drop}
use lib.Seq.{take_at, drop_at}
use borrow.Author.Tests.{le-ltb}
use Rattle.number.specs.Refusal.{refused, given, answer, Numbered}
use Rattle.number.proofs.RefusalLaws.{given_is}
use Rattle.octets.specs.Bytes.{AreBytes}
use Rattle.octets.proofs.LentLaws.{refused_leaves, given_lays}
use Rattle.watchfile.specs.Format.{reading}
use Rattle.listing.specs.Listing.{listing_of, TEXT, list_tests, listing, listed_as, Lists}
use Rattle.std.specs.Prelude.{Result, Ok}
use Rattle.listing.specs.declared.TooShort.{TooShort}
use Rattle.listing.proofs.FitLaws.{listing_fits}

module _ (text before after : List ℕ) where
  pub refused_leaves_every_byte : (l : Result ℕ TooShort) (r : Numbered) → Lists text before after l → listed_as l ≡ refused r → after ≡ before
  refused_leaves_every_byte l r h e = h.bytes ∙ refused_leaves (listing text (length before)) before r (sym h.answer ∙ e)

  module _ (n : ℕ) (h : Lists text before after (Ok n)) where
    pub text_is_there : take n after ≡ text
    unfolding listing
    text_is_there =
        let f = given_lays (listing text (length before)) before n (sym h.answer) in
        ap (take n) (h.bytes ∙ f.3)
        ∙ take_at f.0 (drop n before) n f.2
        ∙ sym (given_is (list_tests text (length before)) text f.0 f.1)

    pub leaves_what_is_behind : drop n after ≡ drop n before
    leaves_what_is_behind =
        let f = given_lays (listing text (length before)) before n (sym h.answer) in
        ap (drop n) (h.bytes ∙ f.3) ∙ drop_at f.0 (drop n before) n f.2

pub room_for_every_listing : (dew : ℕ → ℤ) (s : List ℕ) → AreBytes s → length s < 10 ^ 20 → (room : ℕ) → TEXT ≤ room
    → listing (listing_of (reading dew s)) room ≡ given (listing_of (reading dew s))
unfolding listing answer
room_for_every_listing dew s are long room h =
    let fits = listing_fits dew s are long in
    rw (le-ltb room (length (listing_of (reading dew s))) (omega arith))
