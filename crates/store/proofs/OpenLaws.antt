-- What an opening leaves: the block with the settings laid, or the block as it was. And what a block is that was never opened.
-- Assumes nothing.
use mathlib.Core.Path.{◌≡◌, refl}
use mathlib.Core.Bool.{false}
use mathlib.Core.List.{List}
use Prim.Native.Nat.{ℕ}
use lib.ListN.{replicate}
use Rattle.number.specs.Refusal.{refused, given}
use Rattle.settings.specs.Settings.{checked}
use Rattle.settings.specs.declared.Settings.{Settings}
use Rattle.block.specs.Layout.{WORDS}
use Rattle.block.specs.Words.{opened, is_store}
use Rattle.store.specs.Block.{opened_by}

pub opens : (s : List ℕ) (g : Settings) → checked g ≡ given tt → opened g ≡ opened_by s g
unfolding opened_by
opens s g e = rw e

pub opens_not : (s : List ℕ) (g : Settings) (n : ℕ) → checked g ≡ refused n → s ≡ opened_by s g
unfolding opened_by
opens_not s g n e = rw e

-- A block of zeros that was never opened is no store.
pub zeros_are_no_store : is_store (replicate WORDS 0) ≡ false
zeros_are_no_store = refl
