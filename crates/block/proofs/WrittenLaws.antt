-- A block of zeros into which the settings are written word by word is the opened one. Assumes nothing.
use mathlib.Core.Path.{◌≡◌, refl, sym, ◌∙◌}
use mathlib.Core.List.{List}
use Prim.Native.Nat.{ℕ, zero, suc, ◌≤◌, ◌<◌}
use native.Mathlib.Decide.{dec_lt}
use native.Mathlib.Omega.{arith}
use lib.ListN.{get_or, length, replicate}
use lib.Seq.{ext_get_or}
use borrow.Author.Tests.{lt-ltb, le-ltb}
use Rattle.settings.specs.declared.Settings.{Settings}
use Rattle.block.specs.Layout.{SETTINGS, WORDS}
use Rattle.block.specs.Words.{setting_word, opened_word, opened}
use Rattle.block.proofs.OpenedLaws.{opened_long, word_at}

pub zeros : (n i : ℕ) → ◌≡◌ {A = ℕ} (get_or (replicate n 0) i 0) 0
zeros zero i = refl
zeros (suc n) zero = refl
zeros (suc n) (suc i) = zeros n i

module _ (g : Settings) (l : List ℕ) (long : length l ≡ WORDS) where
  pub all_written : ((k : ℕ) → k < SETTINGS → get_or l k 0 ≡ setting_word g k) → ((k : ℕ) → SETTINGS ≤ k → get_or l k 0 ≡ 0) → l ≡ opened g
  all_written done rest = ext_get_or 0 l (opened g) (long ∙ sym (opened_long g)) same
    where
      same : (k : ℕ) → k < length l → get_or l k 0 ≡ get_or (opened g) k 0
      same k b = go (dec_lt k SETTINGS) ∙ sym (word_at g k (omega arith))
        where
          go : Dec (k < SETTINGS) → get_or l k 0 ≡ opened_word g k
          go (yes s) = rw (lt-ltb k SETTINGS s) (done k s)
          go (no s) = rw (le-ltb k SETTINGS (omega arith)) (rest k (omega arith))
