-- What each call from C promises besides: the answer as it is told, and what is left in lent memory.
use Rattle.std.specs.Prelude.{◌≡◌, cond, List, ℕ, ℤ}
use Rattle.block.specs.Layout.{NO_STORE}
use Rattle.block.specs.Words.{is_store}
use Rattle.sheet.specs.Sheet.{sheet_of}
use Rattle.octets.specs.Lent.{sized, left_by}
use Rattle.handed.specs.Words.{record_at}
use Rattle.watchlog.specs.Placing.{placing, taking}
use Rattle.filed.specs.Files.{place_in}
use Rattle.filed.specs.declared.PlaceTold.{PlaceTold}

-- The settings of the block s were read back into the sheet `before`, which is `after` then.
pub record SettingsAs (s s' before after : List ℕ) (r : ℕ) : Type 0 where
  pub answer : r ≡ cond (is_store s) 0 NO_STORE
  pub sheet : after ≡ cond (is_store s) (sheet_of s) before
  pub block : s' ≡ s

-- A record, lent as words, was to be put into the file that the first n bytes of the buffer `before` are; the buffer is `after` then.
pub record PlacedAs (rule : ℕ → ℤ) (n : ℕ) (words before after : List ℕ) (r : PlaceTold) : Type 0 where
  pub answer : r ≡ place_in (sized (placing rule (record_at words 0) n before))
  pub bytes : after ≡ left_by before (placing rule (record_at words 0) n before)

-- The record of a kind and a minute was to be taken out of that file.
pub record TakenAs (rule : ℕ → ℤ) (n kind minute : ℕ) (before after : List ℕ) (r : PlaceTold) : Type 0 where
  pub answer : r ≡ place_in (sized (taking rule minute kind n before))
  pub bytes : after ≡ left_by before (taking rule minute kind n before)
