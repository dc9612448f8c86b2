-- The same settings open the same block, and messages and entries heard then leave the same. Assumes nothing.
use mathlib.Core.Path.{◌≡◌, ap}
use mathlib.Core.List.{List, [], ◌∷◌}
use Prim.Native.Nat.{ℕ}
use Rattle.settings.specs.Settings.{SameSettings}
use Rattle.settings.specs.declared.Settings.{Settings}
use Rattle.block.proofs.AlikeLaws.{same_opened}
use Rattle.store.specs.Block.{heard_by}
use Rattle.store.specs.Noting.{noted_by}
use Rattle.store.specs.History.{Sent, bytes, note, store_of}

module _ (g h : Settings) (same : SameSettings g h) where
  pub same_store : (M : List Sent) → store_of g M ≡ store_of h M
  same_store [] = same_opened g h same
  same_store (bytes m ∷ M) = ap (λ (s : List ℕ). heard_by s m) (same_store M)
  same_store (note n ∷ M) = ap (λ (s : List ℕ). noted_by s n) (same_store M)
