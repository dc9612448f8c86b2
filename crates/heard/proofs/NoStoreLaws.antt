-- A block without the mark of a store answers that it is none, to every question and every message; and so does memory of zeros. The
-- test stands first in both lists. Assumes nothing.
use mathlib.Core.Path.{◌≡◌, refl, sym, subst}
use mathlib.Core.Bool.{Bool, false, not}
use mathlib.Core.List.{List, []}
use Prim.Native.Nat.{ℕ}
use native.Mathlib.Omega.{arith}
use lib.Dec.{T}
use Rattle.number.specs.Refusal.{numbered, refused}
use Rattle.block.specs.Layout.{NO_STORE}
use Rattle.block.specs.Words.{is_store, listed}
use Rattle.store.specs.Block.{hearing}
use Rattle.store.proofs.HearingLaws.{hears_nothing}
use Rattle.vapour.proofs.TablesExist.{the_tables}
use Rattle.station.specs.Questions.{Asked, question, Reply, TellsOf}
use Rattle.heard.specs.Feeds.{zeros}
use Rattle.heard.proofs.RefusalsInOrder.{question_refused}

module _ (s : List ℕ) (none : is_store s ≡ false) where
  pub no_store_asked : (q : Asked) (m : ℕ) (r : Reply q) → TellsOf q s m r → (question q).told r ≡ refused (numbered NO_STORE [])
  no_store_asked q m r w =
      let tables = the_tables in
      (question_refused _ _ ((question q).told r) (w tables.0 tables.1) (numbered NO_STORE [])).1
      (0, (subst (λ (b : Bool). T (not b)) (sym none) tt, refl), λ p n l h. absurd (omega arith))

  pub no_store_heard : (m : List ℕ) → hearing s m ≡ refused (numbered NO_STORE [])
  no_store_heard m = hears_nothing s m none

-- Memory of zeros is no store.
pub zeros_answer_no_store : ((q : Asked) (m : ℕ) (r : Reply q) → TellsOf q zeros m r → (question q).told r ≡ refused (numbered NO_STORE []))
    × ((m : List ℕ) → hearing zeros m ≡ refused (numbered NO_STORE []))
unfolding listed
zeros_answer_no_store = (no_store_asked zeros refl, no_store_heard zeros refl)
