-- A store tests in the documents' order: a message is refused n of 1 to 8 and 19 exactly when reason n holds and no test before it does.
-- And a block answers that it is no store exactly when it is none. Assumes nothing.
use mathlib.Core.Path.{◌≡◌, refl, sym, ap, subst}
use mathlib.Core.Bool.{Bool, true, false, not, ◌&&◌}
use mathlib.Core.List.{List, [], ◌∷◌}
use mathlib.Core.Logic.{◌↔◌}
use Prim.Native.Nat.{ℕ, zero, suc}
use lib.Dec.{T, eqb, T_not}
use lib.Ieee.Fits.{and_l, and_r}
use borrow.Author.Tests.{eq-eqb}
use Rattle.number.specs.Refusal.{Numbered, numbered, Test, refused, given, HoldsAt, Holds, First}
use Rattle.number.proofs.RefusalLaws.{refused_exactly, given_exactly}
use Rattle.block.specs.Layout.{NO_STORE}
use Rattle.block.specs.Words.{is_store}
use Rattle.store.specs.Block.{entry_of_bytes, hear_tests, hearing}
use Rattle.store.proofs.HearingLaws.{store_hears, hears_nothing}

module _ (s m : List ℕ) (is : is_store s ≡ true) where
  pub hearing_refused_exactly : (n : Numbered) → (hearing s m ≡ refused n) ↔ First (hear_tests s m) n
  hearing_refused_exactly n = rw (store_hears s m is) (refused_exactly (entry_of_bytes s m) (hear_tests s m) n)

  pub hearing_kept_exactly : (hearing s m ≡ given (entry_of_bytes s m)) ↔ ((n : Numbered) → Holds (hear_tests s m) n → ⊥)
  hearing_kept_exactly = rw (store_hears s m is) (given_exactly (entry_of_bytes s m) (hear_tests s m))

-- a number that none of the tests refuses with
abbrev pub lacks : ℕ → List (Test Numbered) → Bool
lacks n [] = true
lacks n (t ∷ ts) = not (eqb t.refusal.number n) && lacks n ts

pub not_among : (n : Numbered) (ts : List (Test Numbered)) → T (lacks n.number ts) → (place : ℕ) → HoldsAt ts place n → ⊥
not_among n [] l place h = h
not_among n (t ∷ ts) l zero h =
    let same : t.refusal.number ≡ n.number = ap (λ (r : Numbered). r.number) h.1 in
    T_not (eqb t.refusal.number n.number) (and_l (not (eqb t.refusal.number n.number)) (lacks n.number ts) l)
    (subst T (sym (eq-eqb t.refusal.number n.number same)) tt)
not_among n (t ∷ ts) l (suc place) h = not_among n ts (and_r (not (eqb t.refusal.number n.number)) (lacks n.number ts) l) place h

pub no_store_exactly : (s m : List ℕ) → (hearing s m ≡ refused (numbered NO_STORE [])) ↔ (is_store s ≡ false)
no_store_exactly s m = (λ e. go e (is_store s) refl, hears_nothing s m)
  where
    go : hearing s m ≡ refused (numbered NO_STORE []) → (b : Bool) → is_store s ≡ b → is_store s ≡ false
    go e true is =
        let held = (hearing_refused_exactly s m is (numbered NO_STORE [])).0 e in
        absurd (not_among (numbered NO_STORE []) (hear_tests s m) tt held.0 held.1)
    go e false is = is
