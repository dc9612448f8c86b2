-- A list by its places: its length, what stands at each place, and that it is the only one so. By induction on the length.
-- Assumes nothing.
use mathlib.Core.Path.{◌≡◌, refl, sym, ap, ◌∙◌}
use mathlib.Core.List.{List}
use Prim.Native.Nat.{ℕ, zero, suc, ◌+◌, ◌<◌}
use native.Mathlib.Omega.{arith}
use native.Mathlib.Nat.{zero-add}
use lib.ListN.{get_or, length}
use Rattle.std.specs.Fn.{Mut, Called}
use Rattle.std.specs.Array.{IsFromFnResult}
use Rattle.settings.proofs.MadeLaws.{made_at}
use lib.Seq.{ext_get_or}
use Rattle.block.specs.Words.{listed}

module _ {A : Type 0} (f : ℕ → A) where
  pub length_listed : (i n : ℕ) → length (listed f i n) ≡ n
  unfolding listed
  length_listed i zero = refl
  length_listed i (suc n) = ap suc (length_listed (suc i) n)

  pub get_or-listed : (d : A) (i n k : ℕ) → k < n → get_or (listed f i n) k d ≡ f (i + k)
  unfolding listed
  get_or-listed d i zero k h = absurd (omega arith)
  get_or-listed d i (suc n) zero h = ap f (omega arith)
  get_or-listed d i (suc n) (suc k) h = get_or-listed d (suc i) n k (omega arith) ∙ ap f (omega arith)

  pub listed_by : (d : A) (l : List A) (i n : ℕ) → length l ≡ n → ((k : ℕ) → k < n → get_or l k d ≡ f (i + k)) → l ≡ listed f i n
  listed_by d l i n long at =
      ext_get_or d l (listed f i n) (long ∙ sym (length_listed i n))
      (λ k h. let b : k < n = omega (arith, long) in at k b ∙ sym (get_or-listed d i n k b))

-- what `array::from_fn` makes
module _ {A F : Type 0} {g : Mut F (ℕ × Unit {0}) A} {f : F} (made : ℕ → A) (top : ℕ) (none : A) where
  pub made_listed : (ys : List A) → IsFromFnResult g f ys top → ((i : ℕ) (y : A) (q : F) → i < top → Called g f (i, tt) y q → (q ≡ f) × (y ≡ made i)) → ys ≡ listed made 0 top
  made_listed ys h called =
      listed_by made none ys 0 top h.long (λ k l. made_at made top none called ys h k l ∙ ap made (sym (zero-add k)))
