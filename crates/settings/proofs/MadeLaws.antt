-- What `array::from_fn` makes of a function of the place: at each place what that function gives. Assumes nothing.
use mathlib.Core.Path.{◌≡◌, refl, sym, ap, subst, ◌∙◌}
use Prim.Native.Nat.{ℕ, zero, suc, ◌+◌, ◌<◌}
use native.Mathlib.Nat.{zero-add, add-zero}
use native.Mathlib.Omega.{arith}
use Rattle.std.specs.Prelude.{List, get_or}
use Rattle.std.specs.Fn.{Mut, Called}
use Rattle.std.specs.Array.{IsFromFnResultFrom, IsFromFnResult}

module _ {A F : Type 0} {g : Mut F (ℕ × Unit {0}) A} {f : F} (made : ℕ → A) (top : ℕ) (none : A)
    (called : (i : ℕ) (y : A) (q : F) → i < top → Called g f (i, tt) y q → (q ≡ f) × (y ≡ made i)) where
  from : (ys : List A) (p : F) (i n k : ℕ) → p ≡ f → IsFromFnResultFrom g p ys i n → i + n ≡ top → k < n → get_or ys (i + k) none ≡ made (i + k)
  from ys p i zero k e h t l = absurd (omega arith)
  from ys p i (suc n) zero e h t l =
      let now = called i h.1 h.0 (omega arith) (subst (λ (j : F). Called g j (i, tt) h.1 h.0) e h.3) in
      ap (λ (j : ℕ). get_or ys j none) (add-zero i) ∙ h.2.1 none ∙ now.1 ∙ ap made (sym (add-zero i))
  from ys p i (suc n) (suc k) e h t l =
      let now = called i h.1 h.0 (omega arith) (subst (λ (j : F). Called g j (i, tt) h.1 h.0) e h.3) in
      let next : i + suc k ≡ i + 1 + k = omega arith in
      ap (λ (j : ℕ). get_or ys j none) next ∙ from ys h.0 (i + 1) n k now.0 h.4 (omega arith) (omega arith) ∙ ap made (sym next)

  pub made_at : (ys : List A) → IsFromFnResult g f ys top → (k : ℕ) → k < top → get_or ys k none ≡ made k
  made_at ys h k l =
      ap (λ (j : ℕ). get_or ys j none) (sym (zero-add k)) ∙ from ys f 0 top k refl h.each (zero-add top) l ∙ ap made (zero-add k)
