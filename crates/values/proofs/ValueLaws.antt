-- Laws of values: what is made for each place, one after the other, fills a list, and the words before `anemometer` are counted one by
-- one. Assumes nothing.
use mathlib.Core.Path.{◌≡◌, refl, sym, ap, ◌∙◌}
use mathlib.Core.Bool.{true, false}
use mathlib.Core.List.{List}
use Prim.Native.Nat.{ℕ, zero, suc, ◌+◌, ◌-◌, ◌≤◌, ◌<◌}
use native.Mathlib.Decide.{dec_lt}
use native.Mathlib.Omega.{arith}
use lib.Dec.{eqb}
use lib.ListN.{get_or, length, get_or-eq_default}
use lib.Seq.{ext_get_or}
use native.Mathlib.Nat.{zero-add}
use Rattle.std.specs.Fn.{Mut, Called}
use Rattle.std.specs.Array.{IsFromFnResult}
use Rattle.settings.proofs.MadeLaws.{made_at}
use Rattle.values.specs.Values.{each, at, anemometer_word, before_word}

length_each : {A : Type 0} (f : ℕ → A) (k n : ℕ) → length (each f k n) ≡ n
unfolding each
length_each f k zero = refl
length_each f k (suc n) = ap suc (length_each f (suc k) n)

get_or-each : {A : Type 0} (f : ℕ → A) (d : A) (k n j : ℕ) → j < n → get_or (each f k n) j d ≡ f (k + j)
unfolding each
get_or-each f d k zero j h = absurd (omega arith)
get_or-each f d k (suc n) zero h = ap f (omega arith)
get_or-each f d k (suc n) (suc j) h = get_or-each f d (suc k) n j (omega arith) ∙ ap f (omega arith)

-- what `array::from_fn` makes
module _ {A F : Type 0} {g : Mut F (ℕ × Unit {0}) A} {f : F} (made : ℕ → A) (top : ℕ) (none : A) where
  pub each_made : (ys : List A) → IsFromFnResult g f ys top → ((i : ℕ) (y : A) (q : F) → i < top → Called g f (i, tt) y q → (q ≡ f) × (y ≡ made i)) → ys ≡ each made 0 top
  each_made ys h called =
      ext_get_or none ys (each made 0 top) (h.long ∙ sym (length_each made 0 top))
      (λ k l. let b : k < top = omega (arith, h.long) in made_at made top none called ys h k b ∙ ap made (sym (zero-add k)) ∙ sym (get_or-each made none 0 top k b))

-- ---- the words before `anemometer`

module _ (numbers : List ℕ) where
  here : (k n : ℕ) → eqb (at numbers k) anemometer_word ≡ true → before_word numbers k (suc n) ≡ 0
  unfolding before_word
  here k n e = rw e

  on : (k n : ℕ) → eqb (at numbers k) anemometer_word ≡ false → before_word numbers k (suc n) ≡ suc (before_word numbers (k + 2) n)
  unfolding before_word
  on k n e = rw e

  none : (k : ℕ) → before_word numbers k 0 ≡ 0
  unfolding before_word
  none k = refl

  -- behind the numbers' end there is no such word
  past : (k n : ℕ) → length numbers ≤ k → before_word numbers k n ≡ n
  past k zero h = none k
  past k (suc n) h =
      let zeros : at numbers k ≡ 0 = get_or-eq_default numbers 0 h in
      on k n (rw zeros) ∙ ap suc (past (k + 2) n (omega arith))

  pub before_start : (k p q : ℕ) → p ≡ q → 0 + before_word numbers k (p - 0) ≡ before_word numbers k q
  before_start k p q h =
      let e : p - 0 ≡ q = omega arith in
      omega (arith, ap (before_word numbers k) e)

  -- of p words i were looked at: all are found, this one is `anemometer`, or it is a point
  module _ (i k p : ℕ) where
    pub before_all : i ≡ p → i + before_word numbers k (p - i) ≡ p
    before_all h =
        let e : p - i ≡ 0 = omega arith in
        let b : before_word numbers k (p - i) ≡ 0 = rw e (none k) in
        omega (arith, b)

    pub before_here : i < p → eqb (at numbers k) anemometer_word ≡ true → i + before_word numbers k (p - i) ≡ i
    before_here h t =
        let e : p - i ≡ suc (p - (i + 1)) = omega arith in
        let b : before_word numbers k (p - i) ≡ 0 = rw e (here k (p - (i + 1)) t) in
        omega (arith, b)

    pub before_on : i < p → eqb (at numbers k) anemometer_word ≡ false → i + before_word numbers k (p - i) ≡ i + 1 + before_word numbers (k + 2) (p - (i + 1))
    before_on h t =
        let e : p - i ≡ suc (p - (i + 1)) = omega arith in
        let b : before_word numbers k (p - i) ≡ suc (before_word numbers (k + 2) (p - (i + 1))) = rw e (on k (p - (i + 1)) t) in
        omega (arith, b)

    pub before_past : i ≤ p → length numbers ≤ k → i + before_word numbers k (p - i) ≡ p
    before_past h l = omega (arith, past k (p - i) l)

    -- at the end all p were looked at, or the numbers end
    pub before_end : i ≤ p → (i < p → length numbers ≤ k) → i + before_word numbers k (p - i) ≡ p
    before_end h l = go (dec_lt i p)
      where
        go : Dec (i < p) → i + before_word numbers k (p - i) ≡ p
        go (yes b) = before_past h (l b)
        go (no n) = before_all (omega arith)

  -- `anemometer` stands within the numbers
  pub within : (k : ℕ) → at numbers k ≡ anemometer_word → k < length numbers
  within k e = go (dec_lt k (length numbers))
    where
      go : Dec (k < length numbers) → k < length numbers
      go (yes l) = l
      go (no n) = let zeros : at numbers k ≡ 0 = get_or-eq_default numbers 0 (omega arith) in absurd (omega (arith, zeros, e))
