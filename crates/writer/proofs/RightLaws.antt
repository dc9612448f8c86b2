-- Records that may be written, one by one: that each is right says the same as that no test of theirs refuses. Assumes nothing.
use mathlib.Core.Path.{◌≡◌, refl}
use mathlib.Core.Bool.{Bool, true, false, not, cond}
use mathlib.Core.List.{List, [], ◌∷◌, ◌++◌}
use Prim.Native.Nat.{ℕ, zero, suc, ◌+◌, ◌≤◌}
use native.Mathlib.Omega.{arith}
use lib.Dec.{leb}
use lib.IntN.{ℤ, pos, neg_ℤ, nat_abs}
use borrow.Author.Tests.{leb-true}
use Rattle.number.specs.Refusal.{Test, Answer, refused, given, answer, Numbered, numbered}
use Rattle.number.specs.Whole.{within}
use Rattle.number.proofs.Sizes.{and_true, within_size}
use Rattle.vapour.specs.Vapour.{recorded_vapour}
use Rattle.watchfile.specs.Rules.{kind_right, change_right, dew_right}
use Rattle.watchfile.specs.Format.{DewRule, kind_of, record_right, rank_of, record_tests}
use Rattle.watchfile.specs.declared.Body.{Body}
use Rattle.watchfile.specs.declared.Body.TheVariants.{Pressure, Tendency, Wind, Humidity}
use Rattle.watchfile.specs.declared.Record.{Record}
use Rattle.watchfile.proofs.DewRules.{rule_within}

-- ---- kinds

pub by_kind : (P : ℕ → Type 0) (k : ℕ) → kind_right k ≡ true → P 1 → P 2 → P 3 → P 4 → P k
unfolding kind_right
by_kind P k h a b c d = go k (leb-true 1 k (and_true (leb 1 k) (leb k 4) h).0) (leb-true k 4 (and_true (leb 1 k) (leb k 4) h).1)
  where
    go : (k : ℕ) → 1 ≤ k → k ≤ 4 → P k
    go zero l m = absurd (omega arith)
    go (suc zero) l m = a
    go (suc (suc zero)) l m = b
    go (suc (suc (suc zero))) l m = c
    go (suc (suc (suc (suc zero)))) l m = d
    go (suc (suc (suc (suc (suc k))))) l m = absurd (omega arith)

pub kind_right_lem : (b : Body) → kind_right (kind_of b) ≡ true
unfolding kind_right
kind_right_lem (Pressure p) = refl
kind_right_lem (Tendency change absent) = refl
kind_right_lem (Wind speed direction) = refl
kind_right_lem (Humidity e saturation deficit relative dew) = refl

-- ---- the signed fields fit two bytes

pub change_fits : (z : ℤ) → change_right z ≡ true → nat_abs z ≤ 32767
unfolding change_right
change_fits z h = within_size (neg_ℤ (pos 3000)) (pos 3000) z 32767 (omega arith) (omega arith) h

pub dew_fits : (rule : ℕ → ℤ) → DewRule rule → (e : ℕ) (z : ℤ) → dew_right rule e z ≡ true → nat_abs z ≤ 32767
unfolding dew_right
dew_fits rule ruled e z h =
    let p = and_true (recorded_vapour e) (within (rule e) (rule e) z) h in
    let s = within_size (neg_ℤ (pos 400)) (pos 500) (rule e) 32767 (omega arith) (omega arith) (rule_within rule ruled e p.0) in
    within_size (rule e) (rule e) z 32767 s s p.1

-- ---- every record right

abbrev pub AllRight : (ℕ → ℤ) → ℕ → List Record → Type 0
AllRight rule before [] = Unit
AllRight rule before (r ∷ rs) = (record_right rule before r ≡ true) × AllRight rule (rank_of r) rs

module _ {A : Type 0} (rule : ℕ → ℤ) (later : List (Test Numbered)) (a : A) where
  pub right_goes_on : (i before : ℕ) (rs : List Record) → AllRight rule before rs → answer (record_tests rule i before rs ++ later) a ≡ answer later a
  unfolding answer record_tests
  right_goes_on i before [] h = refl
  right_goes_on i before (r ∷ rs) h = rw h.0 (right_goes_on (i + 1) (rank_of r) rs h.1)

  one_right : (b : Bool) (n : Numbered) (z : Answer Numbered A) (x : A) → cond (not b) (refused n) z ≡ given x → (b ≡ true) × (z ≡ given x)
  one_right true n z x e = (refl, e)
  one_right false n z x e = (cc, cc)

  pub given_right : (i before : ℕ) (rs : List Record) (x : A) → answer (record_tests rule i before rs ++ later) a ≡ given x → AllRight rule before rs × (answer later a ≡ given x)
  unfolding answer record_tests
  given_right i before [] x e = (tt, e)
  given_right i before (r ∷ rs) x e =
      let p = one_right (record_right rule before r) (numbered 16 (i ∷ [])) (answer (record_tests rule (i + 1) (rank_of r) rs ++ later) a) x e in
      let q = given_right (i + 1) (rank_of r) rs x p.1 in
      ((p.0, q.0), q.1)
