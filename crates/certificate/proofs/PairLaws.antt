-- The pairs of neighbouring points as a loop goes through them: what is left to try answers for the whole. Assumes nothing.
use mathlib.Core.Path.{◌≡◌, refl, ap, ◌∙◌}
use mathlib.Core.Bool.{Bool, true, false, not, ◌&&◌, cond}
use Prim.Native.Nat.{ℕ, suc, ◌+◌, ◌-◌, ◌≤◌, ◌<◌}
use native.Mathlib.Omega.{arith}
use native.Mathlib.Nat.{sub-zero}
use lib.IntN.{ℤ}
use lib.Signed.{le_z}
use Rattle.number.specs.Refusal.{Answer, refused, given}
use Rattle.settings.specs.Settings.{every}
use Rattle.settings.proofs.EveryLaws.{passed, failed, done}
use Rattle.certificate.specs.declared.Corner.{Corner}
use Rattle.certificate.specs.Line.{rises, stands, between, value_from, none_round, valued}

-- what n pairs from place i on answer
unfoldable pub pairs : (ℕ → Corner) → ℤ → ℕ → ℕ → Answer (Unit {0}) ℤ
pairs corner x i n =
    cond (every (λ k. not (stands (corner k) (corner (k + 1)) x)) i n) (refused tt) (given (value_from corner x i n))

pub whole : (corner : ℕ → Corner) (n : ℕ) (x : ℤ) → pairs corner x 0 (n - 1 - 0) ≡ valued corner n x
unfolding pairs valued none_round
whole corner n x = ap (pairs corner x 0) (sub-zero (n - 1))

-- no pair stands round an x above its higher point
pub above : (p q : Corner) (x : ℤ) → le_z x q.reads.v ≡ false → stands p q x ≡ false
above p q x e = rw e (go (rises p q) (le_z p.reads.v x))
  where
    go : (a b : Bool) → (a && b && false) ≡ false
    go true true = refl
    go true false = refl
    go false b = refl

module _ (corner : ℕ → Corner) (x : ℤ) (i n : ℕ) where
  here : Bool
  here = stands (corner i) (corner (i + 1)) x

  front : i < n → value_from corner x i (n - i) ≡ cond here (between (corner i) (corner (i + 1)) x) (value_from corner x (i + 1) (n - (i + 1)))
  unfolding here value_from
  front h = let some : n - i ≡ suc (n - (i + 1)) = omega arith in ap (value_from corner x i) some

  -- the next pair stands round x
  pub found : i < n → stands (corner i) (corner (i + 1)) x ≡ true → pairs corner x i (n - i) ≡ given (between (corner i) (corner (i + 1)) x)
  unfolding pairs here
  found h e =
      rw (failed (λ k. not (stands (corner k) (corner (k + 1)) x)) i n h (ap not e))
      (ap given (front h ∙ ap (λ (t : Bool). cond t (between (corner i) (corner (i + 1)) x) (value_from corner x (i + 1) (n - (i + 1)))) e))

  -- it does not: the rest answers
  pub next : i < n → stands (corner i) (corner (i + 1)) x ≡ false → pairs corner x (i + 1) (n - (i + 1)) ≡ pairs corner x i (n - i)
  unfolding pairs here
  next h e =
      rw (
        passed (λ k. not (stands (corner k) (corner (k + 1)) x)) i n h (ap not e),
        front h ∙ ap (λ (t : Bool). cond t (between (corner i) (corner (i + 1)) x) (value_from corner x (i + 1) (n - (i + 1)))) e,
      )

  -- no pair is left
  pub none : n ≤ i → pairs corner x i (n - i) ≡ refused tt
  unfolding pairs
  none h = rw (done (λ k. not (stands (corner k) (corner (k + 1)) x)) i n h)
