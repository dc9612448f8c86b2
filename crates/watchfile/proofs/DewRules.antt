-- The dew point as a rule of e: there is one, any two agree on each e that a file may hold, and it lies within a bulb's limits.
-- A pressure has one dew point (vapour's law), and each of these has one (DewExists). Assumes nothing.
use mathlib.Core.Path.{◌≡◌, refl, sym, subst}
use mathlib.Core.Bool.{Bool, true, false, ◌&&◌}
use Prim.Native.Nat.{ℕ}
use native.Mathlib.Nat.{le_refl}
use native.Mathlib.Omega.{arith}
use lib.Dec.{T}
use lib.IntN.{ℤ, pos, negsuc}
use lib.Signed.{le_z}
use borrow.Author.Tests.{le-leb}
use Rattle.number.specs.Whole.{within}
use Rattle.number.proofs.Sizes.{impossible, and_true}
use Rattle.quantity.specs.Limits.{inside, bulb}
use Rattle.vapour.specs.Vapour.{DewPoint, recorded_vapour, TellsDew}
use Rattle.vapour.specs.Tables.{tenth}
use Rattle.vapour.proofs.UpDown.{le_then, same}
use Rattle.vapour.proofs.DewLaws.{dew_one}
use Rattle.watchfile.specs.Rules.{dew_right}
use Rattle.watchfile.specs.Format.{DewRule}
use Rattle.watchfile.proofs.DewExists.{dew_place, tenth_inside}

-- ---- the rule

-- the dew point where e is in range, and else 0, of which no contract speaks
pick : (e : ℕ) (b : Bool) → recorded_vapour e ≡ b → ℤ
pick e true h = tenth (dew_place e h).0
pick e false h = pos 0

picked : (e : ℕ) (b : Bool) (h : recorded_vapour e ≡ b) → recorded_vapour e ≡ true → DewPoint e (pick e b h)
unfolding pick
picked e true h k = (dew_place e h).2
picked e false h k = impossible (cc)

-- There is a rule that gives the dew point of each e that a file may hold.
pub the_rule : (rule : ℕ → ℤ) × DewRule rule
the_rule = (λ e. pick e (recorded_vapour e) refl, λ e h. picked e (recorded_vapour e) refl h)

-- Any two such rules agree there.
pub rules_agree : (f g : ℕ → ℤ) → DewRule f → DewRule g → (e : ℕ) → recorded_vapour e ≡ true → f e ≡ g e
rules_agree f g p q e h = dew_one e (f e) (g e) (p e h) (q e h)

-- And give a temperature from -40.0 to 50.0.
pub rule_within : (rule : ℕ → ℤ) → DewRule rule → (e : ℕ) → recorded_vapour e ≡ true → inside bulb (rule e) ≡ true
rule_within rule ruled e h =
    let d = dew_place e h in rw (dew_one e (rule e) (tenth d.0) (ruled e h) d.2) (tenth_inside d.0 d.1)

-- ---- what vapour's test says of a rule

module _ (rule : ℕ → ℤ) (ruled : DewRule rule) (e : ℕ) (z : ℤ) where
  -- a number within itself and itself is that number
  only : (a : ℤ) → within a a z ≡ true → a ≡ z
  only a h =
      let both = and_true (le_z a z) (le_z z a) h in
      same a z (omega (arith, le_then a z (record { le = subst T (sym both.0) tt }), le_then z a (record { le = subst T (sym both.1) tt })))

  itself : within z z z ≡ true
  itself = go z
    where
      go : (a : ℤ) → within a a a ≡ true
      go (pos n) = simp (le-leb n n (le_refl n))
      go (negsuc n) = simp (le-leb n n (le_refl n))

  pub test_right : (b : Bool) → TellsDew e z b → b ≡ dew_right rule e z
  unfolding dew_right
  test_right true d = rw (d.0, dew_one e (rule e) z (ruled e d.0) d.1, itself)
  test_right false d = go (recorded_vapour e) (within (rule e) (rule e) z) refl refl
    where
      go : (r w : Bool) → recorded_vapour e ≡ r → within (rule e) (rule e) z ≡ w → false ≡ (recorded_vapour e && within (rule e) (rule e) z)
      go false w h k = rw h
      go true false h k = rw (h, k)
      go true true h k = absurd (d h (subst (DewPoint e) (only (rule e) k) (ruled e h)))
