-- A wind as a test that is computed, so that a worked figure is proved by it. Assumes nothing.
use Rattle.std.specs.Prelude.{Some}
use mathlib.Core.Path.{◌≡◌}
use mathlib.Core.Bool.{Bool, true, ◌&&◌, ◌||◌}
use Prim.Native.Nat.{ℕ, ◌+◌, ◌-◌, ◌<◌}
use native.Mathlib.Omega.{arith}
use lib.Dec.{T, eqb}
use lib.Signed.{le_z, lt_z}
use borrow.Author.Tests.{eqb-true, ne_eqb}
use Rattle.number.proofs.Sizes.{and_true}
use Rattle.quantity.specs.Convert.{parts_of_knots, parts_of_metres, kept_direction}
use Rattle.wind.specs.Wind.{sum, half_tenth, square_of, Nearest, between, from}
use Rattle.wind.specs.Answer.{within_limits, IsWind}

unfoldable pub is_nearest : ℕ → ℕ → ℕ → ℕ → Bool
is_nearest s k r v =
    (eqb v 0 || le_z (square_of (parts_of_metres v - half_tenth)) (sum s k r)) && lt_z (sum s k r) (square_of (parts_of_metres v + half_tenth))

unfoldable pub is_wind : ℕ → ℕ → ℕ → ℕ → ℕ → ℕ → Bool
is_wind course ship apparent bow v d =
    let s = parts_of_knots ship in
    let k = parts_of_metres apparent in
    let r = kept_direction bow in
    within_limits course ship apparent bow && is_nearest s k r v && eqb d (from (kept_direction course) r (between s k r) v)

yes : {b : Bool} → b ≡ true → T b
yes e = rw e tt

or_else : (n : ℕ) (b : Bool) → 0 < n → (eqb n 0 || b) ≡ true → b ≡ true
or_else n b h e = rw (ne_eqb n 0 (λ z. omega arith)) at e

is_nearest_lem : (s k r v : ℕ) → is_nearest s k r v ≡ true → Nearest s k r v
unfolding is_nearest
is_nearest_lem s k r v e =
    let low = le_z (square_of (parts_of_metres v - half_tenth)) (sum s k r) in
    let two = and_true (eqb v 0 || low) (lt_z (sum s k r) (square_of (parts_of_metres v + half_tenth))) e in
    record { low = λ h. record { le = yes (or_else v low h two.0) }; high = record { lt = yes two.1 } }

-- a wind that passes the test is the true wind
pub tested : (course ship apparent bow v d : ℕ) → is_wind course ship apparent bow v d ≡ true → IsWind course ship apparent bow (Some (record { speed = record { 0 = v }; direction = record { 0 = d } }))
unfolding is_wind
tested course ship apparent bow v d e =
    let s = parts_of_knots ship in
    let k = parts_of_metres apparent in
    let r = kept_direction bow in
    let direction = from (kept_direction course) r (between s k r) v in
    let three = and_true (within_limits course ship apparent bow && is_nearest s k r v) (eqb d direction) e in
    let two = and_true (within_limits course ship apparent bow) (is_nearest s k r v) three.0 in
    (two.0, record { speed = is_nearest_lem s k r v two.1; direction = eqb-true d direction three.1 })
