-- What the contract of `true_wind` means: the sum under the root is never below zero, there is one answer, its speed lies within the
-- limits of the true wind, and its direction is 0 in a calm and else 1 to 360. So every wind can be written to a watch file. Assumes
-- nothing.
use Rattle.std.specs.Prelude.{Option, Some, None}
use mathlib.Core.Path.{◌≡◌, refl, sym, ap₂, ◌∙◌}
use mathlib.Core.Bool.{true, false}
use Prim.Native.Nat.{ℕ, zero, suc, ◌*◌, ◌/◌, ◌≤◌, ◌<◌, zero-le}
use native.Mathlib.Omega.{arith}
use lib.Dec.{le→leb}
use lib.IntN.{pos, nat_abs}
use lib.Signed.{◌≤ℤ◌}
use borrow.Author.Tests.{eq-eqb, ne_eqb}
use Rattle.number.proofs.Sizes.{impossible}
use Rattle.quantity.specs.Limits.{inside, degrees, true_wind, highest_wind}
use Rattle.quantity.specs.Convert.{parts_of_knots, parts_of_metres, kept_direction}
use Rattle.quantity.specs.declared.MetresPerSecond.{MetresPerSecond}
use Rattle.quantity.specs.declared.Degrees.{Degrees}
use Rattle.quantity.proofs.LimitLaws.{then_inside}
use Rattle.sine.specs.Sine.{cosine, above, below, Parts}
use Rattle.wind.specs.declared.Wind.{Wind}
use Rattle.wind.specs.Wind.{sum, Nearest, compass, from}
use Rattle.wind.specs.Answer.{IsWind}
use Rattle.wind.proofs.SpeedLaws.{sum_is, root_of, one_root, root_most, million, million_small, cosine_most}
use Rattle.wind.proofs.LimitLaws.{speeds_most}

parts : (r : ℕ) → Parts (cosine (2 * r)) (above (cosine (2 * r))) (below (cosine (2 * r)))
parts r = record { up_is = refl; down_is = refl }

-- ---- the sum

-- "with 1.03 the sum can be negative. 1.0288 decides.": it is not, for any speeds and any direction
pub sum_never_negative : (s k r : ℕ) → pos 0 ≤ℤ sum s k r
sum_never_negative s k r =
    record { le = rw (sum_is s k r (parts r)) (le→leb 0 (million s k (above (cosine (2 * r))) (below (cosine (2 * r)))) zero-le) }

-- ---- a single answer

one_speed : (s k r v w : ℕ) → Nearest s k r v → Nearest s k r w → v ≡ w
one_speed s k r v w a b = one_root _ v w (root_of s k r (parts r) v a) (root_of s k r (parts r) w b)

not_both : true ≡ false → ⊥
not_both e = impossible (cc)

pub single_wind : (course ship apparent bow : ℕ) (w x : Option Wind) → IsWind course ship apparent bow w → IsWind course ship apparent bow x → w ≡ x
single_wind course ship apparent bow (Some w) (Some x) a b =
    let speeds = one_speed (parts_of_knots ship) (parts_of_metres apparent) (kept_direction bow) w.speed.0 x.speed.0 a.1.speed b.1.speed in
    let from-a = a.1.direction in
    let from-b = b.1.direction in
    let directions : w.direction.0 ≡ x.direction.0 = cc in
    ap₂ make speeds directions
  where
    make : ℕ → ℕ → Option Wind
    make n m = Some (record { speed = record { 0 = n }; direction = record { 0 = m } })
single_wind course ship apparent bow (Some w) None a b = absurd (not_both (sym a.0 ∙ b))
single_wind course ship apparent bow None (Some x) a b = absurd (not_both (sym b.0 ∙ a))
single_wind course ship apparent bow None None a b = refl

-- ---- its range

still : (course r angle v : ℕ) → v ≡ 0 → from course r angle v ≡ 0
unfolding from
still course r angle v e = rw (eq-eqb v 0 e)

moving : (course r angle v : ℕ) → (v ≡ 0 → ⊥) → (0 < from course r angle v) × (from course r angle v ≤ 360)
unfolding from compass
moving course r angle v some = rw (ne_eqb v 0 some) (omega arith, omega arith)

module _ (course ship apparent bow : ℕ) (v : MetresPerSecond) (d : Degrees) (a : IsWind course ship apparent bow (Some (record { speed = v; direction = d }))) where
  speed_most : v.0 ≤ highest_wind
  speed_most =
      let s = parts_of_knots ship in
      let k = parts_of_metres apparent in
      let r = kept_direction bow in
      let most = speeds_most course ship apparent bow a.0 in
      let small = million_small s k (above (cosine (2 * r))) (below (cosine (2 * r))) (omega arith) (omega arith) (omega (arith, cosine_most s k r (parts r))) in
      root_most (million s k (above (cosine (2 * r))) (below (cosine (2 * r))) / 390625000000) v.0 small (root_of s k r (parts r) v.0 a.1.speed)

  -- "speed 2, 0 to 956"
  pub speed_inside : inside true_wind (pos v.0) ≡ true
  speed_inside = then_inside v.0 highest_wind speed_most

  -- "direction 2, 0 to 360, 0 exactly when speed is 0"
  pub calm : v.0 ≡ 0 → d.0 ≡ 0
  calm e = a.1.direction ∙ still (kept_direction course) (kept_direction bow) _ v.0 e

  blows : (v.0 ≡ 0 → ⊥) → (0 < d.0) × (d.0 ≤ 360)
  blows some = rw a.1.direction (moving (kept_direction course) (kept_direction bow) _ v.0 some)

  pub calm_only : d.0 ≡ 0 → v.0 ≡ 0
  calm_only e = by v.0 refl
    where
      by : (n : ℕ) → v.0 ≡ n → v.0 ≡ 0
      by zero z = z
      by (suc n) z = absurd (omega (arith, blows (λ y. omega arith)))

  direction_most : d.0 ≤ nat_abs degrees.high
  direction_most = by v.0 refl
    where
      by : (n : ℕ) → v.0 ≡ n → d.0 ≤ nat_abs degrees.high
      by zero z = omega (arith, calm z)
      by (suc n) z = (blows (λ y. omega arith)).1

  pub direction_inside : inside degrees (pos d.0) ≡ true
  direction_inside = then_inside d.0 (nat_abs degrees.high) direction_most
