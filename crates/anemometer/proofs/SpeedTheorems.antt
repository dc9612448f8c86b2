-- The speed by a certificate that keeps its rules: whichever neighbours stand round the rate give it, at a point it is that point's, a
-- rate is outside exactly when it lies below the first point's or above the last's; and it is the rate alone that counts, however turns
-- and seconds make it up. From the law of the line. Assumes nothing.
use mathlib.Core.Path.{◌≡◌, refl, sym, ap, ap₂, subst, ◌∙◌}
use mathlib.Core.Bool.{Bool, true, false, not, ◌&&◌}
use mathlib.Core.Logic.{◌↔◌, ◌⊎◌}
use Prim.Native.Nat.{ℕ, ◌+◌, ◌-◌, ◌*◌, ◌≤◌, ◌<◌}
use native.Mathlib.Omega.{arith}
use native.Mathlib.Nat.{zero-add, mul-le-mul_right, mul_comm}
use lib.Dec.{eqb, leb}
use lib.IntN.{ℤ, pos, ◌*ℤ◌}
use lib.Signed.{le_z, lt_z}
use borrow.Author.Tests.{leb-true, not-true, ne_eqb}
use Rattle.number.specs.Refusal.{given}
use Rattle.number.proofs.Sizes.{and_true, never}
use Rattle.settings.specs.Settings.{every, rate_point_at, rate_point_holds, rates_rise, anemometer_holds, checked}
use Rattle.settings.specs.declared.Settings.{Settings}
use Rattle.settings.specs.declared.RatePoint.{RatePoint}
use Rattle.settings.proofs.EveryLaws.{every_at}
use Rattle.certificate.specs.Line.{rises, stands, between, value_from, none_round}
use Rattle.certificate.specs.declared.Corner.{Corner}
use Rattle.certificate.proofs.OrderLaws.{up, down, at_most, above, up_times, down_times}
use Rattle.certificate.proofs.RisingLaws.{any_from, at_corner}
use Rattle.certificate.proofs.RisingLaws as rising-laws
use Rattle.certificate.proofs.RateLaws.{stretched, times_times, none_of_rate, value_of_rate}
use Rattle.certificate.proofs.SameLaws.{same_value, same_none}
use Rattle.block.proofs.OpenedLaws.{anemometer}
use Rattle.anemometer.specs.Anemometer.{Certificate, certificate_in, turns, corner, corners, turned, speed, outside}
use Rattle.anemometer.specs.declared.Note.{Note}

-- rates that rise do so times any seconds
rises_by : (x y : ℤ) (k : ℕ) → 0 < k → le_z y x ≡ false → le_z (y *ℤ pos k) (x *ℤ pos k) ≡ false
rises_by x y k some e = go (le_z (y *ℤ pos k) (x *ℤ pos k)) refl
  where
    go : (t : Bool) → le_z (y *ℤ pos k) (x *ℤ pos k) ≡ t → le_z (y *ℤ pos k) (x *ℤ pos k) ≡ false
    go true h =
        let low = at_most (y *ℤ pos k) (x *ℤ pos k) h in
        let far = mul-le-mul_right k (above y x e) in
        absurd (omega (arith, low, far, up_times x k, up_times y k, down_times x k, down_times y k))
    go false h = h

module _ (g : Settings) (good : checked g ≡ given tt) (some : 0 < g.anemometer.count) where
  abbrev points : ℕ
  points = g.anemometer.count

  abbrev point : ℕ → RatePoint
  point = rate_point_at g.anemometer.points

  -- the rules, since there are points
  rules : (leb 2 points && leb points 20 && every (λ (j : ℕ). rate_point_holds (point j)) 0 points
      && every (λ (j : ℕ). rates_rise (point j) (point (j + 1))) 0 (points - 1)) ≡ true
  unfolding anemometer_holds
  rules = let none : eqb points 0 ≡ false = ne_eqb points 0 (λ q. omega arith) in rw none at (anemometer g good)

  two : 2 ≤ points
  two =
      let c = (and_true (leb 2 points && leb points 20 && every (λ (j : ℕ). rate_point_holds (point j)) 0 points) _ rules).0 in
      leb-true 2 points (and_true (leb 2 points) _ (and_true (leb 2 points && leb points 20) _ c).0).0

  rising : (k : ℕ) → k < points - 1 → rates_rise (point k) (point (k + 1)) ≡ true
  rising k h =
      ap (λ (j : ℕ). rates_rise (point j) (point (j + 1))) (sym (zero-add k))
      ∙ every_at (λ (j : ℕ). rates_rise (point j) (point (j + 1))) 0 (points - 1) k
      (and_true (leb 2 points && leb points 20 && every (λ (j : ℕ). rate_point_holds (point j)) 0 points) _ rules).1 h

  module _ (n : Note) (time : 0 < n.seconds) where
    abbrev at : ℕ → Corner
    at = corners (certificate_in g) n

    corners_rise : (k : ℕ) → k < points - 1 → rises (at k) (at (k + 1)) ≡ true
    corners_rise k h =
        let p = (point k).rate.0.v in
        let q = (point (k + 1)).rate.0.v in
        let up-hill = (and_true (not (le_z q p)) _ (rising k h)).0 in
        ap not (rises_by p q n.seconds time (not-true (le_z q p) up-hill))

    -- Whichever neighbours stand round the rate give the speed.
    pub any_pair : (i : ℕ) → i + 1 < points → stands (at i) (at (i + 1)) (turned n) ≡ true → speed (certificate_in g) n ≡ between (at i) (at (i + 1)) (turned n)
    unfolding speed
    any_pair i h a = any_from at (points - 1) corners_rise (turned n) i 0 (points - 1) (omega arith) (omega arith) (omega arith) a

    -- "At a point, that point's speed; both ends belong to the certificate."
    pub at_point : (i : ℕ) → i < points → turned n ≡ (point i).rate.0.v *ℤ pos n.seconds
        → (outside (certificate_in g) n ≡ false) × (speed (certificate_in g) n ≡ (point i).speed.v)
    unfolding outside speed
    at_point i h e =
        let w = at_corner at (points - 1) corners_rise (omega (arith, two)) i (omega arith) in
        rw e w

    -- "rate outside the certificate": turns in these seconds below the first point's, or above the last's
    pub outside_exactly : let first = (point 0).rate.0.v *ℤ pos n.seconds in let last = (point (points - 1)).rate.0.v *ℤ pos n.seconds in
        (outside (certificate_in g) n ≡ true) ↔ ((lt_z (turned n) first ≡ true) ⊎ (lt_z last (turned n) ≡ true))
    unfolding outside
    outside_exactly = rising-laws.outside_exactly at (points - 1) corners_rise (omega (arith, two)) (turned n)

-- "or the store has none"
pub none_outside : (g : Settings) → g.anemometer.count ≡ 0 → (n : Note) → outside (certificate_in g) n ≡ true
unfolding outside none_round every
none_outside g e n = rw e

-- ---- "the exact rate"

module _ (c : Certificate) where
  -- one entry and another with as many times its turns and seconds
  times_corner : (n : Note) (k i : ℕ) → corner (n.seconds * k) (c.point i) ≡ stretched k (corners c n i)
  times_corner n k i = ap (λ (z : ℤ). record { reads = record { v = z }; gives = record { v = (c.point i).speed.v } }) (times_times (c.point i).rate.0.v n.seconds k)

  -- Two entries of the same rate have the same speed, and lie both outside or both not.
  pub rate_decides : (n m : Note) → 0 < n.seconds → 0 < m.seconds
      → turns n.first n.second * m.seconds ≡ turns m.first m.second * n.seconds
      → (speed c n ≡ speed c m) × (outside c n ≡ outside c m)
  unfolding speed outside
  rate_decides n m a b e = (
    sym (value_of_rate m.seconds b (corners c n) (turned n) (c.points - 1))
        ∙ same_value _ _ (turned n *ℤ pos m.seconds) c.points (λ i h. sym (times_corner n m.seconds i) ∙ swapped i ∙ times_corner m n.seconds i)
        ∙ ap (λ (x : ℤ). value_from (λ i. stretched n.seconds (corners c m i)) x 0 (c.points - 1)) (ap pos e)
        ∙ value_of_rate n.seconds a (corners c m) (turned m) (c.points - 1),
    sym (none_of_rate m.seconds b (corners c n) (turned n) (c.points - 1))
        ∙ same_none _ _ (turned n *ℤ pos m.seconds) c.points (λ i h. sym (times_corner n m.seconds i) ∙ swapped i ∙ times_corner m n.seconds i)
        ∙ ap (λ (x : ℤ). none_round (λ i. stretched n.seconds (corners c m i)) x (c.points - 1)) (ap pos e)
        ∙ none_of_rate n.seconds a (corners c m) (turned m) (c.points - 1),
  )
    where
      swapped : (i : ℕ) → corner (n.seconds * m.seconds) (c.point i) ≡ corner (m.seconds * n.seconds) (c.point i)
      swapped i = ap (λ (k : ℕ). corner k (c.point i)) (mul_comm n.seconds m.seconds)
