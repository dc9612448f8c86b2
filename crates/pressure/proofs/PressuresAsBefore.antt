-- What the exact height correction changes of document 01's pressures: in hPa none, in mm Hg each by 0.1 hPa at most. The sum with the
-- exact correction lies within half a tenth of the sum with the rounded one, and it lies that half above it only where the correction is
-- a half below zero, to which no height within its limits comes in hPa. Assumes nothing.
use mathlib.Core.Path.{◌≡◌, refl, sym, ap, ◌∙◌}
use mathlib.Core.Bool.{Bool, true, false}
use Prim.Native.Nat.{ℕ, zero, suc, ◌+◌, ◌-◌, ◌*◌, ◌≤◌, ◌<◌, zero-le}
use native.Mathlib.Omega.{arith}
use native.Mathlib.Decide.{dec_lt}
use native.Mathlib.Nat.{le_trans, le_of_eq}
use lib.Dec.{ltb, lit<}
use lib.IntN.{ℤ, pos, negsuc, neg_ℤ, nat_abs, ◌+ℤ◌, ◌-ℤ◌, ◌*ℤ◌}
use borrow.Author.Tests.{le-ltb}
use Rattle.number.specs.Refusal.{given}
use Rattle.number.specs.Round.{nearest, rounded}
use Rattle.number.proofs.Sizes.{impossible}
use Rattle.number.proofs.RoundLaws.{nearest_is, nearest_only, nearest_whole}
use Rattle.quantity.specs.Limits.{inside, pressure_limits, wheelhouse}
use Rattle.quantity.specs.declared.BarometerUnit.{BarometerUnit}
use Rattle.quantity.specs.declared.BarometerUnit.TheVariants.{Hectopascals, Millimetres}
use Rattle.settings.specs.Settings.{checked}
use Rattle.settings.specs.declared.Settings.{Settings}
use Rattle.certificate.proofs.OrderLaws.{down, down_neg, down_times}
use Rattle.pressure.specs.Pressure.{barometer_in, scale, temperature, per_metre, height, to_hectopascals, rounded_once, sea_level}
use Rattle.pressure.specs.Before.{sea_level_before}
use Rattle.pressure.proofs.NearLaws.{Among, fewest, most, near}
use Rattle.pressure.proofs.PressureTheorems.{sizes, by_height, tenths_among}

-- ---- n tenths and x ten-thousandths: their sum, and the sum with x rounded to tenths

less : (n q : ℕ) → q ≤ n → pos n +ℤ neg_ℤ (pos q) ≡ pos (n - q)
less n zero h = ap pos (omega arith)
less n (suc q) h = rw (le-ltb n (suc q) h)

record Sums (n : ℕ) (x : ℤ) : Type 0 where
  exact : ℕ
  exact_is : pos (n * 1000) +ℤ x ≡ pos exact
  tenths : ℕ
  tenths_is : pos n +ℤ rounded x 1000 ≡ pos tenths
  from : tenths * 1000 ≤ exact + 500
  to : exact ≤ tenths * 1000 + 500
  half : exact ≡ tenths * 1000 + 500 → (k : ℕ) × (x ≡ neg_ℤ (pos (k * 1000 + 500)))

sums : (n : ℕ) (x : ℤ) → nat_abs x + 1000 ≤ n * 1000 → Sums n x
unfolding rounded
sums n (pos m) h =
    let q = nearest_is m 1000 (lit< tt) in
    record {
      exact = n * 1000 + m;
      exact_is = refl;
      tenths = n + nearest m 1000;
      tenths_is = refl;
      from = omega (arith, q.0);
      to = omega (arith, q.1);
      half = λ e. absurd (omega (arith, q.1, e));
    }
sums n (negsuc k) h =
    let q = nearest_is (suc k) 1000 (lit< tt) in
    record {
      exact = n * 1000 - suc k;
      exact_is = less (n * 1000) (suc k) (omega arith);
      tenths = n - nearest (suc k) 1000;
      tenths_is = less n (nearest (suc k) 1000) (omega (arith, q.0));
      from = omega (arith, q.0, q.1);
      to = omega (arith, q.0, q.1);
      half = λ e.
          let s : suc k ≡ (nearest (suc k) 1000 - 1) * 1000 + 500 = omega (arith, q.0, e) in
          (nearest (suc k) 1000 - 1, ap (λ (z : ℕ). neg_ℤ (pos z)) s);
    }

-- ---- in hPa no height comes to a half below zero: 133 times 1 to 300 never ends in 500

down_sum : (a : ℕ) (d : ℤ) → down (pos a +ℤ d) ≤ nat_abs d
unfolding down
down_sum a (pos b) = zero-le
down_sum a (negsuc b) = go (ltb a (suc b)) refl
  where
    go : (t : Bool) → ltb a (suc b) ≡ t → down (pos a +ℤ negsuc b) ≤ suc b
    go true e = rw e (omega arith)
    go false e = rw e zero-le

no_half : (h d : ℤ) → pos (nat_abs h) ≡ h → nat_abs d ≤ 300 → (k : ℕ) → height Hectopascals h d ≡ neg_ℤ (pos (k * 1000 + 500)) → ⊥
unfolding height
no_half h d above far k e =
    let deep = le_trans (le_of_eq (ap (λ (z : ℤ). down (z +ℤ d)) (sym above))) (down_sum (nat_abs h) d) in
    let same : down (h +ℤ d) * 133 ≡ k * 1000 + 500 = sym (down_times (h +ℤ d) 133) ∙ ap down e ∙ down_neg (k * 1000 + 500) in
    go (down (h +ℤ d)) (le_trans deep far) same (dec_lt (797 * k + 398) (106 * down (h +ℤ d)))
  where
    -- 797 times 133 is 1 more than 106 thousands
    go : (n : ℕ) → n ≤ 300 → n * 133 ≡ k * 1000 + 500 → Dec (797 * k + 398 < 106 * n) → ⊥
    go n l e (yes m) = omega arith
    go n l e (no m) = omega arith

-- ---- the two roundings

to_tenths : (e q : ℕ) → q * 1000 ≤ e + 500 → e < q * 1000 + 500 → rounded_once Hectopascals (pos e) ≡ pos q
unfolding rounded
to_tenths e q f t = ap pos (nearest_only (e * 10000) 10000000 q (omega arith) (omega arith))

a_tenth_apart : (u : BarometerUnit) (e q : ℕ) → q * 1000 ≤ e + 500 → e ≤ q * 1000 + 500 → nat_abs (rounded_once u (pos e) -ℤ to_hectopascals u (pos q)) ≤ 1
unfolding rounded
a_tenth_apart Hectopascals e q f t =
    let n = nearest_is (e * 10000) 10000000 (lit< tt) in
    near (nearest (e * 10000) 10000000) q 1 (omega (arith, n.0)) (omega (arith, n.1))
a_tenth_apart Millimetres e q f t =
    let n = nearest_is (e * 13332) 10000000 (lit< tt) in
    let m = nearest_is (q * 13332) 10000 (lit< tt) in
    rw (nearest_whole 13332 10000 (lit< tt))
    (near (nearest (e * 13332) 10000000) (nearest (q * 13332) 10000) 1 (omega (arith, n.0, m.1)) (omega (arith, n.1, m.0)))

-- ---- settings that a store opens with

module _ (g : Settings) (good : checked g ≡ given tt) (r t : ℤ) (i : inside (pressure_limits g.unit) r ≡ true) (j : inside wheelhouse t ≡ true) where
  high : ℤ
  high = height g.unit g.height.0.v g.difference.0.v

  low : Among (fewest g.unit) (most g.unit) (r +ℤ scale (barometer_in g) r +ℤ temperature g.coefficient.0.v t)
  low = tenths_among g good r t i j

  both : Sums low.figure high
  unfolding high
  both = sums low.figure high (room g.unit high low.figure (by_height g good) low.from)
    where
      room : (u : BarometerUnit) (x : ℤ) (n : ℕ) → nat_abs x ≤ 900 * per_metre u → fewest u ≤ n → nat_abs x + 1000 ≤ n * 1000
      room Hectopascals x n h l = omega arith
      room Millimetres x n h l = omega arith

  now_is : sea_level (barometer_in g) r t ≡ rounded_once g.unit (pos both.exact)
  unfolding sea_level high
  now_is = ap (rounded_once g.unit) (ap (λ (z : ℤ). z *ℤ pos 1000 +ℤ high) low.is ∙ both.exact_is)

  before_is : sea_level_before (barometer_in g) r t ≡ to_hectopascals g.unit (pos both.tenths)
  unfolding sea_level_before high
  before_is = ap (to_hectopascals g.unit) (ap (λ (z : ℤ). z +ℤ rounded high 1000) low.is ∙ both.tenths_is)

  -- In hPa every pressure is document 01's.
  pub hectopascals_as_before : g.unit ≡ Hectopascals → sea_level (barometer_in g) r t ≡ sea_level_before (barometer_in g) r t
  unfolding high
  hectopascals_as_before h = now_is ∙ go g.unit h (dec_lt both.exact (both.tenths * 1000 + 500)) ∙ sym before_is
    where
      on_no_half : (k : ℕ) → high ≡ neg_ℤ (pos (k * 1000 + 500)) → ⊥
      on_no_half k e =
          no_half g.height.0.v g.difference.0.v (sizes g good).above (sizes g good).far k
          (ap (λ (u : BarometerUnit). height u g.height.0.v g.difference.0.v) (sym h) ∙ e)

      go : (u : BarometerUnit) → u ≡ Hectopascals → Dec (both.exact < both.tenths * 1000 + 500)
          → rounded_once u (pos both.exact) ≡ to_hectopascals u (pos both.tenths)
      go Hectopascals e (yes l) = to_tenths both.exact both.tenths both.from l
      go Hectopascals e (no l) =
          let k = both.half (omega (arith, both.to)) in
          absurd (on_no_half k.0 k.1)
      go Millimetres e l = impossible (cc)

  -- In either unit it differs from that by a tenth at most.
  pub a_tenth_from_before : nat_abs (sea_level (barometer_in g) r t -ℤ sea_level_before (barometer_in g) r t) ≤ 1
  a_tenth_from_before = rw (now_is, before_is) (a_tenth_apart g.unit both.exact both.tenths both.from both.to)
