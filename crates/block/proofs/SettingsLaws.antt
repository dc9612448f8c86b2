-- The settings are read back as the store was opened with them: each lies within its limits, so it fits 16 bits. Assumes nothing.
use mathlib.Core.Path.{◌≡◌, refl, sym, ap, ◌∙◌}
use mathlib.Core.Bool.{Bool, true, false, ◌&&◌}
use mathlib.Core.List.{List}
use Prim.Native.Nat.{ℕ, ◌+◌, ◌-◌, ◌*◌, ◌/◌, ◌%◌, ◌≤◌, ◌<◌, min}
use native.Mathlib.Omega.{arith}
use native.Mathlib.Nat.{zero-add}
use lib.Dec.{eqb, leb, lit≤, lit<}
use lib.IntN.{ℤ, pos, neg_ℤ, nat_abs, ◌-ℤ◌}
use borrow.Author.Tests.{lt-ltb, le-ltb, ne_eqb, not-false}
use Rattle.number.specs.Refusal.{given}
use Rattle.settings.proofs.RefusalsInOrder.{settings_good}
use Rattle.number.proofs.Sizes.{within_size, and_true, fails}
use Rattle.quantity.specs.Limits.{Limits, inside, pressure_limits, metres_per_second}
use Rattle.settings.specs.Settings.{height, difference, coefficient, psychrometer, correction, point_at, point_holds, certificate_holds, rate, rate_point_at, rate_point_holds, anemometer_holds, others_hold, checked}
use Rattle.settings.proofs.EveryLaws.{every_at}
use Rattle.quantity.specs.declared.BarometerUnit.{BarometerUnit}
use Rattle.settings.specs.declared.Settings.{Settings}
use Rattle.settings.specs.declared.Point.{Point}
use Rattle.settings.specs.declared.RatePoint.{RatePoint}
use Rattle.message.proofs.Keep.{pressure_size}
use Rattle.cell.specs.Cells.{biased, unbiased}
use Rattle.block.specs.Layout.{RATES, SETTINGS}
use Rattle.block.specs.Words.{point_word, rate_word, setting_word, opened_word, opened, unit_of, setting_of, points_of, point_in, point_of, rates_of, rate_in, rate_of}
use Rattle.cell.proofs.CellLaws.{biased_lt, unbiased_back}
use Rattle.block.proofs.OpenedLaws.{word_at, opened_unit, certificate, few, anemometer, few_rates}

plain : (z : ℤ) → nat_abs z < 32768 → unbiased (biased z) ≡ z
plain z h = let b = biased_lt z h in let e : biased z ≡ biased z % 65536 + 65536 * 0 = omega arith in ap unbiased e ∙ unbiased_back z 0 h

within_16 : (l : Limits) (z : ℤ) (k : ℕ) → k < 32768 → nat_abs l.low ≤ k → nat_abs l.high ≤ k → inside l z ≡ true → unbiased (biased z) ≡ z
within_16 l z k small lo hi i = plain z (omega (arith, within_size l.low l.high z k lo hi i))

-- ---- points

both_halves : (a b : ℕ) → a < 65536 → b < 65536 → ((a + 65536 * b) % 65536 ≡ a) × ((a + 65536 * b) / 65536 ≡ b)
both_halves a b h k = (omega arith, omega arith)

-- two numbers in a word
word_back : (x y : ℤ) → nat_abs x < 32768 → nat_abs y < 32768
    → (unbiased (biased x + 65536 * biased y) ≡ x) × (unbiased ((biased x + 65536 * biased y) / 65536) ≡ y)
word_back x y h k =
    let halves = both_halves (biased x) (biased y) (biased_lt x h) (biased_lt y k) in
    (ap (λ (n : ℕ). pos n -ℤ pos 32768) (halves.0 ∙ small (biased x) (biased_lt x h)) ∙ plain x h, ap unbiased halves.1 ∙ plain y k)
  where
    small : (n : ℕ) → n < 65536 → n ≡ n % 65536
    small n h = omega arith

point_back : (u : BarometerUnit) (p : Point) → point_holds u p ≡ true → point_in (point_word p) ≡ p
point_back u p e =
    let r = p.reading.v in
    let c = p.correction.0.v in
    let i = and_true (inside (pressure_limits u) r) (inside correction c) e in
    let rs : nat_abs r < 32768 = pressure_size u r i.0 in
    let cs : nat_abs c < 32768 = omega (arith, within_size (neg_ℤ (pos 50)) (pos 50) c 50 (lit≤ tt) (lit≤ tt) i.1) in
    let back = word_back r c rs cs in
    ap (λ (z : ℤ). make z (unbiased (point_word p / 65536))) back.0 ∙ ap (make r) back.1
  where
    make : ℤ → ℤ → Point
    make x y = record { reading = record { v = x }; correction = record { 0 = record { v = y } } }

rate_back : (p : RatePoint) → rate_point_holds p ≡ true → rate_in (rate_word p) ≡ p
rate_back p e =
    let r = p.rate.0.v in
    let v = p.speed.v in
    let i = and_true (inside rate r) (inside metres_per_second v) e in
    let rs : nat_abs r < 32768 = omega (arith, within_size (pos 0) (pos 9999) r 9999 (lit≤ tt) (lit≤ tt) i.0) in
    let vs : nat_abs v < 32768 = omega (arith, within_size (pos 0) (pos 750) v 750 (lit≤ tt) (lit≤ tt) i.1) in
    let back = word_back r v rs vs in
    ap (λ (z : ℤ). make z (unbiased (rate_word p / 65536))) back.0 ∙ ap (make r) back.1
  where
    make : ℤ → ℤ → RatePoint
    make x y = record { rate = record { 0 = record { v = x } }; speed = record { v = y } }

-- ---- all of them

-- What a block says of the settings is what they are.
pub record ReadBack (g : Settings) (s : List ℕ) : Type 0 where
  pub unit : unit_of s ≡ g.unit
  pub height : setting_of s 1 ≡ g.height.0.v
  pub difference : setting_of s 2 ≡ g.difference.0.v
  pub coefficient : setting_of s 3 ≡ g.coefficient.0.v
  pub psychrometer : setting_of s 4 ≡ g.psychrometer.0.v
  pub points : points_of s ≡ g.count
  pub point : (i : ℕ) → i < g.count → point_of s i ≡ point_at g.points i
  pub rates : rates_of s ≡ g.anemometer.count
  pub rate : (i : ℕ) → i < g.anemometer.count → rate_of s i ≡ rate_point_at g.anemometer.points i

third : (a b c d : Bool) → (a && b && c && d) ≡ true → c ≡ true
third a b c d e = (and_true (a && b) c (and_true (a && b && c) d e).0).1

module _ (g : Settings) (good : checked g ≡ given tt) where
  pub others : others_hold g.height.0.v g.difference.0.v g.coefficient.0.v g.psychrometer.0.v ≡ true
  others = not-false _ (fails _ (λ h. (settings_good g).0 good 9 (0, (h, refl))))

  pub each : (i : ℕ) → i < g.count → point_holds g.unit (point_at g.points i) ≡ true
  unfolding certificate_holds
  each i h =
      ap (λ (k : ℕ). point_holds g.unit (point_at g.points k)) (sym (zero-add i))
      ∙ every_at (λ (k : ℕ). point_holds g.unit (point_at g.points k)) 0 g.count i (third (leb 2 g.count) (leb g.count 16) _ _ (certificate g good)) h

  pub each_rate : (i : ℕ) → i < g.anemometer.count → rate_point_holds (rate_point_at g.anemometer.points i) ≡ true
  unfolding anemometer_holds
  each_rate i h =
      let none : eqb g.anemometer.count 0 ≡ false = ne_eqb g.anemometer.count 0 (λ q. omega arith) in
      ap (λ (k : ℕ). rate_point_holds (rate_point_at g.anemometer.points k)) (sym (zero-add i))
      ∙ every_at (λ (k : ℕ). rate_point_holds (rate_point_at g.anemometer.points k)) 0 g.anemometer.count i
      (third (leb 2 g.anemometer.count) (leb g.anemometer.count 20) _ _ (rw none at (anemometer g good))) h

  -- A store that was opened says of its settings what they are.
  pub settings_back : ReadBack g (opened g)
  unfolding setting_word others_hold
  settings_back =
      let h = g.height.0.v in
      let d = g.difference.0.v in
      let k = g.coefficient.0.v in
      let a = g.psychrometer.0.v in
      let i = and_true (inside height h && inside difference d && inside coefficient k) (inside psychrometer a) others in
      let j = and_true (inside height h && inside difference d) (inside coefficient k) i.0 in
      let l = and_true (inside height h) (inside difference d) j.0 in
      record {
        unit = opened_unit g;
        height = ap unbiased (word_at g 1 (lit< tt)) ∙ within_16 height h 600 (lit< tt) (lit≤ tt) (lit≤ tt) l.0;
        difference = ap unbiased (word_at g 2 (lit< tt)) ∙ within_16 difference d 300 (lit< tt) (lit≤ tt) (lit≤ tt) l.1;
        coefficient = ap unbiased (word_at g 3 (lit< tt)) ∙ within_16 coefficient k 50 (lit< tt) (lit≤ tt) (lit≤ tt) j.1;
        psychrometer = ap unbiased (word_at g 4 (lit< tt)) ∙ within_16 psychrometer a 1000 (lit< tt) (lit≤ tt) (lit≤ tt) i.1;
        points = ap (λ (n : ℕ). min n 16) (word_at g 5 (lit< tt)) ∙ least g.count (few g good);
        point = λ n b. rw (lt-ltb n 16 (omega (arith, few g good))) (ap point_in (word_at g (6 + n) (omega (arith, few g good)) ∙ at n b) ∙ point_back g.unit (point_at g.points n) (each n b));
        rates = ap (λ (n : ℕ). min n 20) (word_at g RATES (lit< tt)) ∙ fewest g.anemometer.count (few_rates g good);
        rate = λ n b. rw (lt-ltb n 20 (omega (arith, few_rates g good))) (ap rate_in (word_at g (RATES + 1 + n) (omega (arith, few_rates g good)) ∙ at_rate n b) ∙ rate_back (rate_point_at g.anemometer.points n) (each_rate n b));
      }
    where
      fewest : (n : ℕ) → n ≤ 20 → min n 20 ≡ n
      fewest n h = omega arith

      behind : (n : ℕ) → RATES + 1 + n - (RATES + 1) ≡ n
      behind n = omega arith

      at_rate : (n : ℕ) → n < g.anemometer.count → opened_word g (RATES + 1 + n) ≡ rate_word (rate_point_at g.anemometer.points n)
      at_rate n b =
          rw (
            lt-ltb (RATES + 1 + n) SETTINGS (omega (arith, few_rates g good)),
            ne_eqb (RATES + 1 + n) 0 (λ q. omega arith),
            ne_eqb (RATES + 1 + n) 1 (λ q. omega arith),
            ne_eqb (RATES + 1 + n) 2 (λ q. omega arith),
            ne_eqb (RATES + 1 + n) 3 (λ q. omega arith),
            ne_eqb (RATES + 1 + n) 4 (λ q. omega arith),
            ne_eqb (RATES + 1 + n) 5 (λ q. omega arith),
            le-ltb (RATES + 1 + n) RATES (omega arith),
            ne_eqb (RATES + 1 + n) RATES (λ q. omega arith),
            behind n,
            lt-ltb n g.anemometer.count b,
          )

      least : (n : ℕ) → n ≤ 16 → min n 16 ≡ n
      least n h = omega arith

      less : (n : ℕ) → 6 + n - 6 ≡ n
      less n = omega arith

      at : (n : ℕ) → n < g.count → opened_word g (6 + n) ≡ point_word (point_at g.points n)
      at n b =
          rw (
            lt-ltb (6 + n) SETTINGS (omega (arith, few g good)),
            ne_eqb (6 + n) 0 (λ q. omega arith),
            ne_eqb (6 + n) 1 (λ q. omega arith),
            ne_eqb (6 + n) 2 (λ q. omega arith),
            ne_eqb (6 + n) 3 (λ q. omega arith),
            ne_eqb (6 + n) 4 (λ q. omega arith),
            ne_eqb (6 + n) 5 (λ q. omega arith),
            lt-ltb (6 + n) RATES (omega (arith, few g good)),
            less n,
            lt-ltb n g.count b,
          )
