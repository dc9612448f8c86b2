-- A sheet says of a block's settings what the block says: its numbers fit 16 bits, so each comes back from its word. And so settings that
-- are read back open the same block. Assumes nothing.
use mathlib.Core.Path.{◌≡◌, refl, ap, ap₂, ◌∙◌}
use mathlib.Core.List.{List}
use Prim.Native.Nat.{ℕ, ◌+◌, ◌-◌, ◌*◌, ◌/◌, ◌%◌, ◌<◌}
use native.Mathlib.Omega.{arith}
use native.Mathlib.Nat.{zero-add}
use lib.Dec.{lit<}
use lib.IntN.{ℤ, nat_abs}
use lib.ListN.{get_or}
use borrow.Author.Tests.{eq-eqb, ne_eqb, lt-ltb, le-ltb}
use Rattle.number.specs.Refusal.{given}
use Rattle.number.proofs.Machine.{fits32}
use Rattle.octets.specs.Bytes.{signed32, word_of}
use Rattle.octets.proofs.WordLaws.{word_back}
use Rattle.quantity.specs.declared.BarometerUnit.{BarometerUnit}
use Rattle.quantity.specs.declared.BarometerUnit.TheVariants.{Hectopascals, Millimetres}
use Rattle.settings.specs.Settings.{nowhere, no_rate, point_at, rate_point_at, checked, SameSettings}
use Rattle.settings.specs.declared.Settings.{Settings}
use Rattle.settings.specs.declared.Point.{Point}
use Rattle.settings.specs.declared.RatePoint.{RatePoint}
use Rattle.cell.proofs.CellLaws.{unbiased_small}
use Rattle.block.specs.Words.{opened, unit_of, setting_of, points_of, point_of, rates_of, rate_of}
use Rattle.block.proofs.AlikeLaws.{same_opened}
use Rattle.block.proofs.ListedLaws.{get_or-listed}
use Rattle.block.proofs.SettingsLaws.{settings_back}
use Rattle.sheet.specs.Sheet.{POINTS, RATES, WORDS, unit_in, unit_number, number_at, point_in, rate_in, points_in, rates_in, settings_in, paired, points_word, rates_word, sheet_word, sheet_of}

-- ---- a number of a block, there and back

back : (z : ℤ) → nat_abs z < 98304 → signed32 (word_of z) ≡ z
back z h = word_back z (fits32 z (omega arith))

unit_back : (u : BarometerUnit) → unit_in (unit_number u) ≡ u
unit_back Hectopascals = refl
unit_back Millimetres = refl

-- the two figures of a point
pair_back : (count i : ℕ) (a b : ℤ) → i < count → nat_abs a < 98304 → nat_abs b < 98304
    → (signed32 (paired count (2 * i) a b) ≡ a) × (signed32 (paired count (2 * i + 1) a b) ≡ b)
pair_back count i a b h sa sb =
    let even : 2 * i / 2 ≡ i = omega arith in
    let odd : (2 * i + 1) / 2 ≡ i = omega arith in (
      rw (even, lt-ltb i count h, eq-eqb (2 * i % 2) 0 (omega arith)) (back a sa),
      rw (odd, lt-ltb i count h, ne_eqb ((2 * i + 1) % 2) 0 (λ q. omega arith)) (back b sb),
    )

-- ---- of any block whatever

module _ (s : List ℕ) where
  word : (k : ℕ) → k < WORDS → get_or (sheet_of s) k 0 ≡ sheet_word s k
  word k h = get_or-listed (sheet_word s) 0 0 WORDS k h ∙ ap (sheet_word s) (zero-add k)

  pub unit_read : unit_in (get_or (sheet_of s) 0 0) ≡ unit_of s
  unfolding sheet_word
  unit_read = ap unit_in (word 0 (lit< tt)) ∙ unit_back (unit_of s)

  pub number_read : (i : ℕ) → 0 < i → i < 5 → number_at (sheet_of s) i ≡ setting_of s i
  unfolding sheet_word
  number_read i h l =
      let is : sheet_word s i ≡ word_of (setting_of s i) = rw (ne_eqb i 0 (λ q. omega arith), lt-ltb i 5 l) in
      ap signed32 (word i (omega arith) ∙ is) ∙ back (setting_of s i) (unbiased_small (get_or s i 0))

  pub count_read : get_or (sheet_of s) 5 0 ≡ points_of s
  unfolding sheet_word
  count_read = word 5 (lit< tt)

  points_word_lem : (j : ℕ) → j < 32 → get_or (sheet_of s) (POINTS + j) 0 ≡ points_word s j
  unfolding sheet_word
  points_word_lem j h =
      let less : POINTS + j - POINTS ≡ j = omega arith in
      word (POINTS + j) (omega arith)
      ∙ rw (
        ne_eqb (POINTS + j) 0 (λ q. omega arith),
        le-ltb (POINTS + j) 5 (omega arith),
        ne_eqb (POINTS + j) 5 (λ q. omega arith),
        lt-ltb (POINTS + j) RATES (omega arith),
        less,
      )

  pub point_read : (i : ℕ) → i < points_of s → point_at (points_in (sheet_of s)) i ≡ point_of s i
  point_read i h =
      let b : i < 16 = omega arith in
      let p = point_of s i in
      let v = get_or s (POINTS + i) 0 in
      let back = pair_back (points_of s) i p.reading.v p.correction.0.v h (rw (lt-ltb i 16 b) (unbiased_small v)) (rw (lt-ltb i 16 b) (unbiased_small (v / 65536))) in
      let even : 2 * i / 2 ≡ i = omega arith in
      let odd : (2 * i + 1) / 2 ≡ i = omega arith in
      let places : POINTS + 2 * i + 1 ≡ POINTS + (2 * i + 1) = omega arith in
      get_or-listed (point_in (sheet_of s)) nowhere 0 16 i b
      ∙ ap (point_in (sheet_of s)) (zero-add i)
      ∙ ap₂ make
      (ap signed32 (points_word_lem (2 * i) (omega arith) ∙ ap (here (2 * i)) even) ∙ back.0)
      (ap (number_at (sheet_of s)) places ∙ ap signed32 (points_word_lem (2 * i + 1) (omega arith) ∙ ap (here (2 * i + 1)) odd) ∙ back.1)
    where
      here : ℕ → ℕ → ℕ
      here j k = paired (points_of s) j (point_of s k).reading.v (point_of s k).correction.0.v

      make : ℤ → ℤ → Point
      make x y = record { reading = record { v = x }; correction = record { 0 = record { v = y } } }

  pub rates_read : get_or (sheet_of s) RATES 0 ≡ rates_of s
  unfolding sheet_word
  rates_read = word RATES (lit< tt)

  rates_word_lem : (j : ℕ) → j < 40 → get_or (sheet_of s) (RATES + 1 + j) 0 ≡ rates_word s j
  unfolding sheet_word
  rates_word_lem j h =
      let less : RATES + 1 + j - (RATES + 1) ≡ j = omega arith in
      word (RATES + 1 + j) (omega arith)
      ∙ rw (
        ne_eqb (RATES + 1 + j) 0 (λ q. omega arith),
        le-ltb (RATES + 1 + j) 5 (omega arith),
        ne_eqb (RATES + 1 + j) 5 (λ q. omega arith),
        le-ltb (RATES + 1 + j) RATES (omega arith),
        ne_eqb (RATES + 1 + j) RATES (λ q. omega arith),
        less,
      )

  pub rate_read : (i : ℕ) → i < rates_of s → rate_point_at (rates_in (sheet_of s)) i ≡ rate_of s i
  rate_read i h =
      let b : i < 20 = omega arith in
      let p = rate_of s i in
      let v = get_or s (23 + i) 0 in
      let back = pair_back (rates_of s) i p.rate.0.v p.speed.v h (rw (lt-ltb i 20 b) (unbiased_small v)) (rw (lt-ltb i 20 b) (unbiased_small (v / 65536))) in
      let even : 2 * i / 2 ≡ i = omega arith in
      let odd : (2 * i + 1) / 2 ≡ i = omega arith in
      let places : RATES + 1 + 2 * i + 1 ≡ RATES + 1 + (2 * i + 1) = omega arith in
      get_or-listed (rate_in (sheet_of s)) no_rate 0 20 i b
      ∙ ap (rate_in (sheet_of s)) (zero-add i)
      ∙ ap₂ make
      (ap signed32 (rates_word_lem (2 * i) (omega arith) ∙ ap (here (2 * i)) even) ∙ back.0)
      (ap (number_at (sheet_of s)) places ∙ ap signed32 (rates_word_lem (2 * i + 1) (omega arith) ∙ ap (here (2 * i + 1)) odd) ∙ back.1)
    where
      here : ℕ → ℕ → ℕ
      here j k = paired (rates_of s) j (rate_of s k).rate.0.v (rate_of s k).speed.v

      make : ℤ → ℤ → RatePoint
      make x y = record { rate = record { 0 = record { v = x } }; speed = record { v = y } }

-- ---- of an opened one

pub read_same : (g : Settings) → checked g ≡ given tt → SameSettings (settings_in (sheet_of (opened g))) g
read_same g good =
    let s = opened g in
    let back = settings_back g good in
    record {
      unit = unit_read s ∙ back.unit;
      height = number_read s 1 (lit< tt) (lit< tt) ∙ back.height;
      difference = number_read s 2 (lit< tt) (lit< tt) ∙ back.difference;
      coefficient = number_read s 3 (lit< tt) (lit< tt) ∙ back.coefficient;
      psychrometer = number_read s 4 (lit< tt) (lit< tt) ∙ back.psychrometer;
      count = count_read s ∙ back.points;
      point = λ i h. let b = count_read s in point_read s i (omega (arith, b)) ∙ back.point i (omega (arith, b, back.points));
      rates = rates_read s ∙ back.rates;
      rate = λ i h. let b = rates_read s in rate_read s i (omega (arith, b)) ∙ back.rate i (omega (arith, b, back.rates));
    }

-- settings that are read back open the same block
pub reopened : (g : Settings) → checked g ≡ given tt → opened (settings_in (sheet_of (opened g))) ≡ opened g
reopened g good = same_opened (settings_in (sheet_of (opened g))) g (read_same g good)
