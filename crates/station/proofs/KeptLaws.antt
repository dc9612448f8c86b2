-- What is kept in a block is in the unit of its channel's kind and within its limits, whatever the block: a cell outside them counts as
-- absent. By the definition of what a cell says. Assumes nothing.
use mathlib.Core.Path.{◌≡◌, refl, ap, ◌∙◌}
use mathlib.Core.Bool.{Bool, true, false, ◌||◌, cond}
use mathlib.Core.List.{List}
use Prim.Native.Nat.{ℕ, ◌/◌, ◌%◌, ◌<◌}
use lib.Dec.{eqb, lit<}
use lib.IntN.{ℤ, pos}
use Rattle.number.proofs.Sizes.{and_true}
use Rattle.quantity.specs.Limits.{inside, degrees}
use Rattle.quantity.specs.declared.BarometerUnit.{BarometerUnit}
use Rattle.message.specs.Receive.{°C, m/s, kn, pressure}
use Rattle.cell.specs.Cells.{CHANNELS, unbiased, paired, second_in, entry_in, number_in, limits_of, sound_beside, Recall, recalled, is_present, first, in_degrees}
use Rattle.block.specs.Words.{unit_of}
use Rattle.store.specs.Block.{recall_of}
use Rattle.store.proofs.RecallLaws.{kept}
use Rattle.pressure.specs.Pressure.{in_unit, tenths_in}
use Rattle.pressure.proofs.PressureTheorems.{own_unit}
use Rattle.station.specs.Source.{in_celsius, in_metres_per_second, in_knots}

-- The number of a channel's first figure, in the unit that its formula asks for.
abbrev pub number_of : BarometerUnit → ℕ → Recall → ℤ
number_of u c x =
    cond (eqb c 0) (tenths_in u (first x))
    (cond (eqb c 2) (pos (in_metres_per_second x))
    (cond (eqb c 3) (pos (in_knots x))
    (in_celsius x)))

-- the number of a cell's first figure
module _ (u : BarometerUnit) (c m v : ℕ) where
  abbrev says : Bool → Bool → Bool → Recall
  says i j k =
      recalled (record {
        channel = c;
        minute = m;
        first = cond i (pressure u (pos (v % 65536))) (cond j (m/s (pos (v % 65536))) (cond k (kn (pos (v % 65536))) (°C (unbiased v))));
        second = second_in c v;
      })

  first_number : number_of u c (recalled (entry_in u c m v)) ≡ number_in c v
  first_number = go (eqb c 0) (eqb c 2) (eqb c 3)
    where
      go : (i j k : Bool)
          → cond i (tenths_in u (first (says i j k))) (cond j (pos (in_metres_per_second (says i j k))) (cond k (pos (in_knots (says i j k))) (in_celsius (says i j k))))
          ≡ cond (i || (j || k)) (pos (v % 65536)) (unbiased v)
      go true j k = (own_unit u (pos (v % 65536))).1
      go false true k = refl
      go false false true = refl
      go false false false = refl

module _ (s : List ℕ) (c m : ℕ) (low : c < CHANNELS) (there : is_present (recall_of s c m) ≡ true) where
  -- The first figure is within its limits.
  pub first_inside : inside (limits_of (unit_of s) c) (number_of (unit_of s) c (recall_of s c m)) ≡ true
  first_inside =
      let v = (kept s c m low there).cell in
      let is : number_of (unit_of s) c (recall_of s c m) ≡ number_in c v = ap (number_of (unit_of s) c) (kept s c m low there).is ∙ first_number (unit_of s) c m v in
      rw is (and_true (inside (limits_of (unit_of s) c) (number_in c v)) (sound_beside c v) (kept s c m low there).sound).0

  -- So is the second, where there is one.
  pub second_inside : paired c ≡ true → inside degrees (pos (in_degrees (recall_of s c m))) ≡ true
  second_inside two =
      let v = (kept s c m low there).cell in
      let is : in_degrees (recall_of s c m) ≡ v / 65536 % 65536 = ap in_degrees (kept s c m low there).is ∙ rw two in
      let other : sound_beside c v ≡ true = (and_true (inside (limits_of (unit_of s) c) (number_in c v)) _ (kept s c m low there).sound).1 in
      rw is (rw two at other)

-- What channel 0 keeps is in the unit of the block's barometer.
pub in_its_unit : (s : List ℕ) (m : ℕ) → is_present (recall_of s 0 m) ≡ true → in_unit (unit_of s) (first (recall_of s 0 m)) ≡ true
in_its_unit s m there =
    let k = kept s 0 m (lit< tt) there in
    ap (λ (x : Recall). in_unit (unit_of s) (first x)) k.is ∙ (own_unit (unit_of s) (pos (k.cell % 65536))).0
