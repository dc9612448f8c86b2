-- A reading that was kept in a cell is read back: its figures lie within their limits, so each fits its half. Assumes nothing.
use mathlib.Core.Path.{◌≡◌, refl, sym, ap, ap₂, ◌∙◌, subst}
use mathlib.Core.Bool.{true, false, not, ◌&&◌}
use mathlib.Core.List.{List}
use Prim.Native.Nat.{ℕ, suc, ◌+◌, ◌*◌, ◌/◌, ◌%◌, ◌≤◌, ◌<◌}
use native.Mathlib.Omega.{arith}
use native.Mathlib.Nat.{mod-lt}
use lib.Dec.{lit<}
use lib.IntN.{ℤ, pos, negsuc, nat_abs, ◌+ℤ◌, ◌-ℤ◌, +ℤ-neg_ℤ_cancel}
use borrow.Author.Tests.{le-ltb, le-leb, not-false}
use Rattle.number.specs.Refusal.{given}
use Rattle.number.specs.Whole.{within}
use Rattle.number.proofs.Sizes.{size_sub, never, within_size, natural, and_true}
use Rattle.quantity.specs.Limits.{Limits, inside, pressure_limits, hectopascals, millimetres, wheelhouse, bulb, metres_per_second, knots, degrees}
use Rattle.quantity.specs.Convert.{kept_direction}
use Rattle.quantity.specs.declared.BarometerUnit.{BarometerUnit}
use Rattle.quantity.specs.declared.BarometerUnit.TheVariants.{Hectopascals, Millimetres}
use Rattle.quantity.specs.States.{state_number, is_state, state_of}
use Rattle.quantity.specs.declared.BulbState.{BulbState}
use Rattle.quantity.specs.declared.BulbState.TheVariants.{Water, Ice, Unknown}
use Rattle.wire.specs.Bytes.{minute}
use Rattle.wire.specs.Decode.{message}
use Rattle.message.specs.Value.{tenths}
use Rattle.message.specs.Value as value
use Rattle.message.specs.Receive.{Figure, hPa, mmHg, °C, m/s, kn, deg, wick, none, Entry, entry, outside, compass, pressure, received}
use Rattle.wire.specs.declared.Message.{Message}
use Rattle.wire.specs.declared.Message.TheVariants.{Barometer, Wheelhouse, ApparentWind, ShipMotion, DryBulb, WetBulb}
use Rattle.cell.specs.Cells.{CHANNELS, biased, unbiased, cell_of, entry_in, sound_in}
use Rattle.cell.proofs.ReceivedLaws.{received_is, received_inside}

-- ---- the halves

low_half : (a b : ℕ) → a < 65536 → (a % 65536 + 65536 * b) % 65536 ≡ a
low_half a b h = omega arith

high_half : (a b : ℕ) → b < 65536 → (a % 65536 + 65536 * (b % 65536)) / 65536 % 65536 ≡ b
high_half a b h = omega arith

-- ---- numbers with a sign

above : (z : ℤ) → nat_abs z ≤ 32768 → pos (biased z) ≡ z +ℤ pos 32768
above (pos n) h = refl
above (negsuc n) h = rw (le-ltb 32768 (suc n) h)

pub biased_lt : (z : ℤ) → nat_abs z < 32768 → biased z < 65536
biased_lt (pos n) h = omega arith
biased_lt (negsuc n) h = rw (le-ltb 32768 (suc n) (omega arith)) (omega arith)

-- any number in 16 bits is small
pub unbiased_small : (n : ℕ) → nat_abs (unbiased n) < 98304
unbiased_small n = let m : n % 65536 < 65536 = mod-lt n (lit< tt) in omega (arith, size_sub (pos (n % 65536)) (pos 32768))

-- back from the half of a cell
pub unbiased_back : (z : ℤ) (b : ℕ) → nat_abs z < 32768 → unbiased (biased z % 65536 + 65536 * b) ≡ z
unbiased_back z b h =
    ap (λ (n : ℕ). pos n -ℤ pos 32768) (low_half (biased z) b (biased_lt z h))
    ∙ ap (λ (y : ℤ). y -ℤ pos 32768) (above z (omega arith))
    ∙ +ℤ-neg_ℤ_cancel z (pos 32768)

-- a direction as it is kept
direction : (a : ℤ) → inside degrees a ≡ true → (pos (nat_abs (compass a)) ≡ compass a) × (nat_abs (compass a) < 360)
direction (pos n) h = (refl, mod-lt n (lit< tt))
direction (negsuc n) h = never h

direction_back : (a : ℤ) (n : ℕ) → inside degrees a ≡ true
    → pos ((n % 65536 + 65536 * (nat_abs (compass a) % 65536)) / 65536 % 65536) ≡ compass a
direction_back a n i =
    let d = direction a i in ap pos (high_half n (nat_abs (compass a)) (omega (arith, d.1))) ∙ d.0

direction_inside : (a : ℤ) → inside degrees a ≡ true → inside degrees (compass a) ≡ true
direction_inside (pos n) i = rw (le-leb 0 (n % 360) (omega arith), le-leb (n % 360) 360 (omega arith))
direction_inside (negsuc n) i = i

-- ---- a first figure

-- limits that fit a half
abbrev Small : Limits → Type 0
Small l = (nat_abs l.low < 32768) × (nat_abs l.high < 32768)

module _ (l : Limits) (small : Small l) (z : ℤ) (i : inside l z ≡ true) where
  fits : nat_abs z < 32768
  fits = omega (arith, within_size l.low l.high z 32767 (omega (arith, small.0)) (omega (arith, small.1)) i)

  signed_back : (b : ℕ) → unbiased (biased z % 65536 + 65536 * b) ≡ z
  signed_back b = unbiased_back z b fits

  -- kept as its size, where it has no sign
  size_back : {low : ℕ} → l.low ≡ pos low → (b : ℕ) → pos ((nat_abs z % 65536 + 65536 * b) % 65536) ≡ z
  size_back {low} from b =
      ap pos (low_half (nat_abs z) b (omega (arith, fits)))
      ∙ natural low l.high z (ap (λ (x : ℤ). within x l.high z) (sym from) ∙ i)

-- ---- each kind, by the channel, the limits of its first figure and the unit of that figure

-- What was received is read back from its cell, and lies within its limits there.
pub record Back (u : BarometerUnit) (e : Entry) : Type 0 where
  pub sound : sound_in u e.channel (cell_of e) ≡ true
  pub same : entry_in u e.channel e.minute (cell_of e) ≡ e

-- one figure
abbrev one : ℕ → ℕ → (ℤ → Figure) → ℤ → Entry
one c t unit z = record { channel = c; minute = t; first = unit z; second = none }

-- a speed and a direction, and their cell
abbrev pair : ℕ → ℕ → (ℤ → Figure) → ℤ → ℤ → Entry
pair c t unit z d = record { channel = c; minute = t; first = unit z; second = deg d }

abbrev pair_cell : ℤ → ℤ → ℕ
pair_cell z d = nat_abs z % 65536 + 65536 * (nat_abs d % 65536)

module _ (u : BarometerUnit) (c t : ℕ) (l : Limits) (unit : ℤ → Figure) where
  -- y as it is read back
  one_back : {y z : ℤ} → y ≡ z → inside l z ≡ true
      → sound_in u c (cell_of (one c t unit z)) ≡ (inside l y && true) → entry_in u c t (cell_of (one c t unit z)) ≡ one c t unit y
      → Back u (one c t unit z)
  one_back e i s q = record { sound = s ∙ rw (e, i); same = q ∙ ap (one c t unit) e }

  pair_back : Small l → l.low ≡ pos 0 → (z a : ℤ) → not (inside l z && inside degrees a) ≡ false
      → sound_in u c (cell_of (pair c t unit z (compass a)))
      ≡ (inside l (pos (pair_cell z (compass a) % 65536)) && inside degrees (pos (pair_cell z (compass a) / 65536 % 65536)))
      → entry_in u c t (cell_of (pair c t unit z (compass a)))
      ≡ pair c t unit (pos (pair_cell z (compass a) % 65536)) (pos (pair_cell z (compass a) / 65536 % 65536))
      → Back u (pair c t unit z (compass a))
  pair_back small from z a o s q =
      let ij = and_true (inside l z) (inside degrees a) (not-false (inside l z && inside degrees a) o) in
      let speed = size_back l small z ij.0 from (nat_abs (compass a) % 65536) in
      let angle = direction_back a (nat_abs z) ij.1 in
      record {
        sound = s ∙ ap₂ (λ (v w : ℤ). inside l v && inside degrees w) speed angle ∙ ap₂ ◌&&◌ ij.0 (direction_inside a ij.1);
        same = q ∙ ap₂ (pair c t unit) speed angle;
      }

barometer_back : (u : BarometerUnit) (t : ℕ) (z : ℤ) → inside (pressure_limits u) z ≡ true → Back u (one 0 t (pressure u) z)
barometer_back Hectopascals t z i = one_back Hectopascals 0 t hectopascals hPa (size_back hectopascals (lit< tt, lit< tt) z i refl 0) i refl refl
barometer_back Millimetres t z i = one_back Millimetres 0 t millimetres mmHg (size_back millimetres (lit< tt, lit< tt) z i refl 0) i refl refl

-- a temperature, and the state beside it by its number
abbrev wet : ℕ → BulbState → ℤ → Entry
wet t s z = record { channel = 5; minute = t; first = °C z; second = wick s }

state_half : (a n : ℕ) → n < 65536 → (a % 65536 + 65536 * n) / 65536 % 65536 ≡ n
state_half a n h = omega arith

state_back : (s : BulbState) → (state_number s < 65536) × (is_state (state_number s) ≡ true) × (state_of (state_number s) ≡ s)
state_back Water = (lit< tt, refl, refl)
state_back Ice = (lit< tt, refl, refl)
state_back Unknown = (lit< tt, refl, refl)

wet_back : (u : BarometerUnit) (t : ℕ) (s : BulbState) (z : ℤ) → inside bulb z ≡ true → Back u (wet t s z)
wet_back u t s z i =
    let back = state_back s in
    let first = signed_back bulb (lit< tt, lit< tt) z i (state_number s) in
    let half = state_half (biased z) (state_number s) back.0 in
    record { sound = rw (first, i, half, back.1); same = rw (first, half, back.2) }

kind_back : (u : BarometerUnit) (t : ℕ) (k : Message) → outside u k ≡ false → Back u (entry u t k) × ((entry u t k).channel < CHANNELS)
kind_back u t (Barometer x) o = (barometer_back u t (tenths x) (not-false (inside (pressure_limits u) (tenths x)) o), lit< tt)
kind_back u t (Wheelhouse x) o =
    let i = not-false (inside wheelhouse (tenths x)) o in
    (one_back u 1 t wheelhouse °C (signed_back wheelhouse (lit< tt, lit< tt) (tenths x) i 0) i refl refl, lit< tt)
kind_back u t (ApparentWind p) o =
    (pair_back u 2 t metres_per_second m/s (lit< tt, lit< tt) refl (tenths p.speed) (value.degrees p.angle) o refl refl, lit< tt)
kind_back u t (ShipMotion p) o =
    (pair_back u 3 t knots kn (lit< tt, lit< tt) refl (tenths p.speed) (value.degrees p.angle) o refl refl, lit< tt)
kind_back u t (DryBulb x) o =
    let i = not-false (inside bulb (tenths x)) o in
    (one_back u 4 t bulb °C (signed_back bulb (lit< tt, lit< tt) (tenths x) i 0) i refl refl, lit< tt)
kind_back u t (WetBulb s x) o = (wet_back u t s (tenths x) (not-false (inside bulb (tenths x)) o), lit< tt)

pub received_back : (u : BarometerUnit) (m : List ℕ) (e : Entry) → received u m ≡ given e → Back u e × (e.channel < CHANNELS)
received_back u m e r =
    subst (λ (z : Entry). Back u z × (z.channel < CHANNELS)) (received_is u m e r)
    (kind_back u (minute m) (message m) (received_inside u m e r))

-- An apparent wind that was worked out, its direction as it is kept, is read back too.
pub wind_back : (u : BarometerUnit) (t : ℕ) (z : ℤ) (n : ℕ) → inside metres_per_second z ≡ true → n ≤ 360 → Back u (pair 2 t m/s z (pos (kept_direction n)))
wind_back u t z n i h =
    pair_back u 2 t metres_per_second m/s (lit< tt, lit< tt) refl z (pos n) (rw (i, le-leb 0 n (omega arith), le-leb n 360 h)) refl refl
