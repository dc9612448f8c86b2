-- Every sentence is shorter than 160 bytes (SENTENCE), so that a zero fits behind it, whatever numbers the code's types hold: a number
-- below a power of ten has few digits, and the words are counted. Assumes nothing.
use mathlib.Core.Bool.{Bool, cond}
use mathlib.Core.List.{List, ◌++◌}
use Prim.Native.Nat.{ℕ, suc, ◌+◌, ◌/◌, ◌^◌, ◌≤◌, ◌<◌}
use native.Mathlib.Omega.{arith}
use native.Mathlib.Nat.{pow-suc}
use lib.Dec.{eqb, leb}
use lib.IntN.{ℤ, pos, negsuc, nat_abs}
use lib.Signed.{lt_z}
use lib.ListN.{length, length-append}
use Rattle.number.proofs.Sizes.{either_way}
use Rattle.text.specs.Letters.{letters}
use Rattle.text.specs.Text.{decimal}
use Rattle.text.proofs.DecimalLaws.{decimal_length}
use Rattle.spoken.specs.Figures.{tenths, hundredths, tenths_of, change_of, minutes}
use Rattle.spoken.specs.Sentences.{pressure_text, tendency_text, wind_text, vapour_text, humidity_text, barometer_text, wick_text, reading_text}
use Rattle.spoken.specs.Refusals.{heard_text, other_text, asked_text, channel_text, more_text, refusal_text}

-- of two texts that fit, whichever is picked
within_either : (k : ℕ) (b : Bool) (x y : List ℕ) → length x ≤ k → length y ≤ k → length (cond b x y) ≤ k
within_either k = either_way (λ (l : List ℕ). length l ≤ k)

short : (b : Bool) (x y : List ℕ) → length x < 160 → length y < 160 → length (cond b x y) < 160
short = either_way (λ (l : List ℕ). length l < 160)

-- ---- figures

tenths_length : (k n : ℕ) → n < 10 ^ suc (suc k) → length (tenths n) ≤ k + 3
tenths_length k n h = simp length-append (omega (arith, decimal_length k (n / 10) (omega (arith, pow-suc 10 (suc k)))))

hundredths_length : (n : ℕ) → n < 2 ^ 32 → length (hundredths n) ≤ 11
hundredths_length n h = simp length-append (omega (arith, decimal_length 7 (n / 100) (omega arith)))

tenths_of-length : (k : ℕ) (z : ℤ) → nat_abs z < 10 ^ suc (suc k) → length (tenths_of z) ≤ k + 4
tenths_of-length k (pos n) h = omega (arith, tenths_length k n h)
tenths_of-length k (negsuc n) h = omega (arith, tenths_length k (suc n) h)

change_of-length : (z : ℤ) → nat_abs z ≤ 2 ^ 63 → length (change_of z) ≤ 22
change_of-length z h =
    let l = tenths_of-length 17 z (omega arith) in
    within_either 22 (lt_z (pos 0) z) (letters "+" ++ tenths_of z) (tenths_of z) (omega arith) (omega arith)

minutes_length : (n : ℕ) → n < 2 ^ 64 → length (minutes n) ≤ 28
minutes_length n h =
    let w = within_either 8 (eqb n 1) (letters " minute") (letters " minutes") (omega arith) (omega arith) in
    simp length-append (omega (arith, decimal_length 19 n (omega arith)))

-- ---- answers

pub pressure_fits : (p : ℤ) → nat_abs p ≤ 2 ^ 63 → length (pressure_text p) < 160
pressure_fits p h = simp length-append (omega (arith, tenths_of-length 17 p (omega arith)))

pub tendency_fits : (change : ℤ) (absent : ℕ) → nat_abs change ≤ 2 ^ 63 → absent < 2 ^ 64 → length (tendency_text change absent) < 160
tendency_fits change absent h l =
    rw (length-append (change_of change), length-append (letters " hPa in three hours, "), length-append (minutes absent))
    (omega (arith, change_of-length change h, minutes_length absent l))

pub wind_fits : (speed direction : ℕ) → speed < 2 ^ 32 → direction < 2 ^ 32 → length (wind_text speed direction) < 160
wind_fits speed direction h l =
    short (eqb speed 0) _ _ (omega arith)
    (rw (length-append (tenths speed), length-append (letters " m/s from "), length-append (decimal direction))
    (omega (arith, tenths_length 8 speed (omega arith), decimal_length 9 direction (omega arith))))

vapour_length : (e saturation deficit : ℕ) → e < 2 ^ 32 → saturation < 2 ^ 32 → deficit < 2 ^ 32 → length (vapour_text e saturation deficit) ≤ 80
vapour_length e saturation deficit h l m =
    rw (length-append (letters "vapour pressure "), length-append (hundredths e), length-append (letters " hPa, saturation "), length-append (hundredths saturation), length-append (letters " hPa, deficit "))
    (omega (arith, hundredths_length e h, hundredths_length saturation l, hundredths_length deficit m))

pub humidity_fits : (e saturation deficit relative : ℕ) (dew : ℤ)
    → e < 2 ^ 32 → saturation < 2 ^ 32 → deficit < 2 ^ 32 → relative < 2 ^ 32 → nat_abs dew ≤ 2 ^ 31
    → length (humidity_text e saturation deficit relative dew) < 160
humidity_fits e saturation deficit relative dew h l m r d =
    rw (length-append (vapour_text e saturation deficit), length-append (letters " hPa, relative humidity "), length-append (decimal relative), length-append (letters " %, dew point "), length-append (tenths_of dew))
    (omega (arith, vapour_length e saturation deficit h l m, decimal_length 9 relative (omega arith), tenths_of-length 8 dew (omega arith)))

-- ---- readings

barometer_length : (unit : ℕ) (p : ℤ) → nat_abs p ≤ 2 ^ 31 → length (barometer_text unit p) ≤ 18
barometer_length unit p h =
    let w = within_either 6 (eqb unit 0) (letters " hPa") (letters " mm Hg") (omega arith) (omega arith) in
    simp length-append (omega (arith, tenths_of-length 8 p (omega arith)))

wick_length : (n : ℕ) → length (wick_text n) ≤ 13
wick_length n = within_either 13 (eqb n 0) _ _ (omega arith) (within_either 13 (eqb n 1) _ _ (omega arith) (omega arith))

pub reading_fits : (channel unit : ℕ) (first : ℤ) (second : ℕ) → nat_abs first ≤ 2 ^ 31 → second < 2 ^ 32 → length (reading_text channel unit first second) < 160
reading_fits channel unit first second h l =
    let t = tenths_of-length 8 first (omega arith) in
    let d = decimal_length 9 second (omega arith) in
    short (eqb channel 0) _ _ (omega (arith, barometer_length unit first h))
    (short (eqb channel 2) _ _ (rw (length-append (tenths_of first), length-append (letters " m/s, "), length-append (decimal second)) (omega arith))
    (short (eqb channel 3) _ _ (rw (length-append (tenths_of first), length-append (letters " knots, course "), length-append (decimal second)) (omega arith))
    (short (eqb channel 5) _ _ (rw (length-append (tenths_of first)) (omega (arith, wick_length second)))
    (rw (length-append (tenths_of first)) (omega arith)))))

-- ---- refusals

heard_fits : (n : ℕ) → length (heard_text n) < 160
heard_fits n =
    short (eqb n 1) _ _ (omega arith)
    (short (eqb n 2) _ _ (omega arith)
    (short (eqb n 3) _ _ (omega arith)
    (short (eqb n 4) _ _ (omega arith)
    (short (eqb n 5) _ _ (omega arith)
    (short (eqb n 6) _ _ (omega arith)
    (short (eqb n 7) _ _ (omega arith)
    (omega arith)))))))

other_fits : (n : ℕ) → n < 2 ^ 32 → length (other_text n) < 160
other_fits n h =
    short (eqb n 9) _ _ (omega arith)
    (short (eqb n 10) _ _ (omega arith)
    (short (eqb n 23) _ _ (omega arith)
    (short (eqb n 24) _ _ (omega arith)
    (short (eqb n 25) _ _ (omega arith)
    (short (eqb n 254) _ _ (omega arith)
    (short (eqb n 255) _ _ (omega arith)
    (omega (arith, decimal_length 9 n (omega arith)))))))))

asked_fits : (n : ℕ) → n < 2 ^ 32 → length (asked_text n) < 160
asked_fits n h =
    short (eqb n 13) _ _ (omega arith)
    (short (eqb n 14) _ _ (omega arith)
    (short (eqb n 15) _ _ (omega arith)
    (short (eqb n 20) _ _ (omega arith)
    (short (eqb n 21) _ _ (omega arith)
    (short (eqb n 22) _ _ (omega arith)
    (other_fits n h))))))

channel_length : (c : ℕ) → c < 2 ^ 64 → length (channel_text c) ≤ 28
channel_length c h =
    within_either 28 (eqb c 0) _ _ (omega arith)
    (within_either 28 (eqb c 1) _ _ (omega arith)
    (within_either 28 (eqb c 2) _ _ (omega arith)
    (within_either 28 (eqb c 3) _ _ (omega arith)
    (within_either 28 (eqb c 4) _ _ (omega arith)
    (within_either 28 (eqb c 5) _ _ (omega arith)
    (omega (arith, decimal_length 19 c (omega arith))))))))

more_fits : (n first second : ℕ) → n < 2 ^ 32 → first < 2 ^ 64 → second < 2 ^ 64 → length (more_text n first second) < 160
more_fits n first second h l m =
    let d = decimal_length 19 first (omega arith) in
    short (eqb n 11) _ _ (rw (length-append (channel_text first), length-append (letters " has no reading at minute ")) (omega (arith, channel_length first l, decimal_length 19 second (omega arith))))
    (short (eqb n 12) _ _ (simp length-append (omega arith))
    (short (eqb n 16) _ _ (simp length-append (omega arith))
    (short (eqb n 17) _ _ (simp length-append (omega arith))
    (short (eqb n 18) _ _ (simp length-append (omega arith))
    (short (eqb n 19) _ _ (rw (length-append (letters "the minute is "), length-append (minutes first)) (omega (arith, minutes_length first l)))
    (asked_fits n h))))))

pub refusal_fits : (n first second : ℕ) → n < 2 ^ 32 → first < 2 ^ 64 → second < 2 ^ 64 → length (refusal_text n first second) < 160
refusal_fits n first second h l m =
    short (leb n 8) _ _ (short (eqb n 0) _ _ (omega arith) (heard_fits n)) (more_fits n first second h l m)
