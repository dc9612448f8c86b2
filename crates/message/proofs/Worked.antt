-- Worked messages: what the definitions say of them, by computation. Assumes nothing.
use mathlib.Core.Path.{◌≡◌, refl}
use mathlib.Core.List.{List, [], ◌∷◌, ◌++◌, map}
use Prim.Native.Nat.{ℕ, ◌/◌, ◌%◌}
use lib.IntN.{pos, neg_ℤ}
use lib.Ieee.{of_bits}
use Rattle.number.specs.Round.{nearest}
use Rattle.number.specs.Refusal.{Answer, refused, given, answer}
use Rattle.quantity.specs.declared.BarometerUnit.{BarometerUnit}
use Rattle.quantity.specs.declared.BarometerUnit.TheVariants.{Hectopascals, Millimetres}
use Rattle.quantity.specs.declared.BulbState.TheVariants.{Water, Ice, Unknown}
use Rattle.message.specs.Value.{to_whole}
use Rattle.message.specs.Receive.{Figure, hPa, mmHg, °C, m/s, kn, deg, wick, none, Entry, received}

-- four bytes of a number, and a message of a channel with a state, at minute 100, with the patterns of two values
four : ℕ → List ℕ
four n = n % 256 ∷ n / 256 % 256 ∷ n / 65536 % 256 ∷ n / 16777216 ∷ []

sent : ℕ → ℕ → ℕ → ℕ → List ℕ
unfolding four
sent channel state x y = channel ∷ state ∷ 0 ∷ 0 ∷ four 100 ++ four x ++ four y

kept : ℕ → Figure → Figure → Answer ℕ Entry
kept channel x y = given (record { channel = channel; minute = 100; first = x; second = y })

pub record Row : Type 0 where
  pub unit : BarometerUnit
  pub bytes : List ℕ
  pub comes_to : Answer ℕ Entry

row : BarometerUnit → List ℕ → Answer ℕ Entry → Row
row u m a = record { unit = u; bytes = m; comes_to = a }

pub rows : List Row
unfolding sent kept row
rows =
    -- 0.25, -0.25, 0.75 and -0.75, which are halves of a tenth: to the even one
    row Hectopascals (sent 4 0 0x3e80_0000 0) (kept 4 (°C (pos 2)) none)
    ∷ row Hectopascals (sent 4 0 0xbe80_0000 0) (kept 4 (°C (neg_ℤ (pos 2))) none)
    ∷ row Hectopascals (sent 4 0 0x3f40_0000 0) (kept 4 (°C (pos 8)) none)
    ∷ row Hectopascals (sent 4 0 0xbf40_0000 0) (kept 4 (°C (neg_ℤ (pos 8))) none)
    -- the values next to 0.25 below and above are no halves: to the nearest
    ∷ row Hectopascals (sent 4 0 0x3e7f_ffff 0) (kept 4 (°C (pos 2)) none)
    ∷ row Hectopascals (sent 4 0 0x3e80_0001 0) (kept 4 (°C (pos 3)) none)
    -- 0.35, which a binary32 holds as 0.34999999
    ∷ row Hectopascals (sent 4 0 0x3eb3_3333 0) (kept 4 (°C (pos 3)) none)
    -- 1013.25 hPa; 741.9 mm Hg; each outside the other unit's limits
    ∷ row Hectopascals (sent 0 0 0x447d_5000 0) (kept 0 (hPa (pos 10132)) none)
    ∷ row Millimetres (sent 0 0 0x4439_799a 0) (kept 0 (mmHg (pos 7419)) none)
    ∷ row Millimetres (sent 0 0 0x447d_5000 0) (refused 7)
    ∷ row Hectopascals (sent 0 0 0x4439_799a 0) (refused 7)
    -- 849.95 is 850.0, 849.94 is 849.9: limits are tested after rounding
    ∷ row Hectopascals (sent 0 0 0x4454_7ccd 0) (kept 0 (hPa (pos 8500)) none)
    ∷ row Hectopascals (sent 0 0 0x4454_7c29 0) (refused 7)
    -- -0.0; the smallest and the largest binary32
    ∷ row Hectopascals (sent 4 0 0x8000_0000 0) (kept 4 (°C (pos 0)) none)
    ∷ row Hectopascals (sent 4 0 1 0) (kept 4 (°C (pos 0)) none)
    ∷ row Hectopascals (sent 4 0 0x7f7f_ffff 0) (refused 7)
    ∷ row Hectopascals (sent 4 0 0xff7f_ffff 0) (refused 7)
    -- infinite, not a number; not a number second, with the first outside its limits
    ∷ row Hectopascals (sent 4 0 0x7f80_0000 0) (refused 6)
    ∷ row Hectopascals (sent 4 0 0xff80_0000 0) (refused 6)
    ∷ row Hectopascals (sent 4 0 0x7fc0_0000 0) (refused 6)
    ∷ row Hectopascals (sent 2 0 0x42c8_0000 0x7fc0_0000) (refused 6)
    -- 8.0 m/s at 360.4 degrees; 359.5 and 360.5, which are 360 and so 0; next above 360.5; 361.5
    ∷ row Hectopascals (sent 2 0 0x4100_0000 0x43b4_3333) (kept 2 (m/s (pos 80)) (deg (pos 0)))
    ∷ row Hectopascals (sent 2 0 0x4100_0000 0x43b3_c000) (kept 2 (m/s (pos 80)) (deg (pos 0)))
    ∷ row Hectopascals (sent 2 0 0x4100_0000 0x43b4_4000) (kept 2 (m/s (pos 80)) (deg (pos 0)))
    ∷ row Hectopascals (sent 2 0 0x4100_0000 0x43b4_4001) (refused 7)
    ∷ row Hectopascals (sent 2 0 0x4100_0000 0x43b4_c000) (refused 7)
    -- 8.0 knots at -0.4 degrees; -0.5, which is 0 and taken; next below -0.5; -1.5; 10.46, 10.5, 11.5
    ∷ row Hectopascals (sent 3 0 0x4100_0000 0xbecc_cccd) (kept 3 (kn (pos 80)) (deg (pos 0)))
    ∷ row Hectopascals (sent 3 0 0x4100_0000 0xbf00_0000) (kept 3 (kn (pos 80)) (deg (pos 0)))
    ∷ row Hectopascals (sent 3 0 0x4100_0000 0xbf00_0001) (refused 7)
    ∷ row Hectopascals (sent 3 0 0x4100_0000 0xbfc0_0000) (refused 7)
    ∷ row Hectopascals (sent 3 0 0x4100_0000 0x4127_5c29) (kept 3 (kn (pos 80)) (deg (pos 10)))
    ∷ row Hectopascals (sent 3 0 0x4100_0000 0x4128_0000) (kept 3 (kn (pos 80)) (deg (pos 10)))
    ∷ row Hectopascals (sent 3 0 0x4100_0000 0x4138_0000) (kept 3 (kn (pos 80)) (deg (pos 12)))
    -- negative zero in an unused second value; a state on channel 4
    ∷ row Hectopascals (sent 0 0 0x447d_5000 0x8000_0000) (refused 3)
    ∷ row Hectopascals (sent 4 1 0x3e80_0000 0) (refused 3)
    -- water, ice and an unknown state on channel 5, at any temperature of its limits; a state above 2; there with a stray byte too
    ∷ row Hectopascals (sent 5 0 0x3e80_0000 0) (kept 5 (°C (pos 2)) (wick Water))
    ∷ row Hectopascals (sent 5 1 0x3e80_0000 0) (kept 5 (°C (pos 2)) (wick Ice))
    ∷ row Hectopascals (sent 5 2 0xc120_0000 0) (kept 5 (°C (neg_ℤ (pos 100))) (wick Unknown))
    ∷ row Hectopascals (sent 5 3 0x3e80_0000 0) (refused 4)
    ∷ row Hectopascals (sent 5 3 0x3e80_0000 1) (refused 3)
    -- channel 6; no bytes, 15 and 17
    ∷ row Hectopascals (sent 6 0 0x3e80_0000 0) (refused 2)
    ∷ row Hectopascals [] (refused 1)
    ∷ row Hectopascals (4 ∷ 0 ∷ 0 ∷ 0 ∷ four 100 ++ four 0 ++ (0 ∷ 0 ∷ 0 ∷ [])) (refused 1)
    ∷ row Hectopascals (sent 4 0 0 0 ++ (0 ∷ [])) (refused 1)
    ∷ []

-- Each message comes to what its row says.
pub worked : map (λ (r : Row). received r.unit r.bytes) rows ≡ map (λ (r : Row). r.comes_to) rows
unfolding received answer to_whole nearest of_bits rows row sent kept four
worked = refl
