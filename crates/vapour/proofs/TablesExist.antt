-- There are tables: each tenth of -40.0 to 50.0 °C over water, and of -40.0 to 0.0 over ice, has an entry, guessed from the series'
-- terms 0 to 20 and shown by one test at each. (The entries that the program holds stand in its text alone.) Assumes nothing.
use mathlib.Core.Path.{◌≡◌, subst}
use mathlib.Core.Bool.{Bool, true, ◌&&◌}
use Prim.Native.Nat.{ℕ, zero, suc, ◌+◌, ◌*◌, ◌-◌, ◌<◌}
use native.Mathlib.Omega.{arith}
use native.Mathlib.Decide.{dec_lt}
use native.Mathlib.Nat.{not-suc-le-zero}
use lib.Dec.{T}
use lib.Ieee.Fits.{and_l, and_r}
use lib.IntN.{ℤ, pos, negsuc, nat_abs, ◌+ℤ◌, ◌*ℤ◌}
use Rattle.number.specs.Round.{nearest}
use Rattle.quantity.specs.Limits.{Limits, inside, bulb, frost}
use Rattle.vapour.specs.Exp.{top, bottom}
use Rattle.vapour.specs.Vapour.{Formula, Near, water, ice, IsTable, Tables, AreTables}
use Rattle.vapour.specs.Tables.{tenth}
use Rattle.vapour.proofs.SaturationLaws.{near_test, near_by_test}
use Rattle.vapour.proofs.TableLaws.{place_is, frost_bulb, frost_place}

module _ (f : Formula) where
  guess : ℤ → ℕ
  unfolding top bottom nearest
  guess (pos m) =
      let p = f.factor * m in
      let q = 10000 * (f.offset + m) in
      nearest (f.scale * top p q 20) (100 * bottom q 20)
  guess (negsuc n) =
      let p = f.factor * suc n in
      let q = 10000 * (f.offset - suc n) in
      nearest (f.scale * bottom q 20) (100 * top p q 20)

  table : ℤ → ℕ
  unfolding guess
  table t = guess (pos 100 *ℤ t)

  tested : ℕ → Bool
  unfolding table near_test
  tested zero = true
  tested (suc n) = near_test f (tenth n) (table (tenth n)) && tested n

  each : (n i : ℕ) → T (tested n) → i < n → T (near_test f (tenth i) (table (tenth i)))
  unfolding tested
  each zero i t h = absurd (not-suc-le-zero h)
  each (suc n) i t h =
      elim (dec_lt i n) [
        | yes l ↦ each n i (and_r (near_test f (tenth n) (table (tenth n))) (tested n) t) l
        | no l ↦ let e : i ≡ n = omega arith in rw e (and_l (near_test f (tenth n) (table (tenth n))) (tested n) t)
      ]

  -- a table whose first n places pass, within limits whose tenths stand at them
  is_table : (limits : Limits) (n : ℕ) → T (tested n)
      → ((t : ℤ) → inside limits t ≡ true → let i = nat_abs (t +ℤ pos 400) in (i < n) × (tenth i ≡ t)) → IsTable f limits table
  is_table limits n passed places t h =
      let i = nat_abs (t +ℤ pos 400) in
      let at = places t h in
      subst (λ (x : ℤ). Near f x (table x)) at.1 (near_by_test f (tenth i) (table (tenth i)) (each n i passed at.0))

over_water_lem : T (tested water 901)
unfolding tested
over_water_lem = tt

over_ice_lem : T (tested ice 401)
unfolding tested
over_ice_lem = tt

frost_places : (t : ℤ) → inside frost t ≡ true → let i = nat_abs (t +ℤ pos 400) in (i < 401) × (tenth i ≡ t)
frost_places t h =
    let at = place_is t (frost_bulb t h) in
    (frost_place (nat_abs (t +ℤ pos 400)) t at.1 h, at.1)

pub the_tables : (T : Tables) × AreTables T
the_tables = (
  record { over_water = table water; over_ice = table ice },
  record { of_water = is_table water bulb 901 over_water_lem place_is; of_ice = is_table ice frost 401 over_ice_lem frost_places },
)
