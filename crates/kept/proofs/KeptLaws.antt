-- What each test comes to, and that a figure of a reading is small: it was read from a cell's 16 bits. Assumes nothing.
use mathlib.Core.Path.{◌≡◌, refl, sym, ap, ◌∙◌, subst}
use mathlib.Core.Bool.{true, false}
use mathlib.Core.List.{List, [], ◌∷◌}
use Prim.Native.Nat.{ℕ, ◌-◌, ◌%◌, ◌^◌, ◌≤◌, ◌<◌}
use native.Mathlib.Nat.{mod-lt}
use native.Mathlib.Omega.{arith}
use lib.Dec.{eqb, lit<}
use lib.IntN.{pos, nat_abs}
use borrow.Author.Tests.{lt-ltb, le-ltb, eq-eqb, ne_eqb}
use Rattle.number.specs.Refusal.{numbered, refused, given, answer}
use Rattle.number.proofs.Sizes.{either_way}
use Rattle.quantity.specs.Limits.{last_minute}
use Rattle.quantity.specs.declared.BarometerUnit.{BarometerUnit}
use Rattle.quantity.specs.declared.BarometerUnit.TheVariants.{Hectopascals, Millimetres}
use Rattle.message.specs.Receive.{Figure, °C, m/s, kn, pressure, entry_of}
use Rattle.message.specs.declared.Reading.{Reading}
use Rattle.message.specs.declared.Reading.TheVariants as reading
use Rattle.cell.specs.Cells.{CHANNELS, unbiased, first_in, recalled, is_present, first}
use Rattle.cell.proofs.CellLaws.{unbiased_small}
use Rattle.block.specs.Words.{is_store, unit_of}
use Rattle.store.specs.Block.{next_in, recall_of}
use Rattle.store.proofs.RecallLaws.{kept}
use Rattle.kept.specs.Kept.{value_of, newest_of, reading_of, marks, stretch_of}

-- ---- the answers

module _ (s : List ℕ) (c : ℕ) (on : is_store s ≡ true) (low : c < CHANNELS) where
  pub newest_none : next_in s c ≡ 0 → newest_of s c ≡ refused (numbered 11 [])
  unfolding newest_of answer
  newest_none e = rw (on, lt-ltb c CHANNELS low, eq-eqb (next_in s c) 0 e)

  pub newest_is : (next_in s c ≡ 0 → ⊥) → newest_of s c ≡ given (next_in s c - 1)
  unfolding newest_of answer
  newest_is n = rw (on, lt-ltb c CHANNELS low, ne_eqb (next_in s c) 0 n)

  pub reading_late : (m : ℕ) → last_minute < m → reading_of s c m ≡ refused (numbered 5 [])
  unfolding reading_of answer
  reading_late m h = rw (on, lt-ltb c CHANNELS low, lt-ltb last_minute m h)

  pub reading_absent : (m : ℕ) → m ≤ last_minute → is_present (recall_of s c m) ≡ false → reading_of s c m ≡ refused (numbered 11 (c ∷ m ∷ []))
  unfolding reading_of answer
  reading_absent m h e = rw (on, lt-ltb c CHANNELS low, le-ltb last_minute m h, e)

  pub reading_there : (m : ℕ) → m ≤ last_minute → is_present (recall_of s c m) ≡ true → reading_of s c m ≡ given (recall_of s c m)
  unfolding reading_of answer
  reading_there m h e = rw (on, lt-ltb c CHANNELS low, le-ltb last_minute m h, e)

  pub stretch_is : (m n : ℕ) → stretch_of s c m n ≡ given (marks s c m n)
  unfolding stretch_of answer
  stretch_is m n = rw (on, lt-ltb c CHANNELS low)

-- ---- how large a figure is

abbrev Small : Figure → Type 0
Small f = nat_abs (value_of f) < 98304

half_small : (v : ℕ) → v % 65536 < 98304
half_small v = let m : v % 65536 < 65536 = mod-lt v (lit< tt) in omega arith

pressure_small : (u : BarometerUnit) (v : ℕ) → Small (pressure u (pos (v % 65536)))
pressure_small Hectopascals v = half_small v
pressure_small Millimetres v = half_small v

first_small : (u : BarometerUnit) (c v : ℕ) → Small (first_in u c v)
first_small u c v =
    either_way Small (eqb c 0) _ _ (pressure_small u v)
    (either_way Small (eqb c 2) (m/s (pos (v % 65536))) _ (half_small v)
    (either_way Small (eqb c 3) (kn (pos (v % 65536))) (°C (unbiased v)) (half_small v) (unbiased_small v)))

any_minute : (t : ℕ) (r : Reading) → (entry_of t r).first ≡ (entry_of 0 r).first
any_minute t (reading.Hectopascals p) = refl
any_minute t (reading.Millimetres p) = refl
any_minute t (reading.Wheelhouse x) = refl
any_minute t (reading.ApparentWind v d) = refl
any_minute t (reading.ShipMotion v d) = refl
any_minute t (reading.DryBulb x) = refl
any_minute t (reading.WetBulb s x) = refl

pub kept_small : (s : List ℕ) (c m : ℕ) (r : Reading) → c < CHANNELS → recall_of s c m ≡ recalled (entry_of m r) → nat_abs (value_of (entry_of 0 r).first) < 2 ^ 31
kept_small s c m r low e =
    let there = kept s c m low (ap is_present e) in
    let is : first_in (unit_of s) c there.cell ≡ (entry_of 0 r).first = ap first (sym there.is ∙ e) ∙ any_minute m r in
    let small = subst Small is (first_small (unit_of s) c there.cell) in
    omega (arith, small)
