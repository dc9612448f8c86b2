-- A block that was just opened: it is a store, it is set to the unit of its settings, and every word behind the settings is 0.
-- Assumes nothing.
use mathlib.Core.Path.{◌≡◌, refl, ap, ◌∙◌}
use mathlib.Core.Bool.{Bool, true, false, ◌&&◌}
use mathlib.Core.List.{[], ◌∷◌}
use Prim.Native.Nat.{ℕ, ◌+◌, ◌-◌, ◌≤◌, ◌<◌}
use native.Mathlib.Nat.{zero-add}
use native.Mathlib.Omega.{arith}
use lib.Dec.{eqb, leb, lit<}
use lib.ListN.{get_or, drop, length}
use lib.Seq.{get_or-take, get_or-drop}
use borrow.Author.Tests.{leb-true, eqb-true, le-ltb, not-false}
use Rattle.number.specs.Refusal.{given}
use Rattle.number.proofs.Sizes.{and_true, fails}
use Rattle.quantity.specs.declared.BarometerUnit.{BarometerUnit}
use Rattle.quantity.specs.declared.BarometerUnit.TheVariants.{Hectopascals, Millimetres}
use Rattle.settings.specs.Settings.{every, point_holds, point_at, rises, certificate_holds, rate_point_at, rate_point_holds, rates_rise, anemometer_holds, checked}
use Rattle.settings.specs.declared.Settings.{Settings}
use Rattle.settings.proofs.RefusalsInOrder.{settings_good}
use Rattle.window.specs.Layout.{WINDOW}
use Rattle.window.specs.Window.{next}
use Rattle.cell.specs.Cells.{CHANNELS}
use Rattle.block.specs.Layout.{SETTINGS, WORDS, base}
use Rattle.block.specs.Words.{unit_word, setting_word, opened_word, opened, is_store, unit_of, window_of}
use Rattle.block.proofs.ListedLaws.{length_listed, get_or-listed}

marked : (u : BarometerUnit) → is_store (unit_word u ∷ []) ≡ true
marked Hectopascals = refl
marked Millimetres = refl

unit_back : (u : BarometerUnit) → unit_of (unit_word u ∷ []) ≡ u
unit_back Hectopascals = refl
unit_back Millimetres = refl

pub opened_long : (g : Settings) → length (opened g) ≡ WORDS
opened_long g = length_listed (opened_word g) 0 WORDS

-- the word at a place
pub word_at : (g : Settings) (k : ℕ) → k < WORDS → get_or (opened g) k 0 ≡ opened_word g k
word_at g k h = get_or-listed (opened_word g) 0 0 WORDS k h ∙ ap (opened_word g) (zero-add k)

pub opened_is_store : (g : Settings) → is_store (opened g) ≡ true
unfolding setting_word
opened_is_store g = rw (word_at g 0 (lit< tt)) (marked g.unit)

pub opened_unit : (g : Settings) → unit_of (opened g) ≡ g.unit
unfolding setting_word
opened_unit g = rw (word_at g 0 (lit< tt)) (unit_back g.unit)

-- behind the settings an opened block is empty
pub nothing_heard : (g : Settings) (i : ℕ) → SETTINGS ≤ i → opened_word g i ≡ 0
nothing_heard g i h = rw (le-ltb i SETTINGS h)

pub opened_next : (g : Settings) (c : ℕ) → c < CHANNELS → next (window_of c (opened g)) ≡ 0
opened_next g c l =
    get_or-take WINDOW (drop (base c) (opened g)) 0 0 (lit< tt)
    ∙ get_or-drop (base c) (opened g) 0 0
    ∙ word_at g (base c + 0) (omega arith)
    ∙ nothing_heard g (base c + 0) (omega arith)

-- ---- the certificates of settings that a store opens with

second : (a b c d : Bool) → (a && b && c && d) ≡ true → b ≡ true
second a b c d e = (and_true a b (and_true (a && b) c (and_true (a && b && c) d e).0).0).1

module _ (g : Settings) (good : checked g ≡ given tt) where
  pub certificate : certificate_holds g.unit g.count g.points ≡ true
  certificate =
      not-false (certificate_holds g.unit g.count g.points)
      (fails _ (λ h. (settings_good g).0 good 10 (1, (h, refl))))

  pub few : g.count ≤ 16
  unfolding certificate_holds
  few =
      leb-true g.count 16
      (second (leb 2 g.count) (leb g.count 16)
      (every (λ i. point_holds g.unit (point_at g.points i)) 0 g.count)
      (every (λ i. rises (point_at g.points i) (point_at g.points (i + 1))) 0 (g.count - 1))
      certificate)

  pub anemometer : anemometer_holds g.anemometer.count g.anemometer.points ≡ true
  anemometer =
      not-false (anemometer_holds g.anemometer.count g.anemometer.points)
      (fails _ (λ h. (settings_good g).0 good 25 (2, (h, refl))))

  pub few_rates : g.anemometer.count ≤ 20
  unfolding anemometer_holds
  few_rates = go (eqb g.anemometer.count 0) refl
    where
      go : (b : Bool) → eqb g.anemometer.count 0 ≡ b → g.anemometer.count ≤ 20
      go true e = omega (arith, eqb-true g.anemometer.count 0 e)
      go false e =
          leb-true g.anemometer.count 20
          (second (leb 2 g.anemometer.count) (leb g.anemometer.count 20)
          (every (λ i. rate_point_holds (rate_point_at g.anemometer.points i)) 0 g.anemometer.count)
          (every (λ i. rates_rise (rate_point_at g.anemometer.points i) (rate_point_at g.anemometer.points (i + 1))) 0 (g.anemometer.count - 1))
          (rw e at anemometer))
