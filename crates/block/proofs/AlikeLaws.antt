-- The same settings open the same block: nothing is kept of what stands behind a certificate's points. Word by word. Assumes nothing.
use mathlib.Core.Path.{◌≡◌, refl, ap}
use mathlib.Core.Bool.{Bool, true, false, cond}
use Prim.Native.Nat.{ℕ, zero, suc, ◌+◌, ◌-◌, ◌<◌}
use lib.Dec.{ltb}
use borrow.Author.Tests.{ltb-true}
use Rattle.settings.specs.Settings.{point_at, rate_point_at, SameSettings}
use Rattle.settings.specs.declared.Settings.{Settings}
use Rattle.settings.specs.declared.Point.{Point}
use Rattle.settings.specs.declared.RatePoint.{RatePoint}
use Rattle.block.specs.Layout.{POINTS, RATES, SETTINGS, WORDS}
use Rattle.block.specs.Words.{point_word, rate_word, up_to, setting_word, opened_word, opened, listed}

listed_same : (f g : ℕ → ℕ) → ((i : ℕ) → f i ≡ g i) → (i n : ℕ) → listed f i n ≡ listed g i n
unfolding listed
listed_same f g e i zero = refl
listed_same f g e i (suc n) = let z = e i in let rest = listed_same f g e (suc i) n in cc

-- a certificate's word at a place, where its points are the same
up_to_same : (count k a b : ℕ) → (k < count → a ≡ b) → up_to count k a ≡ up_to count k b
up_to_same count k a b e = go (ltb k count) refl
  where
    go : (t : Bool) → ltb k count ≡ t → cond t a 0 ≡ cond t b 0
    go true l = e (ltb-true k count l)
    go false l = refl

module _ (g h : Settings) (same : SameSettings g h) where
  word : (i : ℕ) → setting_word g i ≡ setting_word h i
  unfolding setting_word
  word i =
      rw (
        same.unit,
        same.height,
        same.difference,
        same.coefficient,
        same.psychrometer,
        up_to_same g.count (i - POINTS) _ (point_word (point_at h.points (i - POINTS))) (λ l. ap (λ (p : Point). point_word p) (same.point (i - POINTS) l)),
        same.count,
        up_to_same g.anemometer.count (i - (RATES + 1)) _ (rate_word (rate_point_at h.anemometer.points (i - (RATES + 1))))
            (λ l. ap (λ (p : RatePoint). rate_word p) (same.rate (i - (RATES + 1)) l)),
        same.rates,
      )

  pub same_opened : opened g ≡ opened h
  same_opened = listed_same (opened_word g) (opened_word h) (λ i. ap (λ (w : ℕ). cond (ltb i SETTINGS) w 0) (word i)) 0 WORDS
