-- An anemometer's certificate as a block holds it and as the settings gave it: the same speeds, and none beyond channel 2's limits.
-- Assumes nothing.
use mathlib.Core.Path.{◌≡◌, refl, sym, ap, ◌∙◌}
use mathlib.Core.Bool.{Bool, true, false, not, ◌||◌, cond}
use mathlib.Core.List.{List}
use Prim.Native.Nat.{ℕ, ◌+◌, ◌-◌, ◌<◌, min}
use native.Mathlib.Omega.{arith}
use lib.Dec.{ltb, lit<}
use lib.IntN.{ℤ}
use lib.ListN.{get_or, take}
use lib.Seq.{get_or-take}
use borrow.Author.Tests.{ltb-true}
use Rattle.number.specs.Refusal.{given}
use Rattle.number.proofs.Sizes.{and_true}
use Rattle.quantity.specs.Limits.{inside, metres_per_second}
use Rattle.settings.specs.Settings.{rate, rate_point_at, no_rate, checked}
use Rattle.settings.specs.declared.Settings.{Settings}
use Rattle.settings.specs.declared.RatePoint.{RatePoint}
use Rattle.certificate.specs.Line.{value_from, none_round}
use Rattle.certificate.proofs.SameLaws.{same_value, same_none}
use Rattle.certificate.proofs.WithinLaws.{value_within}
use Rattle.block.specs.Layout.{RATES, SETTINGS}
use Rattle.block.specs.Words.{opened, rate_in, rate_of}
use Rattle.block.proofs.SettingsLaws.{settings_back, each_rate}
use Rattle.anemometer.specs.Anemometer.{Certificate, certificate_in, certificate_held, corner, corners, turned, speed, outside, no_speed}
use Rattle.anemometer.specs.declared.Note.{Note}

-- Two certificates that differ at most in what stands behind their points.
pub record Alike (c d : Certificate) : Type 0 where
  pub points : c.points ≡ d.points
  pub point : (i : ℕ) → i < d.points → c.point i ≡ d.point i

module _ (c d : Certificate) (a : Alike c d) (n : Note) where
  pub alike_speed : speed c n ≡ speed d n
  unfolding speed
  alike_speed =
      ap (λ (k : ℕ). value_from (corners c n) (turned n) 0 (k - 1)) a.points
      ∙ same_value (corners c n) (corners d n) (turned n) d.points (λ i h. ap (corner n.seconds) (a.point i h))

  pub alike_outside : outside c n ≡ outside d n
  unfolding outside
  alike_outside =
      ap (λ (k : ℕ). none_round (corners c n) (turned n) (k - 1)) a.points
      ∙ same_none (corners c n) (corners d n) (turned n) d.points (λ i h. ap (corner n.seconds) (a.point i h))

-- ---- of settings that a store opens with

module _ (g : Settings) (good : checked g ≡ given tt) where
  -- a block with the settings' words of the opened one
  pub held_alike : (s : List ℕ) → take SETTINGS s ≡ take SETTINGS (opened g) → Alike (certificate_held s) (certificate_in g)
  held_alike s same =
      let back = settings_back g good in
      record {
        points = ap (λ (k : ℕ). min k 20) (word RATES (lit< tt)) ∙ back.rates;
        point = λ i h. point i ∙ back.rate i h;
      }
    where
      word : (i : ℕ) → i < SETTINGS → get_or s i 0 ≡ get_or (opened g) i 0
      word i l = sym (get_or-take SETTINGS s i 0 l) ∙ ap (λ (w : List ℕ). get_or w i 0) same ∙ get_or-take SETTINGS (opened g) i 0 l

      point : (i : ℕ) → rate_of s i ≡ rate_of (opened g) i
      point i = go (ltb i 20) refl
        where
          go : (b : Bool) → ltb i 20 ≡ b → cond b (rate_in (get_or s (RATES + 1 + i) 0)) no_rate ≡ cond b (rate_in (get_or (opened g) (RATES + 1 + i) 0)) no_rate
          go true h = ap rate_in (word (RATES + 1 + i) (omega (arith, ltb-true i 20 h)))
          go false h = refl

  -- A rate within the certificate has a speed within channel 2's limits.
  pub never_beyond : (n : Note) → outside (certificate_in g) n ≡ false → inside metres_per_second (speed (certificate_in g) n) ≡ true
  unfolding outside speed
  never_beyond n e =
      value_within (corners (certificate_in g) n) (turned n) metres_per_second.low metres_per_second.high g.anemometer.count
      (λ i h. let p = rate_point_at g.anemometer.points i in (and_true (inside rate p.rate.0.v) (inside metres_per_second p.speed.v) (each_rate g good i h)).1) e

  -- so 24 of the block is 24 of the document
  pub as_outside : (s : List ℕ) → take SETTINGS s ≡ take SETTINGS (opened g) → (n : Note) → no_speed (certificate_held s) n ≡ outside (certificate_in g) n
  as_outside s same n =
      let a = held_alike s same in
      rw (alike_outside (certificate_held s) (certificate_in g) a n, alike_speed (certificate_held s) (certificate_in g) a n) (go (outside (certificate_in g) n) refl)
    where
      go : (b : Bool) → outside (certificate_in g) n ≡ b → (b || not (inside metres_per_second (speed (certificate_in g) n))) ≡ b
      go true h = refl
      go false h = ap not (never_beyond n h)
