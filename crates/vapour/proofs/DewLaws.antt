-- A pressure has one dew point among all tenths, since saturation rises: a later tenth's lower half tenth is at or over an
-- earlier one's upper. And a dew point is shown by one test of the series at each half tenth. Assumes nothing.
use mathlib.Core.Path.{◌≡◌, refl, sym, subst, ◌∙◌}
use mathlib.Core.Bool.{Bool, true, false, ◌&&◌}
use Prim.Native.Nat.{ℕ, zero, suc, ◌+◌, ◌*◌, ◌-◌, ◌<◌, ◌≤◌}
use native.Mathlib.Omega.{arith}
use native.Mathlib.Decide.{dec_lt}
use lib.Dec.{T, leb, ltb}
use lib.Ieee.Fits.{and_l, and_r}
use lib.IntN.{ℤ, pos, negsuc, neg_ℤ, ◌+ℤ◌, ◌-ℤ◌, ◌*ℤ◌}
use borrow.Author.Tests.{leb-false, ltb-true, ltb-false}
use Rattle.quantity.specs.Limits.{inside, bulb}
use Rattle.vapour.specs.Vapour.{Below, DewPoint, TellsDew, lowest_vapour, highest_vapour, recorded_vapour, water}
use Rattle.vapour.specs.Tables.{tenth, Least, Reaches}
use Rattle.vapour.proofs.UpDown.{up, down, then_le, same, of_sum, of_times, of_difference}
use Rattle.vapour.proofs.Bracket.{bracket, shows}
use Rattle.vapour.proofs.SaturationLaws.{lower, rises, real_water}

-- half a tenth under a tenth, and over it
abbrev pub under : ℤ → ℤ
under t = pos 100 *ℤ t -ℤ pos 50

abbrev pub over : ℤ → ℤ
over t = pos 100 *ℤ t +ℤ pos 50

under_is : (t : ℤ) → up (under t) + 100 * down t + 50 ≡ 100 * up t + down (under t)
under_is t = omega (arith, of_times 100 t, of_sum (pos 100 *ℤ t) (neg_ℤ (pos 50)))

over_is : (t : ℤ) → up (over t) + 100 * down t ≡ 100 * up t + 50 + down (over t)
over_is t = omega (arith, of_times 100 t, of_sum (pos 100 *ℤ t) (pos 50))

-- ---- one dew point

no_later : (e : ℕ) (s t : ℤ) → up s + down t < up t + down s → DewPoint e s → DewPoint e t → ⊥
no_later e s t h a b = b.reached (rises water e 1 real_water (over s) (under t) (then_le (over s) (under t) (omega (arith, over_is s, under_is t))) a.short)

-- over every whole number of tenths, not only the table's
pub dew_one : (e : ℕ) (s t : ℤ) → DewPoint e s → DewPoint e t → s ≡ t
dew_one e s t a b = go (dec_lt (up s + down t) (up t + down s)) (dec_lt (up t + down s) (up s + down t))
  where
    go : Dec (up s + down t < up t + down s) → Dec (up t + down s < up s + down t) → s ≡ t
    go (yes y) d = absurd (no_later e s t y a b)
    go (no y) (yes z) = absurd (no_later e t s z b a)
    go (no y) (no z) = same s t (omega arith)

-- ---- the test of a dew point: exact saturation half a tenth under at most e, half a tenth over above e (and below 10,000 hPa)

unfoldable pub dew_test : ℕ → ℤ → Bool
unfolding bracket
dew_test e t = bracket water 0 e 1 (under t) && bracket water e 1000000 1 (over t)

pub dew_by_test : (e : ℕ) (t : ℤ) → T (dew_test e t) → DewPoint e t
unfolding dew_test
dew_by_test e t passed =
    let a = bracket water 0 e 1 (under t) in
    let b = bracket water e 1000000 1 (over t) in
    record {
      reached = (shows water 0 e 1 (under t) (and_l a b passed)).high;
      short = (shows water e 1000000 1 (over t) (and_r a b passed)).low;
    }

-- ---- thresholds

unfoldable pub least_test : ℕ → ℕ → Bool
unfolding bracket
least_test i r = bracket water (r - 1) r 1 (under (tenth i))

pub least_by_test : (i r : ℕ) → T (least_test i r) → Least i r
unfolding least_test
least_by_test i r passed =
    let b = shows water (r - 1) r 1 (under (tenth i)) passed in
    record {
      reached = λ e h p. b.high (lower water e 1 (under (tenth i)) r h p);
      short = λ e h. lower water (r - 1) 1 (under (tenth i)) e (omega arith) b.low;
    }

-- half a tenth under the next place is half a tenth over this one
halfway : (i : ℕ) → under (tenth (i + 1)) ≡ over (tenth i)
halfway i =
    same (under (tenth (i + 1))) (over (tenth i))
    (omega (arith, under_is (tenth (i + 1)), over_is (tenth i), of_difference (i + 1) 400, of_difference i 400))

-- so a dew point is where e reaches a place and not the next
pub between : (e i : ℕ) → Reaches e i → Below water (under (tenth (i + 1))) e 1 → DewPoint e (tenth i)
between e i a b = record { reached = a; short = subst (λ (t : ℤ). Below water t e 1) (halfway i) b }

pub not_next : (e i : ℕ) → Reaches e (i + 1) → DewPoint e (tenth i) → ⊥
not_next e i a d = a (subst (λ (t : ℤ). Below water t e 1) (sym (halfway i)) d.short)

-- ---- the ends: every e of the range reaches -40.0, and none 50.1

pub first : (e : ℕ) → lowest_vapour ≤ e → Reaches e 0
unfolding least_test
first e h = (least_by_test 0 lowest_vapour tt).reached e h

pub last : (e : ℕ) → e ≤ highest_vapour → Below water (under (tenth 901)) e 1
unfolding least_test
last e h = (least_by_test 901 12376 tt).short e (omega arith)

-- so a place that e does not reach is not the first
pub not_first : (e i : ℕ) → lowest_vapour ≤ e → Below water (under (tenth i)) e 1 → 0 < i
not_first e zero h b = absurd (first e h b)
not_first e (suc i) h b = omega arith

-- and one that e reaches is one of the table's
pub reaches_inside : (e i : ℕ) → e ≤ highest_vapour → i ≤ 901 → Reaches e i → i < 901
reaches_inside e i h l a =
    elim (dec_lt i 901) [
      | yes y ↦ y
      | no n ↦ let is : i ≡ 901 = omega arith in absurd (a (rw is (last e h)))
    ]

-- and no dew point lies outside the table
and_left : (b : Bool) → (b && true) ≡ b
and_left true = refl
and_left false = refl

pub outside : (e : ℕ) (t : ℤ) → lowest_vapour ≤ e → e ≤ highest_vapour → inside bulb t ≡ false → DewPoint e t → ⊥
outside e (pos n) l h out d =
    let far : 500 < n = leb-false n 500 out in
    d.reached (rises water e 1 real_water (under (tenth 901)) (under (pos n)) (then_le (under (tenth 901)) (under (pos n)) (omega (arith, under_is (pos n)))) (last e h))
outside e (negsuc n) l h out d =
    let far : 399 < n = leb-false n 399 (sym (and_left (leb n 399)) ∙ out) in
    first e l (rises water e 1 real_water (over (negsuc n)) (under (tenth 0)) (then_le (over (negsuc n)) (under (tenth 0)) (omega (arith, over_is (negsuc n)))) d.short)

-- ---- whether a tenth is the dew point of e: at a place that e reaches, by the threshold r of the next

pub tells : (e i r : ℕ) → recorded_vapour e ≡ true → Reaches e i → Least (i + 1) r → TellsDew e (tenth i) (ltb e r)
tells e i r range a least = go (ltb e r) refl
  where
    go : (b : Bool) → ltb e r ≡ b → TellsDew e (tenth i) b
    go true h = (range, between e i a (least.short e (ltb-true e r h)))
    go false h = λ in_range d. not_next e i (least.reached e (ltb-false e r h)) d
