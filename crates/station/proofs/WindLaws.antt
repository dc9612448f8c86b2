-- The four numbers of the wind: what is kept of channels 2 and 3 is within the limits of the true wind. Assumes nothing.
use mathlib.Core.Path.{◌≡◌, refl, subst}
use mathlib.Core.Bool.{true}
use mathlib.Core.List.{List}
use Prim.Native.Nat.{ℕ}
use lib.Dec.{lit<}
use Rattle.std.specs.Prelude.{Option}
use Rattle.number.proofs.Sizes.{both}
use Rattle.cell.specs.Cells.{is_present, in_degrees}
use Rattle.store.specs.Block.{recall_of}
use Rattle.wind.specs.Answer.{within_limits, IsWind}
use Rattle.wind.specs.declared.Wind.{Wind}
use Rattle.station.specs.Source.{in_metres_per_second, in_knots}
use Rattle.station.proofs.KeptLaws.{first_inside, second_inside}

pub kept_within : (s : List ℕ) (m : ℕ) → is_present (recall_of s 2 m) ≡ true → is_present (recall_of s 3 m) ≡ true
    → within_limits (in_degrees (recall_of s 3 m)) (in_knots (recall_of s 3 m)) (in_metres_per_second (recall_of s 2 m)) (in_degrees (recall_of s 2 m)) ≡ true
unfolding within_limits
kept_within s m p q =
    both (both (both (second_inside s 3 m (lit< tt) q refl) (first_inside s 3 m (lit< tt) q)) (first_inside s 2 m (lit< tt) p)) (second_inside s 2 m (lit< tt) p refl)

-- the wind of the same four numbers
pub wind_of : {a b c d a' b' c' d' : ℕ} (w : Option Wind) → a ≡ a' → b ≡ b' → c ≡ c' → d ≡ d' → IsWind a b c d w → IsWind a' b' c' d' w
wind_of {a} {b} {c} {d} {a'} {b'} {c'} {d'} w p q r s is =
    subst (λ (x : ℕ). IsWind x b' c' d' w) p (subst (λ (x : ℕ). IsWind a x c' d' w) q (subst (λ (x : ℕ). IsWind a b x d' w) r (subst (λ (x : ℕ). IsWind a b c x w) s is)))
