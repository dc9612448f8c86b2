-- From what a range function says of a number that was read to what it says of the number as it is kept. Assumes nothing.
use mathlib.Core.Path.{◌≡◌, sym, ap, ◌∙◌}
use mathlib.Core.Bool.{Bool}
use lib.IntN.{ℤ}
use Rattle.quantity.specs.Limits.{Limits, inside}

pub kept_inside : (l : Limits) {x z : ℤ} {r t : Bool} → r ≡ inside l x → x ≡ z → r ≡ t → inside l z ≡ t
kept_inside l h e k = sym (ap (inside l) e) ∙ sym h ∙ k
