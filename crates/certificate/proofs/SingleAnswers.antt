-- The public contract of this crate allows a single answer: from what is said of it the case can be made again. Assumes nothing.
use mathlib.Core.Path.{◌≡◌, refl, sym, ap, ◌∙◌}
use lib.IntN.{ℤ}
use Rattle.std.specs.Prelude.{Option, Some, None}
use Rattle.number.specs.Single.{Single}
use Rattle.number.specs.Refusal.{Answer, refused, given}
use Rattle.certificate.specs.Line.{valued_as}
use Rattle.number.specs.declared.Number.{Number}
use Rattle.certificate.proofs.value_at.Reads as value-at

value_of : Answer (Unit {0}) ℤ → Option Number
value_of (refused n) = None
value_of (given z) = Some (record { v = z })

value_back : (v : Option Number) → value_of (valued_as v) ≡ v
unfolding value_of
value_back (Some n) = refl
value_back None = refl

pub single_value_at : Single value-at.Post
single_value_at κs a r r' s s' p q = sym (value_back r) ∙ ap value_of (p ∙ sym q) ∙ value_back r'
