-- `corner_in` meets its contract: 32 bits times 32. Assumes nothing.
use mathlib.Core.Path.{◌≡◌, ap, ap₂, ◌∙◌}
use native.Mathlib.Omega.{arith}
use lib.IntN.{ℤ, ◌*ℤ◌}
use Rattle.number.specs.declared.Number.{Number}
use Rattle.certificate.specs.declared.Corner.{Corner}
use Rattle.certificate.proofs.SizeLaws.{product}
use Rattle.certificate.proofs.corner_in.Goals as goal

make : ℤ → ℤ → Corner
make x y = record { reads = record { v = x }; gives = record { v = y } }

made : (a b : Number) {x y : ℤ} → a.v ≡ x → b.v ≡ y → record { reads = a; gives = b } ≡ make x y
unfolding make
made a b {x} {y} p q = ap (λ (z : ℤ). make z b.v) p ∙ ap (make x) q

pub times-requires : goal.times-requires
times-requires c = omega (arith, product c.number.ensures.size c.whole.ensures.size)

pub returns : goal.returns
unfolding make
returns c =
    let whole = c.before.before in
    made c.times.result c.number-2.result
    (c.times.ensures.value ∙ ap₂ ◌*ℤ◌ (c.number.ensures.value ∙ c.unbiased-low.ensures) c.whole.ensures.value)
    (c.number-2.ensures.value ∙ c.unbiased-high.ensures)
