-- `leans` meets its contract: it is the definition's test; each product is a speed by a sine, and fits. Assumes nothing.
use mathlib.Core.Path.{◌≡◌}
use Prim.Native.Nat.{ℕ, ◌+◌, ◌-◌, ◌*◌, ◌≤◌}
use native.Mathlib.Nat.{mul-le-mul}
use native.Mathlib.Omega.{arith}
use Rattle.sine.specs.Sine.{entry}
use Rattle.sine.proofs.TableLaws.{small}
use Rattle.wind.specs.Work.{most_side, leans}
use Rattle.wind.proofs.leans.Goals as goal

product : (i : ℕ) {x r : ℕ} → x ≤ most_side → r ≡ entry i → x * r ≤ most_side * 1000000
product i {x} {r} h e = mul-le-mul {m₂ = 1000000} h (omega (arith, small i))

pub overflow_mul-result : goal.overflow_mul-result
overflow_mul-result c = omega (arith, product _ c.requires.1 c.mark-m.ensures.0)

pub overflow_mul-result-2 : goal.overflow_mul-result-2
overflow_mul-result-2 c = omega (arith, product _ c.requires.0 c.mark-m.ensures.1)

pub returns : goal.returns
unfolding leans
returns c =
    let i = c.args.i in
    let by-sine : c.mark-m.result.0 ≡ entry (2 * i + 1) = c.mark-m.ensures.0 in
    let by-cosine : c.mark-m.result.1 ≡ entry (179 - 2 * i) = c.mark-m.ensures.1 in
    rw (← by-sine, ← by-cosine)
