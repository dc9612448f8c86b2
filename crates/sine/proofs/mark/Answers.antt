-- `mark` meets its contract: past the last mark, one place has no entry, and the other is the first. Assumes nothing.
use mathlib.Core.Path.{◌≡◌, sym, ap, ◌∙◌}
use Prim.Native.Nat.{ℕ, ◌-◌, ◌*◌}
use native.Mathlib.Omega.{arith}
use lib.ListN.{get_or-eq_default}
use Rattle.sine.specs.Sines.{sines}
use Rattle.sine.specs.Sine.{entry}
use Rattle.sine.proofs.TableLaws.{entries, first}
use Rattle.sine.proofs.mark.Goals as goal

pub returns-then-i-gt89 : goal.returns-then-i-gt89
returns-then-i-gt89 c =
    let none : 179 - 2 * c.args.i ≡ 0 = omega arith in
    (sym (get_or-eq_default sines 0 (omega (arith, entries))), sym (ap (λ (n : ℕ). entry n) none ∙ first))
