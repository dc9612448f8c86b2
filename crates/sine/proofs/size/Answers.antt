-- `size` meets its contract: the fold is one of two, by the test. Assumes nothing.
use mathlib.Core.Path.{sym, ap, ◌∙◌}
use Prim.Native.Nat.{ℕ, ◌%◌}
use native.Mathlib.Omega.{arith}
use Rattle.sine.specs.Sine.{entry, size}
use Rattle.sine.proofs.SineLaws.{fold_low, fold_high}
use Rattle.sine.proofs.size.Goals as goal

pub returns-then-y-le180 : goal.returns-then-y-le180
unfolding size
returns-then-y-le180 c = c.entry.ensures ∙ ap (λ (i : ℕ). entry i) (sym (fold_low (c.args.x % 360) c.if-y-le180.true))

pub returns : goal.returns
unfolding size
returns c = c.entry-2.ensures ∙ ap (λ (i : ℕ). entry i) (sym (fold_high (c.args.x % 360) (omega (arith, c.if-y-le180.false))))
