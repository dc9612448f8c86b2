-- `read` meets its contract: the words before the loop's place are written. Assumes nothing.
use mathlib.Core.Path.{refl, sym, ap, ◌∙◌}
use native.Mathlib.Omega.{arith}
use native.Mathlib.Nat.{zero-add}
use Rattle.block.proofs.ListedLaws.{listed_by}
use Rattle.sheet.specs.Sheet.{WORDS, sheet_word}
use Rattle.sheet.proofs.read.Goals as goal

pub loop-i-init : goal.loop-i-init
loop-i-init c = (refl, λ k h. absurd (omega arith))

pub returns : goal.returns
returns c =
    let l = c.loop-i in
    let f = sheet_word c.args.store.now in
    listed_by f 0 l.sheet 0 WORDS l.invariant.0 (λ k h. l.invariant.1 k (omega arith) ∙ ap f (sym (zero-add k)))
