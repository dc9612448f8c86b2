-- `heard_among` meets its contract. The invariant: the minutes before the word are counted. What is left then lies in one word.
-- Assumes nothing.
use mathlib.Core.Path.{◌≡◌, refl, ap, ◌∙◌}
use Prim.Native.Nat.{ℕ, ◌+◌, ◌-◌, ◌*◌, ◌%◌}
use native.Mathlib.Omega.{arith}
use borrow.Author.Rules.{rules}
use Rattle.window.specs.Layout.{word_of}
use Rattle.window.specs.Bits.{total}
use Rattle.window.specs.Window.{bit_of}
use Rattle.window.proofs.CountLaws.{total_word, total_none, total_on}
use Rattle.window.proofs.heard_among.Goals as goal

pub loop-k-init : goal.loop-k-init
loop-k-init c =
    let a = c.args in
    (search rules, search rules, refl, search rules, omega (arith, total_none (bit_of a.window.now) a.from (a.from - a.from) (omega arith)))

pub loop-k-preserved : goal.loop-k-preserved
loop-k-preserved c =
    let l = c.loop-k in
    let a = c.args in
    let w = a.window.now in
    let n = 64 - l.at % 64 in
    let here : word_of (l.k * 64) ≡ word_of l.at = omega (arith, l.invariant.2) in
    let behind : l.at + n ≡ l.k * 64 + 64 = omega (arith, l.invariant.2) in (
      omega arith,
      omega arith,
      omega arith,
      omega arith,
      total_on (bit_of w) a.from l.at n l.sum c.ones_in-sum.result l.invariant.0 l.invariant.4
          ((rw (c.word_of.ensures, here) at c.ones_in-sum.ensures.0) ∙ total_word w l.at n (omega arith))
          ∙ ap (λ (x : ℕ). total (bit_of w) a.from (x - a.from)) behind,
    )

pub returns-then-at-to : goal.returns-then-at-to
returns-then-at-to c =
    let l = c.loop-k in
    let a = c.args in
    let all : l.at - a.from ≡ a.n = omega (arith, c.if-at-to.true) in
    (l.invariant.4 ∙ ap (total (bit_of a.window.now) a.from) all, omega arith)

pub returns : goal.returns
returns c =
    let l = c.loop-k in
    let a = c.args in
    let w = a.window.now in
    let n = a.from + a.n - l.at in
    let all : l.at + n - a.from ≡ a.n = omega arith in (
      total_on (bit_of w) a.from l.at n l.sum c.ones_in.result l.invariant.0 l.invariant.4
          ((rw c.word_of-2.ensures at c.ones_in.ensures.0) ∙ total_word w l.at n (omega arith))
          ∙ ap (total (bit_of w) a.from) all,
      search rules,
    )
