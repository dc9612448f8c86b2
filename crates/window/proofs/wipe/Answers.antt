-- `wipe` meets its contract. The invariant: wiping what is left, from the first minute of a word on, gives what wiping all gives.
-- Assumes nothing.
use mathlib.Core.Path.{◌≡◌, sym, ap, ap₂, ◌∙◌}
use Prim.Native.Nat.{ℕ, ◌+◌, ◌-◌, ◌*◌, ◌/◌, ◌%◌}
use native.Mathlib.Nat.{mod-le}
use native.Mathlib.Omega.{arith}
use lib.Dec.{lit<}
use lib.ListN.{get_or, set}
use borrow.Author.Rules.{rules}
use Rattle.window.specs.Window.{wiped}
use Rattle.window.proofs.BitLaws.{power_pos}
use Rattle.window.proofs.WordLaws.{wiped_none}
use Rattle.window.proofs.WipeLaws.{set_fits, wiped_first, wiped_next}
use Rattle.window.proofs.wipe.Goals as goal

pub returns-then-to-from : goal.returns-then-to-from
returns-then-to-from c = let a = c.args in sym (wiped_none a.window.now a.from a.to c.if-to-from.true)

pub nonzero_rem-window : goal.nonzero_rem-window
nonzero_rem-window c = power_pos 0 _ c.power.result c.power.ensures

pub loop-k-init : goal.loop-k-init
loop-k-init c =
    let a = c.args in
    let w = a.window.now in
    let x = get_or w c.word_of-i.result 0 in
    let next : (a.from / 64 + 1) * 64 ≡ a.from - a.from % 64 + 64 = omega arith in (
      search rules,
      set_fits w c.word_of-i.result (x % c.power.result) (search rules)
          (omega (arith, mod-le x c.power.result, c.slice_known-2-1.given c.word_of-i.result))
          (λ j. (c.slice_known-2-1.given j).fits),
      wiped_first w a.from a.to (search rules) (λ j. (c.slice_known-2-1.given j).fits) (search rules) (search rules) _ _
          (ap₂ (λ (i p : ℕ). set w i (get_or w i 0 % p)) c.word_of-i.ensures c.power.ensures)
          next,
    )

pub loop-k-preserved : goal.loop-k-preserved
loop-k-preserved c =
    let l = c.loop-k in
    let to = c.args.to in
    let at = l.k * 64 in
    let on : (l.k + 1) * 64 ≡ at + 64 = omega arith in (
      search rules,
      set_fits l.window c.word_of.result 0 (search rules) (lit< tt) l.invariant.1,
      ap (λ (j : ℕ). wiped (set l.window c.word_of.result 0) j (to - j)) on
          ∙ wiped_next l.window at to l.invariant.0 l.invariant.1 (omega arith) (search rules) _
          (ap (λ (i : ℕ). set l.window i 0) c.word_of.ensures) (omega arith)
          ∙ l.invariant.2,
    )

pub returns : goal.returns
returns c =
    let l = c.loop-k in
    sym (wiped_none l.window (l.k * 64) c.args.to (omega arith)) ∙ l.invariant.2
