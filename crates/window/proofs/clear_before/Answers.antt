-- `clear_before` meets its contract: as many minutes are jumped over as the window has, or those before the minute's own word are. Assumes
-- nothing.
use mathlib.Core.Path.{refl, ap, ap₂, ◌∙◌}
use mathlib.Core.List.{List}
use Prim.Native.Nat.{ℕ, ◌-◌, ◌%◌}
use borrow.Author.Rules.{rules}
use Rattle.window.specs.Window.{mark, wiped}
use Rattle.window.proofs.WordLaws.{wiped_none}
use Rattle.window.proofs.JumpLaws.{jumped_all, jumped_on}
use Rattle.window.proofs.clear_before.Goals as goal

pub returns-then-m-t : goal.returns-then-m-t
returns-then-m-t c =
    let r = c.before.before in
    let a = c.args in (
      search rules,
      refl,
      ap (λ (x : List ℕ). mark x a.m) (wiped_none c.wipe.new.window a.m a.m (search rules) ∙ c.wipe.ensures)
          ∙ jumped_all a.window.now a.t a.m (search rules) (search rules) (λ j. (c.slice_known-1.given j).fits) (search rules),
    )

pub returns : goal.returns
returns c =
    let a = c.args in (
      search rules,
      search rules,
      ap₂ (λ (x : List ℕ) (from : ℕ). mark (wiped x from (a.m - from)) a.m) c.wipe-2.ensures c.max.ensures
          ∙ jumped_on a.window.now a.t a.m (search rules) (a.m - a.m % 64) (search rules) (search rules),
    )
