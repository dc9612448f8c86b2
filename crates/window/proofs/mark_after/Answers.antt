-- `mark_after` meets its contract: the word keeps what is above the minute's bit and what is below the first that is cleared.
-- Assumes nothing.
use mathlib.Core.Path.{sym}
use Prim.Native.Nat.{◌%◌}
use native.Mathlib.Omega.{arith}
use lib.ListN.{get_or}
use borrow.Author.Rules.{rules}
use Rattle.window.proofs.BitLaws.{power_pos, over_fits, over_alone}
use Rattle.window.proofs.WipeLaws.{mark_wiped}
use Rattle.window.proofs.mark_after.Goals as goal

pub nonzero_div-window : goal.nonzero_div-window
nonzero_div-window c = power_pos 0 _ c.power-p.result c.power-p.ensures

pub overflow_mul-window : goal.overflow_mul-window
overflow_mul-window c =
    let i = c.word_of-i.result in
    let x = get_or c.args.window.now i 0 in
    record { fits = (over_alone x _ c.power-p.result c.power-p.ensures (search rules) (c.slice_known-2-1.given i).fits).even }

pub overflow_add-window : goal.overflow_add-window
overflow_add-window c =
    let i = c.word_of-i.result in
    let x = get_or c.args.window.now i 0 in
    record { fits = (over_alone x _ c.power-p.result c.power-p.ensures (search rules) (c.slice_known-2-1.given i).fits).odd }

pub overflow_mul-window-2 : goal.overflow_mul-window-2
overflow_mul-window-2 c =
    let i = c.word_of-i.result in
    let x = get_or c.args.window.now i 0 in
    record { fits = (over_alone x _ c.power-p.result c.power-p.ensures (search rules) (c.slice_known-2-1.given i).fits).high }

pub nonzero_rem-window : goal.nonzero_rem-window
nonzero_rem-window c = power_pos 0 _ c.power.result c.power.ensures

pub overflow_add-window-2 : goal.overflow_add-window-2
overflow_add-window-2 c =
    let i = c.word_of-i.result in
    let a = c.args in
    record {
      fits =
          (over_fits (get_or a.window.now i 0) (a.from % 64) (a.m % 64) c.power-p.result c.power.result
          c.power-p.ensures c.power.ensures (omega arith) (omega arith) (c.slice_known-2-1.given i).fits).all;
    }

pub returns : goal.returns
returns c =
    let a = c.args in
    rw (c.word_of-i.ensures, c.power-p.ensures, c.power.ensures)
    (sym (mark_wiped a.window.now a.from a.m (search rules) (search rules) (search rules)))
