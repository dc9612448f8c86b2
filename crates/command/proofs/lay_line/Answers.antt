-- `lay_line` meets its contract: who lays the words that are left, from the one with this number on, has laid all. Assumes nothing.
use mathlib.Core.Path.{refl, sym, ap, ◌∙◌}
use native.Mathlib.Omega.{arith}
use Rattle.std.specs.Prelude.{Some, Ok, Err}
use Rattle.text.proofs.PutLaws.{put_inside}
use Rattle.line.proofs.WordLaws.{word_is, word_end_is}
use Rattle.line.proofs.FieldLaws.{end_first}
use Rattle.command.specs.declared.Fault.TheVariants.{WordCount}
use Rattle.command.proofs.FormLaws.{leaves_ends, leaves_behind, lays_ok, lays_err, parses, line_done, line_short, word_then_lem, word_fault}
use borrow.Author.Rules.{rules}
use Rattle.command.proofs.lay_line.Goals as goal

pub loop-word-init : goal.loop-word-init
loop-word-init c = (c.field_end-fixed.ensures ∙ end_first c.args.form.now, search rules, search rules, refl, λ after r g. g)

pub returns-in-Err : goal.returns-in-Err
returns-in-Err c =
    let q = c.args in
    let l = c.loop-word in
    let w = word_is c.next_word.ensures c.in-Some.is in
    let p = c.lay_word.ensures in
    let e = word_fault q.verb q.form.now l.count w c.in-Err.flaw (lays_err p c.in-Err.is) in
    parses (l.invariant.4 _ _ (rw e (record { numbers = p.numbers; command = ap Err c.fault_of.ensures })))

pub loop-word-preserved : goal.loop-word-preserved
loop-word-preserved c =
    let q = c.args in
    let l = c.loop-word in
    let w = word_is c.next_word.ensures c.in-Some.is in
    let p = lays_ok c.lay_word.ensures c.in-Ok.is in
    let z = put_inside p.0 in
    let e = word_then_lem q.verb q.form.now l.count w p.1 in
    (l.invariant.0, omega arith, omega arith, z.0 ∙ l.invariant.3, λ after r g. l.invariant.4 after r (rw e (leaves_behind p.0 g)))

pub returns-then-not-may_end : goal.returns-then-not-may_end
returns-then-not-may_end c =
    let q = c.args in
    let l = c.loop-word in
    let e = line_short q.verb q.form.now l.count (word_end_is c.next_word.ensures c.in_default.is) (sym c.may_end.ensures ∙ c.if-not-may_end.true) in
    parses (l.invariant.4 _ _ (rw e (leaves_ends l.numbers l.place (Err WordCount))))

pub returns : goal.returns
returns c =
    let q = c.args in
    let l = c.loop-word in
    let e = line_done q.verb q.form.now l.count (word_end_is c.next_word.ensures c.in_default.is) (sym c.may_end.ensures ∙ c.if-not-may_end.false) in
    parses (l.invariant.4 _ _ (rw e (leaves_ends l.numbers l.place (Ok (Some (record { verb = q.verb; words = l.count }))))))
