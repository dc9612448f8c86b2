-- `lay_word` meets its contract: by the letter of its number, or by the forms of the list. Assumes nothing.
use mathlib.Core.Path.{sym, ◌∙◌}
use Prim.Native.Nat.{◌+◌}
use native.Mathlib.Omega.{arith}
use lib.ListN.{length, get_or}
use Rattle.std.specs.Prelude.{Ok}
use Rattle.text.proofs.PutLaws.{put_inside}
use Rattle.line.specs.Words.{colon, field}
use Rattle.line.proofs.EndLaws.{before_short}
use Rattle.line.proofs.FieldLaws.{fields_here, fields_past, more_first}
use Rattle.command.specs.Forms.{ends}
use Rattle.command.specs.declared.Flaw.TheVariants.{NotSuch, LeftOver}
use Rattle.command.proofs.FormLaws.{lays_flaw, lays_one, such_told, not_such_lem, fixed_told, left_told_lem, left_over, left_listed}
use Rattle.command.proofs.lay_word.Goals as goal

pub bounds-form-number : goal.bounds-form-number
bounds-form-number c = omega (arith, c.requires.0, before_short colon c.args.form.now)

pub returns-in_default : goal.returns-in_default
returns-in_default c =
    let q = c.args in
    let letter = get_or q.form.now q.number 0 in
    let e = fixed_told q.form.now q.number q.word.now (omega (arith, c.requires.0)) in
    let n = not_such_lem letter (ends (Ok tt)) (sym c.told.ensures ∙ c.in_default.is) in
    rw (e, n) (lays_flaw q.numbers.now q.place (NotSuch letter))

pub returns-then-number-fixed : goal.returns-then-number-fixed
returns-then-number-fixed c =
    let q = c.args in
    let letter = get_or q.form.now q.number 0 in
    let e = fixed_told q.form.now q.number q.word.now (omega (arith, c.requires.0)) in
    let n = such_told letter (ends (Ok tt)) (sym c.told.ensures ∙ c.in-Some.is) in
    let p = c.put.ensures in
    let z = put_inside p in
    rw (e, n) (lays_one p (omega arith))

pub returns-then-fixed-form : goal.returns-then-fixed-form
returns-then-fixed-form c =
    let q = c.args in
    let fixed = c.requires.0 in
    let e = left_told_lem q.form.now q.number q.word.now (omega arith) in
    let n = left_over q.word.now (more_first q.form.now ∙ fields_past q.form.now (length (field q.form.now) + 1) (omega arith)) in
    rw (e, n) (lays_flaw q.numbers.now q.place LeftOver)

pub overflow_add-fixed : goal.overflow_add-fixed
overflow_add-fixed c = omega (arith, c.requires.0, before_short colon c.args.form.now)

pub returns : goal.returns
returns c =
    let q = c.args in
    let fixed = c.requires.0 in
    let short = before_short colon q.form.now in
    let e = left_told_lem q.form.now q.number q.word.now (omega arith) in
    let m = more_first q.form.now in
    let n = left_listed q.word.now (m ∙ fields_here q.form.now (length (field q.form.now) + 1) (omega arith)) in
    rw (e, n, m, ← fixed) c.lay_listed.ensures
