-- `work` meets its contract: what the dial tells, then the course. Assumes nothing.
use mathlib.Core.Path.{◌≡◌, sym, ap, subst, ◌∙◌}
use borrow.Author.Rules.{rules}
use Rattle.std.specs.Prelude.{Some, None, Ok, Err}
use Rattle.store.proofs.NotingLaws.{told_dial, told_no_course, told_beyond, told_wind}
use Rattle.store.specs.declared.HearingRefusal.TheVariants.{NoCourse}
use Rattle.store.proofs.work.Goals as goal

pub returns-in-Err-OutsideDial : goal.returns-in-Err-OutsideDial
returns-in-Err-OutsideDial c = told_dial c.args.store.now c.args.n c.measure-told.ensures (search rules)

pub returns-in_err-course-in-Err-OutsideCertificate : goal.returns-in_err-course-in-Err-OutsideCertificate
returns-in_err-course-in-Err-OutsideCertificate c =
    let h : c.from_residual.result ≡ Err (NoCourse (record { 0 = c.args.n.minute })) = search rules in
    rw h (told_no_course c.args.store.now c.args.n c.measure-told.ensures c.course_at.ensures (search rules) (search rules))

pub returns-in_err-course-in-Ok : goal.returns-in_err-course-in-Ok
returns-in_err-course-in-Ok c =
    let h : c.from_residual-in_err-course-in-Ok.result ≡ Err (NoCourse (record { 0 = c.args.n.minute })) = search rules in
    rw h (told_no_course c.args.store.now c.args.n c.measure-told.ensures c.course_at.ensures (search rules) (search rules))

pub returns-in_ok-course-in-Err-OutsideCertificate : goal.returns-in_ok-course-in-Err-OutsideCertificate
returns-in_ok-course-in-Err-OutsideCertificate c =
    told_beyond c.args.store.now c.args.n c.measure-told.ensures c.course_at.ensures (search rules) {ahead = c.in_ok-course-in-Err-OutsideCertificate.field-0} (search rules)

pub returns-in_ok-course-in-Ok : goal.returns-in_ok-course-in-Ok
returns-in_ok-course-in-Ok c =
    told_wind c.args.store.now c.args.n c.measure-told.ensures c.course_at.ensures {v = c.in-Ok.v} (search rules) {ahead = c.in_ok-course-in-Ok.field-0} (search rules) c.from_bow.result.0 c.from_bow.ensures
