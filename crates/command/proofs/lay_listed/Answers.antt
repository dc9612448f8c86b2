-- `lay_listed` meets its contract: among the forms that are left, and nothing is laid before one is found. Assumes nothing.
use mathlib.Core.Path.{◌≡◌, refl, sym, ap, ◌∙◌}
use mathlib.Core.List.{◌∷◌}
use Prim.Native.Nat.{◌+◌}
use native.Mathlib.Omega.{arith}
use lib.ListN.{length}
use Rattle.line.specs.Words.{colon, fields_at, part}
use Rattle.line.proofs.EndLaws.{end_inside}
use Rattle.line.proofs.FieldLaws.{fields_here, fields_past}
use Rattle.command.specs.declared.Flaw.TheVariants.{Misshapen}
use Rattle.command.proofs.FormLaws.{lays_flaw, list_none, list_here, list_on}
use Rattle.command.proofs.lay_listed.Goals as goal

pub loop-from-init : goal.loop-from-init
loop-from-init c = (refl, refl)

pub slice_bounds-form-count : goal.slice_bounds-form-count
slice_bounds-form-count c =
    let z = end_inside colon c.args.forms.now c.loop-from.from c.loop-from-test.true in
    omega (arith, c.field_end-to.ensures)

pub slice_bounds-form-start : goal.slice_bounds-form-start
slice_bounds-form-start c =
    let z = end_inside colon c.args.forms.now c.loop-from.from c.loop-from-test.true in
    omega (arith, c.field_end-to.ensures)

pub slice_bounds-form-end : goal.slice_bounds-form-end
slice_bounds-form-end c =
    let z = end_inside colon c.args.forms.now c.loop-from.from c.loop-from-test.true in
    omega (arith, c.field_end-to.ensures)

pub lay_fields-requires : goal.lay_fields-requires
lay_fields-requires c = omega (arith, c.requires, ap length c.loop-from.invariant.0)

pub shape_of-numbers-then-fits : goal.shape_of-numbers-then-fits
shape_of-numbers-then-fits c = omega (arith, ap length c.loop-from.invariant.0)

pub returns-then-fits : goal.returns-then-fits
returns-then-fits c =
    let q = c.args in
    let l = c.loop-from in
    let to = c.field_end-to.result in
    let f : fields_at q.forms.now l.from ≡ part q.forms.now l.from to ∷ fields_at q.forms.now (to + 1) = rw c.field_end-to.ensures (fields_here q.forms.now l.from c.loop-from-test.true) in
    rw (← l.invariant.1, list_here q.word.now f (sym c.fits.ensures ∙ c.if-fits.true), ← l.invariant.0) c.lay_fields.ensures

pub overflow_add-from : goal.overflow_add-from
overflow_add-from c =
    let z = end_inside colon c.args.forms.now c.loop-from.from c.loop-from-test.true in
    omega (arith, c.field_end-to.ensures)

pub loop-from-smaller : goal.loop-from-smaller
loop-from-smaller c =
    let z = end_inside colon c.args.forms.now c.loop-from.from c.loop-from-test.true in
    omega (arith, c.field_end-to.ensures)

pub loop-from-preserved : goal.loop-from-preserved
loop-from-preserved c =
    let q = c.args in
    let l = c.loop-from in
    let to = c.field_end-to.result in
    let f : fields_at q.forms.now l.from ≡ part q.forms.now l.from to ∷ fields_at q.forms.now (to + 1) = rw c.field_end-to.ensures (fields_here q.forms.now l.from c.loop-from-test.true) in
    (l.invariant.0, sym (list_on q.word.now f (sym c.fits.ensures ∙ c.if-fits.false)) ∙ l.invariant.1)

pub shape_of-numbers : goal.shape_of-numbers
shape_of-numbers c = omega (arith, ap length c.loop-from.invariant.0)

pub returns : goal.returns
returns c =
    let q = c.args in
    let l = c.loop-from in
    rw (← l.invariant.1, list_none q.word.now (fields_past q.forms.now l.from c.loop-from-test.false), ← l.invariant.0) (lays_flaw l.numbers q.place Misshapen)
