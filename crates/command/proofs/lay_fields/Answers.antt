-- `lay_fields` meets its contract: who lays the fields that are left, by the letters that are left, has laid all. Assumes nothing.
use mathlib.Core.Path.{◌≡◌, refl, sym, ◌∙◌}
use mathlib.Core.List.{◌∷◌}
use Prim.Native.Nat.{◌+◌}
use native.Mathlib.Omega.{arith}
use lib.ListN.{get_or, drop}
use borrow.Author.Tests.{eq-eqb, ne_eqb}
use Rattle.std.specs.Prelude.{Ok, Err}
use Rattle.text.proofs.PutLaws.{put_inside}
use Rattle.line.specs.Words.{colon, fields_at, part}
use Rattle.line.proofs.EndLaws.{end_inside}
use Rattle.line.proofs.FieldLaws.{fields_here, fields_past, fields_all}
use Rattle.command.specs.Forms.{fields_told}
use Rattle.command.specs.declared.Flaw.TheVariants.{NotSuch, Misshapen}
use Rattle.command.proofs.FormLaws.{lays_flaw, lays_done, lays_behind, point_told, missing_told, field_told, all_told, more_told, such_told, not_such_lem}
use borrow.Author.Rules.{rules}
use Rattle.command.proofs.lay_fields.Goals as goal

pub loop-letter-init : goal.loop-letter-init
loop-letter-init c = (search rules, c.requires, refl, λ after r p. rw (fields_all c.args.word.now) at p)

pub loop-letter-preserved-then-letter-eq46 : goal.loop-letter-preserved-then-letter-eq46
loop-letter-preserved-then-letter-eq46 c =
    let q = c.args in
    let l = c.loop-letter in
    let p = c.put-place.ensures in
    let z = put_inside p in
    let e = point_told q.form.now l.letter-index (fields_at q.word.now l.from) c.loop-letter-test.true (eq-eqb _ _ c.if-letter-eq46.true) in
    (l.invariant.0, omega arith, z.0 ∙ l.invariant.2, λ after r s. l.invariant.3 after r (rw e (lays_behind p s)))

pub returns-then-word-from : goal.returns-then-word-from
returns-then-word-from c =
    let q = c.args in
    let l = c.loop-letter in
    let e = missing_told q.form.now l.letter-index (fields_at q.word.now l.from) c.loop-letter-test.true (ne_eqb _ _ c.if-letter-eq46.false) (fields_past q.word.now l.from c.if-word-from.true) in
    l.invariant.3 _ (Err Misshapen) (rw e (lays_flaw l.numbers l.place Misshapen))

pub slice_bounds-told-count : goal.slice_bounds-told-count
slice_bounds-told-count c =
    let z = end_inside colon c.args.word.now c.loop-letter.from (omega arith) in
    omega (arith, c.field_end-to.ensures)

pub slice_bounds-told-start : goal.slice_bounds-told-start
slice_bounds-told-start c =
    let z = end_inside colon c.args.word.now c.loop-letter.from (omega arith) in
    omega (arith, c.field_end-to.ensures)

pub slice_bounds-told-end : goal.slice_bounds-told-end
slice_bounds-told-end c =
    let z = end_inside colon c.args.word.now c.loop-letter.from (omega arith) in
    omega (arith, c.field_end-to.ensures)

pub returns-in_default : goal.returns-in_default
returns-in_default c =
    let q = c.args in
    let l = c.loop-letter in
    let to = c.field_end-to.result in
    let letter = get_or q.form.now l.letter-index 0 in
    let f : fields_at q.word.now l.from ≡ part q.word.now l.from to ∷ fields_at q.word.now (to + 1) = rw c.field_end-to.ensures (fields_here q.word.now l.from (omega arith)) in
    let e = field_told q.form.now l.letter-index (fields_at q.word.now l.from) c.loop-letter-test.true (ne_eqb _ _ c.if-letter-eq46.false) f in
    let n = not_such_lem letter (fields_told (drop (l.letter-index + 1) q.form.now) (fields_at q.word.now (to + 1))) (sym c.told.ensures ∙ c.in_default.is) in
    l.invariant.3 _ (Err (NotSuch letter)) (rw (e, n) (lays_flaw l.numbers l.place (NotSuch letter)))

pub loop-letter-preserved : goal.loop-letter-preserved
loop-letter-preserved c =
    let q = c.args in
    let l = c.loop-letter in
    let to = c.field_end-to.result in
    let letter = get_or q.form.now l.letter-index 0 in
    let inside = end_inside colon q.word.now l.from (omega arith) in
    let f : fields_at q.word.now l.from ≡ part q.word.now l.from to ∷ fields_at q.word.now (to + 1) = rw c.field_end-to.ensures (fields_here q.word.now l.from (omega arith)) in
    let e = field_told q.form.now l.letter-index (fields_at q.word.now l.from) c.loop-letter-test.true (ne_eqb _ _ c.if-letter-eq46.false) f in
    let n = such_told letter (fields_told (drop (l.letter-index + 1) q.form.now) (fields_at q.word.now (to + 1))) (sym c.told.ensures ∙ c.in-Some.is) in
    let p = c.put-place-in-loop-letter.ensures in
    let z = put_inside p in
    (omega (arith, c.field_end-to.ensures), omega arith, z.0 ∙ l.invariant.2, λ after r s. l.invariant.3 after r (rw (e, n) (lays_behind p s)))

pub returns-then-from-word : goal.returns-then-from-word
returns-then-from-word c =
    let q = c.args in
    let l = c.loop-letter in
    let e = more_told q.form.now l.letter-index c.loop-letter-test.false (fields_here q.word.now l.from c.if-from-word.true) in
    l.invariant.3 _ (Err Misshapen) (rw e (lays_flaw l.numbers l.place Misshapen))

pub returns : goal.returns
returns c =
    let q = c.args in
    let l = c.loop-letter in
    let e = all_told q.form.now l.letter-index c.loop-letter-test.false (fields_past q.word.now l.from c.if-from-word.false) in
    l.invariant.3 _ (Ok l.place) (rw e (lays_done l.numbers l.place l.invariant.1))
