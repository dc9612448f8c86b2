-- `fits` meets its contract: by the form's first letter. Assumes nothing.
use mathlib.Core.Path.{sym, ap, ◌∙◌}
use native.Mathlib.Omega.{arith}
use borrow.Author.Rules.{rules}
use lib.ListN.{get_or, length-take}
use Rattle.line.specs.Words.{colon}
use Rattle.line.proofs.EndLaws.{end_inside}
use Rattle.command.specs.Forms.{told}
use Rattle.command.proofs.FormLaws.{fits_none, fits_any, fits_picked, first_field, says_is}
use Rattle.command.proofs.fits.Goals.{then-is_empty-via-then-is_empty, then-is_empty-via-else-is_empty+then-not-picks}
use Rattle.command.proofs.fits.Goals as goal

pub returns-then-is_empty : goal.returns-then-is_empty
returns-then-is_empty c =
    let form = c.args.form.now in
    let word = c.args.word.now in
    elim c.then-is_empty.branch [
      | then-is_empty-via-then-is_empty w ↦ sym (fits_none form word (search rules))
      | then-is_empty-via-else-is_empty+then-not-picks w ↦ sym (fits_any form word (sym w.picks.ensures ∙ w.if-not-picks.true))
    ]

pub slice_bounds-told-end : goal.slice_bounds-told-end
slice_bounds-told-end c =
    let z = end_inside colon c.args.word.now 0 (omega arith) in
    omega (arith, c.field_end-to.ensures, length-take c.field_end-to.result c.args.word.now)

pub returns : goal.returns
returns c =
    let form = c.args.form.now in
    let word = c.args.word.now in
    let t = ap (told (get_or form 0 0)) (sym (first_field word c.field_end-to.result c.field_end-to.ensures)) ∙ sym c.told.ensures in
    c.is_some.ensures ∙ says_is c.told.result ∙ sym (fits_picked form word (sym c.picks.ensures ∙ c.if-not-picks.false) t)
