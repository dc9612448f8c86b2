-- `find` meets its contract: test by test. Assumes nothing.
use mathlib.Core.Path.{sym, ◌∙◌}
use native.Mathlib.Omega.{arith}
use lib.ListN.{get_or}
use borrow.Author.Tests.{not-true, not-false}
use Rattle.watchfile.specs.Format.{start_of}
use Rattle.watchfile.proofs.FieldLaws.{size_most}
use Rattle.reader.proofs.ContentsLaws.{part}
use Rattle.reader.proofs.RecordLaws.{few, not_counted, row_cut, no_kind, body_cut, there}
use Rattle.reader.proofs.find.Goals as goal
use Rattle.reader.proofs.find.Goals.{then-file-lt4-via-then-file-lt4, then-file-lt4-via-else-file-lt4+then-i-file}

pub returns-then-file-lt4 : goal.returns-then-file-lt4
returns-then-file-lt4 c =
    let q = c.args in
    elim c.then-file-lt4.branch [
      | then-file-lt4-via-then-file-lt4 w ↦ few q.file.now q.i w.if-file-lt4.true
      | then-file-lt4-via-else-file-lt4+then-i-file w ↦ not_counted q.file.now q.i w.if-i-file.true
    ]

pub returns-then-file-row : goal.returns-then-file-row
returns-then-file-row c = let q = c.args in row_cut q.file.now q.i c.if-i-file.false c.if-file-row.true

pub returns-then-not-kind_right : goal.returns-then-not-kind_right
returns-then-not-kind_right c =
    let q = c.args in
    no_kind q.file.now q.i c.if-i-file.false c.if-file-row.false
    (sym c.kind_right.ensures ∙ not-true _ c.if-not-kind_right.true-raw)

pub overflow_add-at : goal.overflow_add-at
overflow_add-at c =
    let q = c.args in
    omega (arith, size_most (get_or (part q.file.now (start_of q.i)) 0 0))

pub returns-then-file-at : goal.returns-then-file-at
returns-then-file-at c =
    let q = c.args in
    body_cut q.file.now q.i c.if-i-file.false c.if-file-row.false
    (sym c.kind_right.ensures ∙ not-false _ c.if-not-kind_right.false-raw)
    (omega (arith, c.if-file-at.true, c.size_of.ensures, c.get16-at.ensures))

pub returns : goal.returns
returns c =
    let q = c.args in
    rw (c.get32-minute.ensures, c.get16-at.ensures)
    (there q.file.now q.i c.if-i-file.false c.if-file-row.false
    (sym c.kind_right.ensures ∙ not-false _ c.if-not-kind_right.false-raw)
    (omega (arith, c.if-file-at.false, c.size_of.ensures, c.get16-at.ensures)))
