-- `record_at` meets its contract: the body of its kind, where one was found. Assumes nothing.
use mathlib.Core.Path.{◌≡◌, sym, ap, ◌∙◌}
use mathlib.Core.Bool.{true}
use mathlib.Core.List.{List}
use Prim.Native.Nat.{ℕ, ◌+◌, ◌≤◌}
use native.Mathlib.Omega.{arith}
use lib.ListN.{length, drop}
use Rattle.watchfile.specs.Rules.{kind_right, size_of}
use Rattle.watchfile.specs.Format.{body_of, body_figures, figures_of}
use Rattle.reader.specs.Read.{row_at, offset_at, record_in, record_at}
use Rattle.reader.specs.Work.{row_of}
use Rattle.reader.specs.declared.Row.{Row}
use Rattle.reader.proofs.ContentsLaws.{part_all, length_part}
use Rattle.reader.proofs.RecordLaws.{nowhere_is, at_is}
use Rattle.reader.proofs.record_at.Goals as goal
use Rattle.reader.proofs.record_at.Goals.{In-Some}

-- what was found: the offset and the row, the body in the file, and so the record
found : (c : In-Some) →
    let q = c.args in
    (c.in-Some.p.at ≡ offset_at q.file.now q.i) × (c.in-Some.p.row ≡ row_of (row_at q.file.now q.i)) × (c.in-Some.p.at + size_of c.in-Some.p.row.kind ≤ length q.file.now)
    × (record_at q.file.now q.i ≡ figures_of (record_in q.file.now q.i)) × (kind_right c.in-Some.p.row.kind ≡ true)
found c =
    let q = c.args in
    at_is q.file.now q.i c.find.result c.in-Some.p c.find.ensures c.in-Some.is

pub slice_bounds-figures_at-count : goal.slice_bounds-figures_at-count
slice_bounds-figures_at-count c = let t = found (goal.at.slice_bounds-figures_at-count c).In-Some in omega (arith, t.2)

pub slice_bounds-figures_at-start : goal.slice_bounds-figures_at-start
slice_bounds-figures_at-start c = let t = found (goal.at.slice_bounds-figures_at-start c).In-Some in omega (arith, t.2)

pub figures_at-requires : goal.figures_at-requires
figures_at-requires c =
    let t = found (goal.at.figures_at-requires c).In-Some in
    (t.4, omega (arith, t.2, length_part c.args.file.now c.in-Some.p.at))

pub returns-in-None : goal.returns-in-None
returns-in-None c = nowhere_is c.args.file.now c.args.i c.find.result c.find.ensures c.in-None.is

pub returns-in-Some : goal.returns-in-Some
returns-in-Some c =
    let q = c.args in
    let s = q.file.now in
    let t = found (goal.at.returns-in-Some c).In-Some in
    c.figures_at.ensures
    ∙ ap (λ (p : List ℕ). body_figures c.in-Some.p.row.minute (body_of c.in-Some.p.row.kind p)) (part_all s c.in-Some.p.at)
    ∙ ap (λ (k : ℕ). body_figures c.in-Some.p.row.minute (body_of c.in-Some.p.row.kind (drop k s))) t.0
    ∙ ap (λ (r : Row). body_figures r.minute (body_of r.kind (drop (offset_at s q.i) s))) t.1
    ∙ sym t.3
