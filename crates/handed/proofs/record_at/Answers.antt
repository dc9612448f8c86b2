-- `record_at` meets its contract: the figures at its place, where there are so many. Assumes nothing.
use mathlib.Core.Path.{ap, ◌∙◌}
use Prim.Native.Nat.{◌*◌}
use native.Mathlib.Omega.{arith}
use borrow.Author.Tests.{lt-ltb, le-ltb}
use Rattle.handed.specs.Handed.{record_of}
use Rattle.handed.specs.Words.{figures_in, held}
use Rattle.handed.proofs.WordLaws.{part_all, length_part, length_records}
use Rattle.handed.proofs.record_at.Goals as goal

pub returns-then-count-i : goal.returns-then-count-i
returns-then-count-i c =
    let q = c.args in
    rw (le-ltb q.i (held q.words.now) (omega (arith, c.count.ensures, length_records q.words.now, c.if-count-i.true)))

pub overflow_mul-at : goal.overflow_mul-at
overflow_mul-at c = omega (arith, c.count.ensures, length_records c.args.words.now)

pub offset_bounds-words-at : goal.offset_bounds-words-at
offset_bounds-words-at c = omega (arith, c.count.ensures, length_records c.args.words.now)

pub slice_bounds-figures_in-count : goal.slice_bounds-figures_in-count
slice_bounds-figures_in-count c = omega (arith, c.count.ensures, length_records c.args.words.now)

pub slice_bounds-figures_in-start : goal.slice_bounds-figures_in-start
slice_bounds-figures_in-start c = omega (arith, c.count.ensures, length_records c.args.words.now)

pub figures_in-requires : goal.figures_in-requires
figures_in-requires c =
    let w = c.args.words.now in
    omega (arith, c.count.ensures, length_records w, length_part w (7 * c.args.i))

pub returns : goal.returns
returns c =
    let q = c.args in
    let w = q.words.now in
    c.record_of.ensures
    ∙ ap record_of (c.figures_in.ensures ∙ ap figures_in (part_all w (7 * q.i)))
    ∙ rw (lt-ltb q.i (held w) (omega (arith, c.count.ensures, length_records w, c.if-count-i.false)))
