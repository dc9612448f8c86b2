-- `figures_at` meets its contract: field by field, of each kind those that it has. Assumes nothing.
use mathlib.Core.Path.{◌∙◌}
use native.Mathlib.Omega.{arith}
use Rattle.reader.proofs.SizeLaws.{size_least, figures_by_kind}
use Rattle.reader.proofs.figures_at.Goals as goal

pub first_at-requires : goal.first_at-requires
first_at-requires c = omega (arith, c.requires.1, size_least c.args.kind)

pub second_at-requires : goal.second_at-requires
second_at-requires c = c.requires.1

pub third_at-requires : goal.third_at-requires
third_at-requires c = c.requires.1

pub fourth_at-requires : goal.fourth_at-requires
fourth_at-requires c = c.requires.1

pub fifth_at-requires : goal.fifth_at-requires
fifth_at-requires c = c.requires.1

pub returns : goal.returns
returns c =
    let q = c.args in
    (rw (
      c.from.ensures,
      c.fifth_at.ensures,
      c.fourth_at.ensures,
      c.third_at.ensures,
      c.second_at.ensures,
      c.first_at.ensures,
    ))
    ∙ figures_by_kind q.minute q.kind q.s.now c.requires.0
