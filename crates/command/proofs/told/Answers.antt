-- `told` meets its contract: letter by letter. Assumes nothing.
use mathlib.Core.Path.{sym, ◌∙◌}
use borrow.Author.Tests.{ne_eqb}
use borrow.Author.Rules.{rules}
use Rattle.command.specs.Forms.{told}
use Rattle.command.proofs.told.Goals as goal

pub returns-in-110 : goal.returns-in-110
unfolding told
returns-in-110 c = rw c.in-110.is c.whole.ensures

pub returns-in-104 : goal.returns-in-104
unfolding told
returns-in-104 c = rw c.in-104.is c.whole-in-104.ensures

pub returns-in-111 : goal.returns-in-111
unfolding told
returns-in-111 c = rw c.in-111.is c.whole-in-111.ensures

pub returns-in-122 : goal.returns-in-122
unfolding told
returns-in-122 c = rw c.in-122.is c.signed.ensures

pub returns-then-same : goal.returns-then-same
unfolding told
returns-then-same c = rw (c.in-117.is, sym c.same.ensures ∙ c.if-same.true)

pub returns-else-same : goal.returns-else-same
unfolding told
returns-else-same c = rw (c.in-117.is, sym c.same.ensures ∙ c.if-same.false, ← c.same-in-117.ensures) c.only.ensures

pub returns-in-120 : goal.returns-in-120
unfolding told
returns-in-120 c = rw (c.in-120.is, ← c.is_hex.ensures) c.only-in-120.ensures

pub returns-in-97 : goal.returns-in-97
unfolding told
returns-in-97 c = rw (c.in-97.is, ← c.same-in-97.ensures) c.only-in-97.ensures

pub returns-in_default : goal.returns-in_default
unfolding told
returns-in_default c =
    rw (
      ne_eqb c.args.letter 110 (search rules),
      ne_eqb c.args.letter 104 (search rules),
      ne_eqb c.args.letter 111 (search rules),
      ne_eqb c.args.letter 122 (search rules),
      ne_eqb c.args.letter 117 (search rules),
      ne_eqb c.args.letter 120 (search rules),
      ne_eqb c.args.letter 97 (search rules),
      ← c.same-in_default.ensures,
    ) c.only-in_default.ensures
