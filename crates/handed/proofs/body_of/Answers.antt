-- `body_of` meets its contract: by its kind. Assumes nothing.
use borrow.Author.Tests.{eq-eqb, ne_eqb}
use Rattle.handed.proofs.body_of.Goals as goal

pub returns-then-r-eq1 : goal.returns-then-r-eq1
returns-then-r-eq1 c = rw (eq-eqb _ 1 c.if-r-eq1.true) c.pressure_body.ensures

pub returns-then-r-eq2 : goal.returns-then-r-eq2
returns-then-r-eq2 c = rw (ne_eqb _ 1 c.if-r-eq1.false, eq-eqb _ 2 c.if-r-eq2.true) c.tendency_body.ensures

pub returns-then-r-eq3 : goal.returns-then-r-eq3
returns-then-r-eq3 c = rw (ne_eqb _ 1 c.if-r-eq1.false, ne_eqb _ 2 c.if-r-eq2.false, eq-eqb _ 3 c.if-r-eq3.true) c.wind_body.ensures
