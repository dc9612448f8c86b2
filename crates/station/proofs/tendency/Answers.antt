-- `tendency` meets its contract: each step's tests, then those of the next. Assumes nothing.
use mathlib.Core.Path.{refl, ap, ◌∙◌}
use mathlib.Core.List.{[]}
use native.Mathlib.Omega.{arith}
use lib.IntN.{nat_abs}
use borrow.Author.Tests.{lt-ltb, le-ltb}
use Prim.Native.Nat.{◌-◌}
use Rattle.std.proofs.lemmas.Result.{err_from_is_err_and}
use Rattle.quantity.specs.Limits.{three_hours}
use Rattle.station.specs.Source.{held}
use Rattle.station.specs.Questions.{PressureRule}
use Rattle.station.proofs.AnswerLaws.{refuses, goes_on, by_rule, pass, stop, end}
use Rattle.std.specs.Prelude.{Ok, Err}
use Rattle.station.proofs.PressureLaws.{worked_as, at_size, less}
use Rattle.station.proofs.tendency.Goals as goal

pub returns-in_err-begin : goal.returns-in_err-begin
returns-in_err-begin c =
    let p = err_from_is_err_and c.from_residual.result c.from_residual.ensures.1 in
    rw (p.1, p.2) (λ tables tabled. refuses _ _ _ _ _ c.in_err-begin.ensures, refl)

pub returns-then-minute-lt-THREE_HOURS : goal.returns-then-minute-lt-THREE_HOURS
returns-then-minute-lt-THREE_HOURS c =
    (λ tables tabled. goes_on _ _ _ _ _ _ c.in_ok-begin.ensures (stop _ _ _ (lt-ltb c.args.minute three_hours c.if-minute-lt-THREE_HOURS.true)), refl)

pub returns-in-Err : goal.returns-in-Err
returns-in-Err c = (
  λ tables tabled.
      goes_on _ _ _ _ _ _ c.in_ok-begin.ensures
      (pass _ _ _ _ (le-ltb c.args.minute three_hours c.if-minute-lt-THREE_HOURS.false)
      (refuses _ _ _ _ _ c.in-Err.ensures)),
  refl,
)

pub returns-in-Err-sea_level_at : goal.returns-in-Err-sea_level_at
returns-in-Err-sea_level_at c = (
  λ tables tabled.
      goes_on _ _ _ _ _ _ c.in_ok-begin.ensures
      (pass _ _ _ _ (le-ltb c.args.minute three_hours c.if-minute-lt-THREE_HOURS.false)
      (goes_on _ _ _ _ _ _ c.in-Ok.ensures
      (refuses _ _ _ _ _ c.in-Err-sea_level_at.ensures))),
  refl,
)

pub returns-in_err-was : goal.returns-in_err-was
returns-in_err-was c =
    let p = err_from_is_err_and c.from_residual-in_err-was.result c.from_residual-in_err-was.ensures.1 in
    rw (p.1, p.2) (
      λ tables tabled.
          goes_on _ _ _ _ _ _ c.in_ok-begin.ensures
          (pass _ _ _ _ (le-ltb c.args.minute three_hours c.if-minute-lt-THREE_HOURS.false)
          (goes_on _ _ _ _ _ _ c.in-Ok.ensures
          (goes_on _ _ _ _ _ _ c.in-Ok-sea_level_at.ensures
          (refuses _ _ _ _ _ (worked_as _ _ _ (Err c.in_err-was.field-0.0) (by_rule _ _ _ c.in-Ok.ensures) c.in_err-was.was))))),
      refl,
    )

pub returns-in_err-is : goal.returns-in_err-is
returns-in_err-is c =
    let p = err_from_is_err_and c.from_residual-in_err-is.result c.from_residual-in_err-is.ensures.1 in
    rw (p.1, p.2) (
      λ tables tabled.
          goes_on _ _ _ _ _ _ c.in_ok-begin.ensures
          (pass _ _ _ _ (le-ltb c.args.minute three_hours c.if-minute-lt-THREE_HOURS.false)
          (goes_on _ _ _ _ _ _ c.in-Ok.ensures
          (goes_on _ _ _ _ _ _ c.in-Ok-sea_level_at.ensures
          (goes_on _ _ _ _ _ _ (worked_as _ _ _ (Ok c.in_ok-was.was') (by_rule _ _ _ c.in-Ok.ensures) c.in_ok-was.was)
          (refuses _ [] _ _ _ (worked_as _ _ _ (Err c.in_err-is.field-0.0) (by_rule _ _ _ c.in-Ok-sea_level_at.ensures) c.in_err-is.was)))))),
      refl,
    )

pub minus-requires : goal.minus-requires
minus-requires c =
    let s = c.args.store.now in
    let m = c.args.minute in
    let earlier = by_rule _ _ _ c.in-Ok.ensures in
    let later = by_rule _ _ _ c.in-Ok-sea_level_at.ensures in
    let was = by_rule _ (PressureRule (held s) (m - three_hours)) _ (worked_as _ _ _ (Ok c.in_ok-was.was') earlier c.in_ok-was.was) in
    let is = by_rule _ (PressureRule (held s) m) _ (worked_as _ _ _ (Ok c.in_ok-is.is') later c.in_ok-is.was) in
    omega (
      arith,
      ap nat_abs was,
      ap nat_abs is,
      at_size s (m - three_hours) earlier.readings earlier.are,
      at_size s m later.readings later.are,
    )

pub returns : goal.returns
returns c = (
  λ tables tabled.
      let s = c.args.store.now in
      let m = c.args.minute in
      let at_first = worked_as _ _ _ (Ok c.in_ok-was.was') (by_rule _ _ _ c.in-Ok.ensures) c.in_ok-was.was in
      let at_last = worked_as _ _ _ (Ok c.in_ok-is.is') (by_rule _ _ _ c.in-Ok-sea_level_at.ensures) c.in_ok-is.was in
      let was = by_rule _ (PressureRule (held s) (m - three_hours)) _ at_first in
      let is = by_rule _ (PressureRule (held s) m) _ at_last in
      goes_on _ _ _ _ _ _ c.in_ok-begin.ensures
      (pass _ _ _ _ (le-ltb c.args.minute three_hours c.if-minute-lt-THREE_HOURS.false)
      (goes_on _ _ _ _ _ _ c.in-Ok.ensures
      (goes_on _ _ _ _ _ _ c.in-Ok-sea_level_at.ensures
      (goes_on _ _ _ _ _ _ at_first
      (goes_on _ [] _ _ _ _ at_last
      (end _ _ (record { change = c.minus.ensures.value ∙ less is was; absent = c.missing_minutes.ensures }))))))),
  refl,
)
