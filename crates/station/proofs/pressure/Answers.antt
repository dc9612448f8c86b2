-- `pressure` meets its contract: each step's tests, then those of the next. Assumes nothing.
use mathlib.Core.Path.{refl}
use Rattle.std.proofs.lemmas.Result.{err_from_is_err_and}
use Rattle.station.proofs.AnswerLaws.{refuses, goes_on, by_rule}
use Rattle.station.proofs.pressure.Goals as goal

pub returns-in_err-begin : goal.returns-in_err-begin
returns-in_err-begin c =
    let p = err_from_is_err_and c.from_residual.result c.from_residual.ensures.1 in
    rw (p.1, p.2) (λ tables tabled. refuses _ _ _ _ _ c.in_err-begin.ensures, refl)

pub returns-in-Err : goal.returns-in-Err
returns-in-Err c = (λ tables tabled. goes_on _ _ _ _ _ _ c.in_ok-begin.ensures (refuses _ _ _ _ _ c.in-Err.ensures), refl)

pub returns-in-Ok : goal.returns-in-Ok
returns-in-Ok c = (
  λ tables tabled.
      let worked = by_rule _ _ _ c.in-Ok.ensures in
      goes_on _ _ _ _ _ _ c.in_ok-begin.ensures (goes_on _ _ _ _ _ _ c.in-Ok.ensures worked.sea_level),
  refl,
)
