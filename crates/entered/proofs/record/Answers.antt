-- `record` meets its contract: the question of its kind is answered, and its record laid; or there is no such kind. Assumes nothing.
use mathlib.Core.Path.{refl, ap}
use native.Mathlib.Omega.{arith}
use Rattle.station.specs.Questions as asked
use Rattle.entered.specs.Entered.{asked_by}
use Rattle.entered.proofs.EnteredLaws.{of_kind, no_kind, recorded, right_is, the_first, the_second, the_third, the_fourth, no_other}
use Rattle.entered.proofs.record.Goals as goal

pub returns-in-1 : goal.returns-in-1
returns-in-1 c =
    let q = c.args in (
      of_kind q.kind q.store.now q.minute q.words.now _ c.lay.result asked.pressure (ap asked_by c.in-1.is) (right_is q.kind 1 c.in-1.is the_first)
          (recorded asked.pressure q.store.now q.minute q.words.now _ c.lay.result c.pressure-a.result c.pressure_record.result c.pressure_told.result
          c.pressure-a.ensures.0 c.pressure_record.ensures c.pressure_told.ensures c.lay.ensures.0 c.lay.ensures.1),
      c.pressure-a.ensures.1,
    )

pub returns-in-2 : goal.returns-in-2
returns-in-2 c =
    let q = c.args in (
      of_kind q.kind q.store.now q.minute q.words.now _ c.lay-in-2.result asked.tendency (ap asked_by c.in-2.is) (right_is q.kind 2 c.in-2.is the_second)
          (recorded asked.tendency q.store.now q.minute q.words.now _ c.lay-in-2.result c.tendency-a.result c.tendency_record.result c.tendency_told.result
          c.tendency-a.ensures.0 c.tendency_record.ensures c.tendency_told.ensures c.lay-in-2.ensures.0 c.lay-in-2.ensures.1),
      c.tendency-a.ensures.1,
    )

pub returns-in-3 : goal.returns-in-3
returns-in-3 c =
    let q = c.args in (
      of_kind q.kind q.store.now q.minute q.words.now _ c.lay-in-3.result asked.wind (ap asked_by c.in-3.is) (right_is q.kind 3 c.in-3.is the_third)
          (recorded asked.wind q.store.now q.minute q.words.now _ c.lay-in-3.result c.wind-a.result c.wind_record.result c.wind_told.result
          c.wind-a.ensures.0 c.wind_record.ensures c.wind_told.ensures c.lay-in-3.ensures.0 c.lay-in-3.ensures.1),
      c.wind-a.ensures.1,
    )

pub returns-in-4 : goal.returns-in-4
returns-in-4 c =
    let q = c.args in (
      of_kind q.kind q.store.now q.minute q.words.now _ c.lay-in-4.result asked.humidity (ap asked_by c.in-4.is) (right_is q.kind 4 c.in-4.is the_fourth)
          (recorded asked.humidity q.store.now q.minute q.words.now _ c.lay-in-4.result c.humidity-a.result c.humidity_record.result c.humidity_told.result
          c.humidity-a.ensures.0 c.humidity_record.ensures c.humidity_told.ensures c.lay-in-4.ensures.0 c.lay-in-4.ensures.1),
      c.humidity-a.ensures.1,
    )

pub returns-in_default : goal.returns-in_default
returns-in_default c =
    let q = c.args in (
      no_kind q.kind q.store.now q.minute q.words.now _ _ (no_other q.kind (λ e. omega arith) (λ e. omega arith) (λ e. omega arith) (λ e. omega arith)) refl refl,
      refl,
    )
