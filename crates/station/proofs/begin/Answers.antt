-- `begin` meets its contract: both tests, in their order. Assumes nothing.
use mathlib.Core.Path.{sym, ap}
use mathlib.Core.Bool.{not}
use borrow.Author.Tests.{lt-ltb, le-ltb, leb-true, leb-false}
use Rattle.quantity.specs.Limits.{last_minute}
use Rattle.station.proofs.AnswerLaws.{pass, stop, end}
use Rattle.station.proofs.begin.Goals as goal

pub returns-then-not-is_store : goal.returns-then-not-is_store
returns-then-not-is_store c = stop _ _ _ (ap not (sym c.if-not-is_store.ensures))

pub returns-then-not-holds : goal.returns-then-not-holds
returns-then-not-holds c =
    let m = c.args.minute in
    pass _ _ _ _ (ap not (sym c.if-not-is_store.ensures)) (stop _ _ _ (lt-ltb last_minute m (leb-false m last_minute (sym c.if-not-holds.ensures))))

pub returns : goal.returns
returns c =
    let m = c.args.minute in
    pass _ _ _ _ (ap not (sym c.if-not-is_store.ensures))
    (pass _ _ _ _ (le-ltb last_minute m (leb-true m last_minute (sym c.if-not-holds.ensures))) (end _ _ tt))
