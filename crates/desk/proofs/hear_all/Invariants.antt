-- `hear_all` meets its contract: what is left to be heard and counted comes to what was to be heard at the start. Assumes nothing.
use mathlib.Core.Path.{◌≡◌}
use Rattle.desk.specs.Counting.{messages, heard_all, counted_all}
use Rattle.desk.proofs.hear_all.Given as goal

abbrev pub invariant-loop-message : goal.invariant-loop-message
invariant-loop-message l =
    let left = messages l.message-iterator.rest.now in
    (l.message-iterator.size ≡ 16)
    × (heard_all l.fn.store (messages l.bytes) ≡ heard_all l.store left)
    × (counted_all l.fn.store (messages l.bytes) l.initial.counts ≡ counted_all l.store left l.counts)
