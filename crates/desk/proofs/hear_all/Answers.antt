-- `hear_all` meets its contract: what is left to be heard and counted comes to what was to be heard at the start. Assumes nothing.
use mathlib.Core.Path.{◌≡◌, sym, ap, ◌∙◌}
use mathlib.Core.List.{List, []}
use Prim.Native.Nat.{ℕ, min}
use native.Mathlib.Omega.{arith}
use lib.ListN.{length}
use Rattle.desk.specs.Counting.{messages, heard_all, counted_all}
use Rattle.desk.proofs.CountLaws.{messages_none, chunk_is, number_small, heard_on, counted_on, heard_none, counted_none}
use Rattle.desk.proofs.hear_all.Goals as goal

pub loop-message-preserved : goal.loop-message-preserved
loop-message-preserved c =
    let l = c.loop-message in
    let m = c.in-Some.message.now in
    let left = c.next.new.self.rest.now in
    let step = c.in-Some.ensures.steps in
    let long : length m ≡ min 16 (length l.message-iterator.rest.now) = omega arith in
    let cut = chunk_is l.message-iterator.rest.now m left step.1.0 long step.1.2 in
    let on = heard_on l.store c.hear.new.store m l.counts (messages left) c.hear.result c.number-n.result c.one_more.result c.hear.ensures c.number-n.ensures c.one_more.ensures in
    let counted = counted_on l.store c.hear.new.store m l.counts (messages left) c.hear.result c.number-n.result c.one_more.result c.hear.ensures c.number-n.ensures c.one_more.ensures in (
      step.0 ∙ l.invariant.0,
      l.invariant.1 ∙ ap (heard_all l.store) cut ∙ sym on,
      l.invariant.2 ∙ ap (λ (M : List (List ℕ)). counted_all l.store M l.counts) cut ∙ sym counted,
    )

pub returns : goal.returns
returns c =
    let l = c.loop-message in
    let none : messages l.message-iterator.rest.now ≡ [] = messages_none l.message-iterator.rest.now c.in-None.ensures.steps.1.0 in
    record {
      block = sym (l.invariant.1 ∙ ap (heard_all l.store) none ∙ heard_none l.store);
      counts = sym (l.invariant.2 ∙ ap (λ (M : List (List ℕ)). counted_all l.store M l.counts) none ∙ counted_none l.store l.counts);
    }
