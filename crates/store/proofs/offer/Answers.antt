-- `offer` meets its contract: the minute after the channel's newest decides. Assumes nothing.
use mathlib.Core.Path.{sym, ap, subst, ◌∙◌}
use mathlib.Core.List.{List}
use Prim.Native.Nat.{ℕ, ◌≤◌, ◌<◌}
use Rattle.number.specs.Refusal.{answer}
use Rattle.message.specs.Receive.{entry_of}
use Rattle.message.proofs.SingleAnswers.{entry_minute}
use Rattle.window.specs.Window.{next}
use Rattle.store.specs.Block.{newest_tests, outcome, Keeps}
use Rattle.std.specs.Prelude.{Ok, Err}
use Rattle.store.proofs.HearLaws.{offered_heard, offered_refused}
use Rattle.store.proofs.offer.Goals as goal

pub returns-then-minute-next : goal.returns-then-minute-next
returns-then-minute-next c =
    let a = c.args in
    let s = a.store.now in
    let e = entry_of a.minute a.r in
    -- what is known of the newest
    let following = c.next-next.ensures ∙ ap next c.window_of.ensures in
    offered_refused s e c.channel_of-c.result a.minute (c.channel_of-c.ensures.0 a.minute) (sym (entry_minute a.minute a.r)) (Err c.why.result)
    (subst (λ (n : ℕ). a.minute < n) following c.if-minute-next.true)
    (c.why.ensures e ∙ ap (λ (n : ℕ). outcome (answer (newest_tests n a.minute) e)) following)

pub keep-requires : goal.keep-requires
keep-requires c =
    let following = c.next-next.ensures ∙ ap next c.window_of.ensures in
    (c.keep-arg-1.given.0.1, c.channel_of-c.ensures.1, subst (λ (k : ℕ). k ≤ c.args.minute) following c.if-minute-next.false)

pub returns : goal.returns
returns c =
    let a = c.args in
    let s = a.store.now in
    let e = entry_of a.minute a.r in
    let following = c.next-next.ensures ∙ ap next c.window_of.ensures in
    subst (λ (x : List ℕ). Keeps s x e (Ok tt)) (sym c.keep.ensures)
    (offered_heard s e c.channel_of-c.result a.minute (c.channel_of-c.ensures.0 a.minute) (sym (entry_minute a.minute a.r)) c.cell_of-v.result (c.cell_of-v.ensures a.minute)
    (subst (λ (k : ℕ). k ≤ a.minute) following c.if-minute-next.false))
