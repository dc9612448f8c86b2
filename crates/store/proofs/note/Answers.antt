-- `note` meets its contract: the store, the minute, the direction, the newest, and then what the entry is worked into. Assumes nothing.
use mathlib.Core.Path.{◌≡◌, refl, sym, ap, subst, ◌∙◌}
use mathlib.Core.Bool.{true}
use mathlib.Core.List.{List}
use Prim.Native.Nat.{ℕ, ◌≤◌}
use lib.Dec.{lit<, leb}
use lib.IntN.{pos}
use borrow.Author.Rules.{rules}
use Rattle.std.specs.Prelude.{Ok, Err}
use Rattle.quantity.specs.Limits.{inside, degrees, last_minute}
use Rattle.message.specs.declared.Reading.TheVariants.{ApparentWind}
use Rattle.window.specs.Window.{next}
use Rattle.block.specs.Words.{is_store}
use Rattle.anemometer.specs.declared.Note.{Note}
use Rattle.store.specs.Noting.{Notes}
use Rattle.store.proofs.NoteLaws.{notes_unopened, notes_late, notes_undirected, notes_behind, notes_refused, notes_kept}
use Rattle.store.proofs.note.Goals as goal

-- what is known behind the first three tests
record Passed (s : List ℕ) (n : Note) : Type 0 where
  is : is_store s ≡ true
  time : leb n.minute last_minute ≡ true
  way : inside degrees (pos n.direction) ≡ true

pub returns-then-not-is_store : goal.returns-then-not-is_store
returns-then-not-is_store c = notes_unopened c.args.store.now c.args.n (search rules)

pub returns-then-not-holds : goal.returns-then-not-holds
returns-then-not-holds c = notes_late c.args.store.now c.args.n (search rules) (search rules)

pub returns-then-not-holds-2 : goal.returns-then-not-holds-2
returns-then-not-holds-2 c = notes_undirected c.args.store.now c.args.n (search rules) (search rules) (search rules)

pub returns-then-n-next : goal.returns-then-n-next
returns-then-n-next c =
    let p : Passed c.args.store.now c.args.n = record { is = search rules; time = search rules; way = search rules } in
    let following = c.next-next.ensures ∙ ap next c.window_of.ensures in
    notes_behind c.args.store.now c.args.n p.is p.time p.way (Err c.why.result) following c.if-n-next.true c.why.ensures

pub keep-requires : goal.keep-requires
keep-requires c =
    let following = c.next-next.ensures ∙ ap next c.window_of.ensures in
    (c.keep-arg-1.given.0.1, lit< tt, subst (λ (k : ℕ). k ≤ c.args.n.minute) following c.if-n-next.false)

pub returns-in_err-v : goal.returns-in_err-v
returns-in_err-v c =
    let p : Passed c.args.store.now c.args.n = record { is = search rules; time = search rules; way = search rules } in
    let following = c.next-next.ensures ∙ ap next c.window_of.ensures in
    let h : c.from_residual.result ≡ Err c.in_err-v.field-0.0 = search rules in
    rw h (notes_refused c.args.store.now c.args.n p.is p.time p.way following c.if-n-next.false c.in_err-v.ensures refl)

pub returns : goal.returns
returns c =
    let s = c.args.store.now in
    let n = c.args.n in
    let p : Passed s n = record { is = search rules; time = search rules; way = search rules } in
    let following = c.next-next.ensures ∙ ap next c.window_of.ensures in
    subst (λ (x : List ℕ). Notes s x n (Ok tt)) (sym c.keep.ensures)
    (notes_kept s n p.is p.time p.way following c.if-n-next.false (ApparentWind c.in_ok-v.v c.in_ok-v.d) c.pair_cell.result c.in_ok-v.ensures c.pair_cell.ensures)
