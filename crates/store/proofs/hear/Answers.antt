-- `hear` meets its contract: whether the block is a store, what the message comes to, and then whether it is later. Assumes nothing.
use mathlib.Core.Path.{◌≡◌, sym, ap, ◌∙◌}
use mathlib.Core.Bool.{true}
use borrow.Author.Rules.{rules}
use Rattle.number.specs.Refusal.{refused, given}
use Rattle.quantity.specs.declared.BarometerUnit.{BarometerUnit}
use Rattle.wire.specs.Decode.{number_of}
use Rattle.message.specs.Receive.{received, entry_of}
use Rattle.block.specs.Words.{is_store, unit_of}
use Rattle.std.specs.Prelude.{Err}
use Rattle.store.specs.declared.HearingRefusal.TheVariants.{Message}
use Rattle.store.proofs.HearLaws.{hears_unopened, hears_refused, hears_kept}
use Rattle.store.proofs.hear.Goals as goal

pub returns-then-not-is_store : goal.returns-then-not-is_store
returns-then-not-is_store c = let a = c.args in hears_unopened a.store.now a.bytes.now (search rules)

pub returns-in_err-minute : goal.returns-in_err-minute
returns-in_err-minute c =
    let s = c.args.store.now in
    let m = c.args.bytes.now in
    let is : is_store s ≡ true = search rules in
    let r = c.in_err-minute.field-0.0 in
    let told : received (unit_of s) m ≡ refused (number_of r) = ap (λ (u : BarometerUnit). received u m) (sym c.unit-unit.ensures) ∙ sym c.in_err-minute.ensures in
    let h : c.from_residual.result ≡ Err (Message r) = search rules in
    rw h (hears_refused s m is r told)

pub returns : goal.returns
returns c =
    let s = c.args.store.now in
    let m = c.args.bytes.now in
    let is : is_store s ≡ true = search rules in
    let e = entry_of c.in_ok-minute.minute.0 c.in_ok-minute.r in
    let told : received (unit_of s) m ≡ given e = ap (λ (u : BarometerUnit). received u m) (sym c.unit-unit.ensures) ∙ sym c.in_ok-minute.ensures in
    hears_kept s m is c.offer.new.store e c.offer.result told c.offer.ensures
