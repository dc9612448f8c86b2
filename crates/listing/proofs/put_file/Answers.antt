-- `put_file` meets its contract: the lines of what was read. Assumes nothing.
use mathlib.Core.Path.{sym, ap, ◌∙◌, subst}
use mathlib.Core.List.{List}
use Prim.Native.Nat.{ℕ}
use Rattle.text.specs.Text.{Puts}
use Rattle.watchfile.specs.Format.{reading}
use Rattle.reader.specs.Read.{verdict_as}
use Rattle.listing.proofs.ListLaws.{good_text, broken_text}
use Rattle.listing.proofs.put_file.Goals as goal

pub returns-in-Ok : goal.returns-in-Ok
returns-in-Ok c =
    λ rule ruled.
    let h = c.read.ensures rule ruled in
    subst (λ (x : List ℕ). Puts c.args.page.now c.put_listing.new.page x)
    (good_text rule c.args.file.now c.in-Ok.count (sym h ∙ ap verdict_as c.in-Ok.is))
    c.put_listing.ensures

pub returns-in-Err : goal.returns-in-Err
returns-in-Err c =
    λ rule ruled.
    let h = c.read.ensures rule ruled in
    subst (λ (x : List ℕ). Puts c.args.page.now c.put_line.new.page x)
    (broken_text (reading rule c.args.file.now) c.in-Err.field-0.0 (sym h ∙ ap verdict_as c.in-Err.is))
    c.put_line.ensures
