-- `scale_correction` meets its contract: the words of the certificate are the barometer's points. Assumes nothing.
use mathlib.Core.Path.{sym, ap, ◌∙◌}
use mathlib.Core.List.{List}
use Prim.Native.Nat.{ℕ}
use lib.ListN.{length}
use Rattle.certificate.specs.Line.{valued, corner_at}
use Rattle.pressure.specs.Pressure.{barometer_of}
use Rattle.pressure.proofs.CertificateLaws.{words_valued, is_scaled}
use Rattle.pressure.proofs.scale_correction.Goals as goal

pub returns : goal.returns
returns c =
    let s = c.args.store.now in
    let r = c.args.reading.v in
    let words = c.certificate.ensures in
    is_scaled (barometer_of s) r c.value_at.result
    (c.value_at.ensures
    ∙ ap (λ (l : List ℕ). valued (corner_at 1 l) (length l) r) words.0
    ∙ words_valued s r (sym (ap length words.0) ∙ words.1))
