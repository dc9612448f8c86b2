-- `unhex` meets its contract: of a word that is hex and has room, the bytes that are left, laid from here on, are all of them laid from the start. Assumes nothing.
use mathlib.Core.Path.{◌≡◌, refl, sym, ap, ◌∙◌}
use Prim.Native.Nat.{ℕ, ◌+◌, ◌*◌}
use native.Mathlib.Omega.{arith}
use lib.ListN.{get_or, drop, length-set}
use Rattle.hexadecimal.specs.Hex.{hex_value, is_hex}
use Rattle.hexadecimal.proofs.HexLaws.{digits_here, lay_on, bytes_end, not_hex, no_room, all_laid}
use Rattle.hexadecimal.proofs.unhex.Goals as goal

pub returns-then-not-is_hex : goal.returns-then-not-is_hex
returns-then-not-is_hex c = not_hex _ _ (sym c.is_hex.ensures ∙ c.if-not-is_hex.true)

pub returns-then-bytes-count : goal.returns-then-bytes-count
returns-then-bytes-count c = no_room _ _ _ (sym c.is_hex.ensures ∙ c.if-not-is_hex.false) refl c.if-bytes-count.true

pub loop-i-init : goal.loop-i-init
loop-i-init c = (refl, sym c.is_hex.ensures ∙ c.if-not-is_hex.false, refl)

pub overflow_mul-bytes : goal.overflow_mul-bytes
overflow_mul-bytes c =
    let d = digits_here c.args.word.now (2 * c.loop-i.i) (omega arith) c.loop-i.invariant.1 in
    omega (arith, c.hex_value.ensures)

pub overflow_add-bytes : goal.overflow_add-bytes
overflow_add-bytes c =
    let d = digits_here c.args.word.now (2 * c.loop-i.i) (omega arith) c.loop-i.invariant.1 in
    omega (arith, c.hex_value.ensures, c.hex_value-in-loop-i.ensures)

pub loop-i-preserved : goal.loop-i-preserved
loop-i-preserved c =
    let l = c.loop-i in
    let word = c.args.word.now in
    let d = digits_here word (2 * l.i) (omega arith) l.invariant.1 in
    let on : 2 * l.i + 2 ≡ 2 * (l.i + 1) = omega arith in
    let v : 16 * c.hex_value.result + c.hex_value-in-loop-i.result ≡ 16 * hex_value (get_or word (2 * l.i) 0) + hex_value (get_or word (2 * l.i + 1) 0) = rw (c.hex_value.ensures, c.hex_value-in-loop-i.ensures) in (
      length-set l.bytes l.i _ ∙ l.invariant.0,
      ap (λ (k : ℕ). is_hex (drop k word)) (sym on) ∙ d.2,
      sym (lay_on word l.bytes l.i (16 * c.hex_value.result + c.hex_value-in-loop-i.result) (omega arith) v) ∙ l.invariant.2,
    )

pub returns : goal.returns
returns c =
    let l = c.loop-i in
    let word = c.args.word.now in
    all_laid word _ _ _ (sym c.is_hex.ensures ∙ c.if-not-is_hex.false) refl c.if-bytes-count.false (rw (bytes_end word (2 * l.i) (omega arith)) at l.invariant.2)
