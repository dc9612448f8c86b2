-- `is_hex` meets its contract: what is left is hex exactly where all is. Assumes nothing.
use mathlib.Core.Path.{refl, sym, ◌∙◌}
use native.Mathlib.Omega.{arith}
use borrow.Author.Tests.{lt-ltb, le-ltb}
use Rattle.hexadecimal.proofs.HexLaws.{hex_on, hex_first, hex_second, hex_left}
use borrow.Author.Rules.{rules}
use Rattle.hexadecimal.proofs.is_hex.Goals as goal

pub loop-i-init : goal.loop-i-init
loop-i-init c = (search rules, refl)

pub returns-then-hex_value-gt15 : goal.returns-then-hex_value-gt15
returns-then-hex_value-gt15 c =
    let l = c.loop-i in
    sym (hex_first c.args.word.now l.i c.loop-i-test.true (rw (← c.hex_value.ensures) (le-ltb c.hex_value.result 16 (omega arith)))) ∙ l.invariant.1

pub returns-then-hex_value-gt15-2 : goal.returns-then-hex_value-gt15-2
returns-then-hex_value-gt15-2 c =
    let l = c.loop-i in
    sym (hex_second c.args.word.now l.i c.loop-i-test.true (rw (← c.hex_value.ensures) (lt-ltb c.hex_value.result 16 (omega arith))) (rw (← c.hex_value-in-loop-i.ensures) (le-ltb c.hex_value-in-loop-i.result 16 (omega arith)))) ∙ l.invariant.1

pub loop-i-preserved : goal.loop-i-preserved
loop-i-preserved c =
    let l = c.loop-i in
    (search rules, sym (hex_on c.args.word.now l.i c.loop-i-test.true (rw (← c.hex_value.ensures) (lt-ltb c.hex_value.result 16 (omega arith))) (rw (← c.hex_value-in-loop-i.ensures) (lt-ltb c.hex_value-in-loop-i.result 16 (omega arith)))) ∙ l.invariant.1)

pub returns : goal.returns
returns c =
    let l = c.loop-i in
    sym (hex_left c.args.word.now l.i l.invariant.0 (omega arith)) ∙ l.invariant.1
