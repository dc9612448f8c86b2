-- `put_fields` meets its contract: who puts the numbers that are left from here on has put all. Assumes nothing.
use Rattle.text.specs.Text.{field}
use Rattle.hexadecimal.proofs.RowLaws.{puts_next, puts_last, puts_inside}
use Rattle.answer.proofs.put_fields.Goals as goal

pub loop-n-preserved : goal.loop-n-preserved
loop-n-preserved c =
    let l = c.loop-n in
    let p = c.field.ensures in
    (puts_inside p, λ after q. l.invariant.1 after (puts_next field _ l.n-index c.loop-n-test.true p q))

pub returns : goal.returns
returns c =
    let l = c.loop-n in
    l.invariant.1 _ (puts_last l.page field _ l.n-index c.loop-n-test.false l.invariant.0)
