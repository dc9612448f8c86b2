-- `put_hex` meets its contract: who puts the bytes that are left from here on has put all. Assumes nothing.
use lib.ListN.{get_or}
use Rattle.text.proofs.PutLaws.{then}
use Rattle.hexadecimal.specs.Hex.{hex_of}
use Rattle.hexadecimal.proofs.HexLaws.{put_byte}
use Rattle.hexadecimal.proofs.RowLaws.{puts_next, puts_last, puts_inside}
use borrow.Author.Rules.{rules}
use Rattle.hexadecimal.proofs.put_hex.Goals as goal

pub loop-b-init : goal.loop-b-init
loop-b-init c = (puts_inside c.bytes.ensures, λ after p. then c.bytes.ensures p)

pub loop-b-preserved : goal.loop-b-preserved
loop-b-preserved c =
    let l = c.loop-b in
    let p = put_byte (get_or c.args.bytes.now l.b-index 0) c.digit16.ensures c.digit16-in-loop-b.ensures c.byte.ensures c.byte-in-loop-b.ensures in
    (puts_inside p, λ after q. l.invariant.1 after (puts_next hex_of _ l.b-index c.loop-b-test.true p q))

pub returns : goal.returns
returns c =
    let l = c.loop-b in
    l.invariant.1 _ (puts_last l.page hex_of _ l.b-index (search rules) (search rules))
