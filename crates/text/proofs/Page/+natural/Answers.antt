-- `Page::natural` meets its contract: the digits of the tenth part, then the last. Assumes nothing.
use borrow.Author.Rules.{rules}
use Rattle.text.proofs.DecimalLaws.{put_one_digit, put_last_digit}
use Rattle.text.proofs.Page.+natural.Goals as goal

pub returns-then-single : goal.returns-then-single
returns-then-single t c = put_one_digit c.args.n (search rules) c.last_digit-last.ensures c.byte.ensures

pub returns : goal.returns
returns t c = put_last_digit c.args.n (search rules) c.last_digit-last.ensures c.natural.ensures c.byte-2.ensures
