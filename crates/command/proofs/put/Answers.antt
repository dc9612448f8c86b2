-- `put` meets its contract: a number is stored where the place lies in the buffer, and nothing beyond it. Assumes nothing.
use Rattle.text.proofs.PutLaws.{put_one, put_none}
use borrow.Author.Rules.{rules}
use Rattle.command.proofs.put.Goals as goal

pub returns-then-at-numbers : goal.returns-then-at-numbers
returns-then-at-numbers c = put_one c.args.numbers.now c.args.at c.args.n (search rules)

pub returns : goal.returns
returns c = put_none c.args.numbers.now c.args.at _ (search rules)
