-- `Page::byte` meets its contract: a byte is stored where the place lies in the lent bytes, and nothing beyond it. Assumes nothing.
use mathlib.Core.Path.{refl}
use borrow.Author.Rules.{rules}
use Rattle.text.proofs.PutLaws.{put_one, put_none}
use Rattle.text.proofs.Page.byte.Goals as goal

pub returns-then-self : goal.returns-then-self
returns-then-self c =
    let p = c.args.self.now in
    record { put = put_one p.text.now p.at c.args.b (search rules); lent = refl }

pub returns-else-self : goal.returns-else-self
returns-else-self c =
    let p = c.args.self.now in
    record { put = put_none p.text.now p.at _ (search rules); lent = refl }
