-- Each public contract of this crate allows a single answer: each gives the result as a function of the arguments, and
-- `accept` also the words that it leaves. Assumes nothing.
use mathlib.Core.Path.{sym, ◌∙◌}
use Rattle.number.specs.Single.{Single, SingleLeft}
use Rattle.window.proofs.next.Reads as next
use Rattle.window.proofs.accept.Reads as accept
use Rattle.window.proofs.find.Reads as find
use Rattle.window.proofs.missed.Reads as missed

pub single_next : Single next.Post
single_next κs a r r' s s' p q = p ∙ sym q

pub single_accept : Single accept.Post
single_accept κs a r r' s s' p q = p.answer ∙ sym q.answer

-- the words behind the window's reference, at exit
pub single_accept_words : SingleLeft accept.Post (λ κs s. s.0.now)
single_accept_words κs a r r' s s' p q = p.words ∙ sym q.words

pub single_find : Single find.Post
single_find κs a r r' s s' p q = p ∙ sym q

pub single_missed : Single missed.Post
single_missed κs a r r' s s' p q = p ∙ sym q
