-- Each public contract of this crate allows a single answer: it gives the result, the bytes of the buffer, and the page that is left, as
-- functions of the arguments. Assumes nothing.
use mathlib.Core.Path.{sym, ◌∙◌}
use Rattle.number.specs.Single.{Single, SingleLeft}
use Rattle.text.proofs.SingleAnswers.{words_of, left}
use Rattle.hexadecimal.proofs.is_hex.Reads as is-hex
use Rattle.hexadecimal.proofs.unhex.Reads as unhex
use Rattle.hexadecimal.proofs.put_hex.Reads as put-hex

pub single_is_hex : Single is-hex.Post
single_is_hex κs a r r' s s' p q = p ∙ sym q

pub single_unhex : Single unhex.Post
single_unhex κs a r r' s s' p q = p.answer ∙ sym q.answer

-- the bytes behind the buffer's reference, at exit
pub single_unhex_bytes : SingleLeft unhex.Post (λ κs s. s.1.0.now)
single_unhex_bytes κs a r r' s s' p q = p.bytes ∙ sym q.bytes

pub single_put_hex_page : SingleLeft put-hex.Post (λ κs s. words_of s.0.now)
single_put_hex_page κs a r r' s s' p q = left p q
