-- The public contract of this crate allows a single answer: it leaves one page, its place and its bytes. Assumes nothing.
use Rattle.number.specs.Single.{SingleLeft}
use Rattle.text.proofs.SingleAnswers.{words_of, left}
use Rattle.notice.proofs.put_fault.Reads as put-fault

pub single_put_fault_page : SingleLeft put-fault.Post (λ κs s. words_of s.0.now)
single_put_fault_page κs a r r' s s' p q = left p q
