-- Each public contract of this crate allows a single answer: it leaves one page, its place and its bytes. Assumes nothing.
use Rattle.number.specs.Single.{SingleLeft}
use Rattle.text.proofs.SingleAnswers.{words_of, left}
use Rattle.answer.proofs.put_opening.Reads as put-opening
use Rattle.answer.proofs.put_hearing.Reads as put-hearing
use Rattle.answer.proofs.put_noting.Reads as put-noting
use Rattle.answer.proofs.put_pressure.Reads as put-pressure
use Rattle.answer.proofs.put_tendency.Reads as put-tendency
use Rattle.answer.proofs.put_wind.Reads as put-wind
use Rattle.answer.proofs.put_humidity.Reads as put-humidity
use Rattle.answer.proofs.put_written.Reads as Put-written

pub single_put_opening_page : SingleLeft put-opening.Post (λ κs s. words_of s.0.now)
single_put_opening_page κs a r r' s s' p q = left p q

pub single_put_hearing_page : SingleLeft put-hearing.Post (λ κs s. words_of s.0.now)
single_put_hearing_page κs a r r' s s' p q = left p q

pub single_put_noting_page : SingleLeft put-noting.Post (λ κs s. words_of s.0.now)
single_put_noting_page κs a r r' s s' p q = left p q

pub single_put_pressure_page : SingleLeft put-pressure.Post (λ κs s. words_of s.0.now)
single_put_pressure_page κs a r r' s s' p q = left p q

pub single_put_tendency_page : SingleLeft put-tendency.Post (λ κs s. words_of s.0.now)
single_put_tendency_page κs a r r' s s' p q = left p q

pub single_put_wind_page : SingleLeft put-wind.Post (λ κs s. words_of s.0.now)
single_put_wind_page κs a r r' s s' p q = left p q

pub single_put_humidity_page : SingleLeft put-humidity.Post (λ κs s. words_of s.0.now)
single_put_humidity_page κs a r r' s s' p q = left p q

pub single_put_written_page : SingleLeft Put-written.Post (λ κs s. words_of s.0.now)
single_put_written_page κs a r r' s s' p q = left p q
