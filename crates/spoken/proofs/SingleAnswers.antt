-- Each public contract of this crate allows a single answer: each leaves one page, its place and its bytes. Assumes nothing.
use Rattle.number.specs.Single.{SingleLeft}
use Rattle.text.proofs.SingleAnswers.{words_of, left}
use Rattle.spoken.proofs.put_pressure.Reads as put-pressure
use Rattle.spoken.proofs.put_tendency.Reads as put-tendency
use Rattle.spoken.proofs.put_wind.Reads as put-wind
use Rattle.spoken.proofs.put_humidity.Reads as put-humidity
use Rattle.spoken.proofs.put_reading.Reads as put-reading
use Rattle.spoken.proofs.put_refusal.Reads as put-refusal

pub single_put_pressure_page : SingleLeft put-pressure.Post (λ κs s. words_of s.0.now)
single_put_pressure_page κs a r r' s s' p q = left p q

pub single_put_tendency_page : SingleLeft put-tendency.Post (λ κs s. words_of s.0.now)
single_put_tendency_page κs a r r' s s' p q = left p q

pub single_put_wind_page : SingleLeft put-wind.Post (λ κs s. words_of s.0.now)
single_put_wind_page κs a r r' s s' p q = left p q

pub single_put_humidity_page : SingleLeft put-humidity.Post (λ κs s. words_of s.0.now)
single_put_humidity_page κs a r r' s s' p q = left p q

pub single_put_reading_page : SingleLeft put-reading.Post (λ κs s. words_of s.0.now)
single_put_reading_page κs a r r' s s' p q = left p q

pub single_put_refusal_page : SingleLeft put-refusal.Post (λ κs s. words_of s.0.now)
single_put_refusal_page κs a r r' s s' p q = left p q
