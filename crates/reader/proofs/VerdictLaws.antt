-- What a verdict says of the file that was read: a broken one is broken there and nowhere else, and a good one has so many records.
-- Assumes nothing.
use mathlib.Core.Path.{◌≡◌, refl, ap}
use mathlib.Core.List.{List}
use Prim.Native.Nat.{ℕ}
use lib.ListN.{length, get_or}
use Rattle.number.specs.Refusal.{Answer, refused, given, Numbered}
use Rattle.number.proofs.Sizes.{impossible}
use Rattle.watchfile.specs.Format.{broken_at}
use Rattle.watchfile.specs.declared.Record.{Record}
use Rattle.reader.specs.Read.{verdict_as, counted}
use Rattle.std.specs.Prelude.{Result, Ok, Err}
use Rattle.reader.specs.declared.Broken.{Broken}

same_place : (m n : ℕ) → ◌≡◌ {A = Answer Numbered ℕ} (refused (broken_at m)) (refused (broken_at n)) → m ≡ n
same_place m n e = let f : broken_at m ≡ broken_at n = cc in ap (λ (r : Numbered). get_or r.extra 0 0) f

-- document 01's number and values tell the cases apart
pub verdict_by : (v w : Result ℕ Broken) → verdict_as v ≡ verdict_as w → v ≡ w
verdict_by (Ok m) (Ok n) e = cc
verdict_by (Ok m) (Err b) e = cc
verdict_by (Err a) (Ok n) e = cc
verdict_by (Err a) (Err b) e = ap (λ (n : ℕ). Err (record { 0 = n })) (same_place a.0 b.0 e)

pub broken_is : (a : Answer ℕ (List Record)) (place : ℕ) → counted a ≡ refused (broken_at place) → a ≡ refused place
broken_is (refused k) place e = ap refused (same_place k place e)
broken_is (given rs) place e = cc

pub good_is : (a : Answer ℕ (List Record)) (n : ℕ) → counted a ≡ given n → (rs : List Record) × (a ≡ given rs) × (length rs ≡ n)
good_is (refused k) n e = impossible (cc)
good_is (given rs) n e = (rs, refl, cc)
