-- What an answer says of a lent buffer: refused, every byte stays; else what was laid stands at its start, as long as was answered,
-- and behind it what stood there. Assumes nothing.
use mathlib.Core.Path.{◌≡◌, refl, ap}
use mathlib.Core.List.{List, ◌++◌}
use Prim.Native.Nat.{ℕ}
use lib.ListN.{length, drop}
use Rattle.number.specs.Refusal.{Answer, refused, given, Numbered}
use Rattle.number.proofs.Sizes.{impossible}
use Rattle.octets.specs.Lent.{sized, left_by}

pub refused_leaves : (a : Answer Numbered (List ℕ)) (before : List ℕ) (r : Numbered) → sized a ≡ refused r → left_by before a ≡ before
refused_leaves (refused q) before r e = refl
refused_leaves (given laid) before r e = impossible (cc)

pub given_lays : (a : Answer Numbered (List ℕ)) (before : List ℕ) (n : ℕ) → sized a ≡ given n
    → (laid : List ℕ) × (a ≡ given laid) × (length laid ≡ n) × (left_by before a ≡ laid ++ drop n before)
given_lays (refused q) before n e = impossible (cc)
given_lays (given laid) before n e = let l : length laid ≡ n = cc in (laid, refl, l, ap (λ (k : ℕ). laid ++ drop k before) l)

-- a refusal of what is laid is that of the answer
pub sized_refused : (a : Answer Numbered (List ℕ)) (r : Numbered) → sized a ≡ refused r → a ≡ refused r
sized_refused (refused q) r e = let z : q ≡ r = cc in ap refused z
sized_refused (given laid) r e = impossible (cc)
