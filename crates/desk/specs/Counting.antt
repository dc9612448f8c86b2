-- Messages laid one behind the other: cut, heard in order, and counted by the number of what each came to.
use Rattle.std.specs.Prelude.{◌≡◌, List, [], ◌∷◌, ℕ, zero, suc, ◌+◌, ◌-◌, ◌/◌, ◌^◌, min, length, get_or, take, drop, set}
use Rattle.number.specs.Refusal.{numbered_in}
use Rattle.store.specs.Block.{hearing, heard_by}

-- "A message is 16 bytes": the first n messages of a text.
unfoldable pub cut : ℕ → List ℕ → List (List ℕ)
cut zero s = []
cut (suc n) s = take 16 s ∷ cut n (drop 16 s)

-- All messages of a text: as many as begin in it. The last may be cut short.
unfoldable pub messages : List ℕ → List (List ℕ)
messages s = cut ((length s + 15) / 16) s

-- The block after messages, the first of them heard first.
unfoldable pub heard_all : List ℕ → List (List ℕ) → List ℕ
heard_all s [] = s
heard_all s (m ∷ M) = heard_all (heard_by s m) M

-- One more of a number. A count that is at its largest stays there.
unfoldable pub one_more : List ℕ → ℕ → List ℕ
one_more counts n = set counts n (min (get_or counts n 0 + 1) (2 ^ 64 - 1))

-- The counts after messages, each heard by the block that those before it left, and counted by the number of its refusal, or by 0.
unfoldable pub counted_all : List ℕ → List (List ℕ) → List ℕ → List ℕ
counted_all s [] counts = counts
counted_all s (m ∷ M) counts = counted_all (heard_by s m) M (one_more counts (numbered_in (hearing s m)))

-- Messages were heard: the block s is s' then, and the counts `before` are `after`.
pub record HearsAll (s s' : List ℕ) (M : List (List ℕ)) (before after : List ℕ) : Type 0 where
  pub block : s' ≡ heard_all s M
  pub counts : after ≡ counted_all s M before
