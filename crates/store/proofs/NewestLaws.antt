-- A minute beside its channel's newest: it is later, or there is none; it is the same; it is earlier. Assumes nothing.
use mathlib.Core.Path.{◌≡◌}
use mathlib.Core.List.{[], ◌∷◌}
use Prim.Native.Nat.{ℕ, ◌+◌, ◌-◌, ◌≤◌, ◌<◌}
use native.Mathlib.Omega.{arith}
use native.Mathlib.Decide.{ℕ_discrete}
use borrow.Author.Tests.{lt-ltb, le-ltb, eq-eqb, ne_eqb}
use Rattle.number.specs.Refusal.{Numbered, numbered, refused, given, answer}
use Rattle.store.specs.Block.{newest_tests}

module _ {A : Type 0} (next m : ℕ) (a : A) where
  pub later : next ≤ m → answer (newest_tests next m) a ≡ given a
  unfolding answer
  later l = rw (ne_eqb (m + 1) next (λ q. omega arith), le-ltb (m + 1) next (omega arith))

  pub repeated : m + 1 ≡ next → answer (newest_tests next m) a ≡ refused (numbered 8 [])
  unfolding answer
  repeated e = rw (eq-eqb (m + 1) next e)

  pub late : m + 1 < next → answer (newest_tests next m) a ≡ refused (numbered 19 ((next - (m + 1)) ∷ []))
  unfolding answer
  late l = rw (ne_eqb (m + 1) next (λ q. omega arith), lt-ltb (m + 1) next l)

  -- one that is not later is refused by 8 or by 19
  pub not_later : m < next → (r : Numbered) × (answer (newest_tests next m) a ≡ refused r)
  not_later l = go (ℕ_discrete (m + 1) next)
    where
      go : Dec (m + 1 ≡ next) → (r : Numbered) × (answer (newest_tests next m) a ≡ refused r)
      go (yes e) = (numbered 8 [], repeated e)
      go (no ne) = (numbered 19 ((next - (m + 1)) ∷ []), late (omega arith))
