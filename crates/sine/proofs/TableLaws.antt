-- What is proved over the table: each fact is one test that is computed at all of its entries. Assumes nothing.
use mathlib.Core.Path.{◌≡◌, refl, subst}
use mathlib.Core.Bool.{Bool, true, ◌&&◌}
use mathlib.Core.Logic.{⊎_elim}
use Prim.Native.Nat.{ℕ, zero, suc, ◌+◌, ◌-◌, ◌*◌, ◌≤◌, ◌<◌}
use native.Mathlib.Nat.{add-zero, add-suc}
use native.Mathlib.Omega.{arith}
use lib.Dec.{leb, ltb}
use lib.ListN.{length, get_or-eq_default}
use borrow.Author.Tests.{leb-true, ltb-true}
use Rattle.number.proofs.Sizes.{and_true}
use Rattle.sine.specs.Sines.{sines}
use Rattle.sine.specs.Sine.{entry}
use Rattle.sine.proofs.EveryNumber.{le_or_lt, below, below_at}

-- "181 entries"
pub entries : length sines ≡ 181
unfolding sines
entries = refl

-- "the first entry is 0, the last 1,000,000"
pub first : entry 0 ≡ 0
unfolding sines
first = refl

pub last : entry 180 ≡ 1000000
unfolding sines
last = refl

-- "entries rise strictly"
rises_at : ℕ → Bool
rises_at i = ltb (entry i) (entry (suc i))

rises_all : below rises_at 180 ≡ true
unfolding sines rises_at
rises_all = refl

next : (i : ℕ) → i < 180 → entry i < entry (suc i)
unfolding rises_at
next i h = ltb-true (entry i) (entry (suc i)) (below_at rises_at 180 rises_all i h)

further : (i n : ℕ) → i + n < 180 → entry i < entry (suc (i + n))
further i zero h = rw add-zero (next i (omega arith))
further i (suc n) h = rw add-suc (omega (arith, further i n (omega arith), next (suc (i + n)) (omega arith)))

pub rises : (i j : ℕ) → i < j → j ≤ 180 → entry i < entry j
rises i j h k =
    subst (λ (n : ℕ). entry i < entry n) {x = suc (i + (j - suc i))} (omega arith) (further i (j - suc i) (omega arith))

pub mounts : (i j : ℕ) → i ≤ j → j ≤ 180 → entry i ≤ entry j
mounts i j h k =
    ⊎_elim (λ same. subst (λ (n : ℕ). entry i ≤ entry n) {x = i} (omega arith) (omega arith)) (λ less. omega (arith, rises i j less k))
    (le_or_lt j i)

pub positive : (i : ℕ) → 0 < i → i ≤ 180 → 0 < entry i
positive i h k = omega (arith, rises 0 i h k)

-- no entry is above a million; past the last it is 0
pub small : (i : ℕ) → entry i ≤ 1000000
small i =
    ⊎_elim (λ h. omega (arith, mounts i 180 h (omega arith), last)) (λ h. omega (arith, get_or-eq_default sines 0 {n = i} (omega (arith, entries))))
    (le_or_lt i 180)

-- "sine squared plus cosine squared is within 1,500,000 of a million squared", in the first quarter turn
abbrev pub Near : ℕ → Type 0
Near n = (1000000 * 1000000 ≤ n + 1500000) × (n ≤ 1000000 * 1000000 + 1500000)

near : ℕ → Bool
near n = leb (1000000 * 1000000) (n + 1500000) && leb n (1000000 * 1000000 + 1500000)

near_is : (n : ℕ) → near n ≡ true → Near n
unfolding near
near_is n e =
    let two = and_true (leb (1000000 * 1000000) (n + 1500000)) (leb n (1000000 * 1000000 + 1500000)) e in
    (leb-true (1000000 * 1000000) (n + 1500000) two.0, leb-true n (1000000 * 1000000 + 1500000) two.1)

squares_at : ℕ → Bool
squares_at i = near (entry i * entry i + entry (180 - i) * entry (180 - i))

squares_all : below squares_at 181 ≡ true
unfolding sines near squares_at
squares_all = refl

pub quarter : (i : ℕ) → i ≤ 180 → Near (entry i * entry i + entry (180 - i) * entry (180 - i))
unfolding squares_at
quarter i h =
    near_is (entry i * entry i + entry (180 - i) * entry (180 - i)) (below_at squares_at 181 squares_all i (omega arith))
