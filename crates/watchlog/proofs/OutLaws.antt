-- A record taken out from among others: where it stood, and that all others stay. By induction on the records, each time by how the
-- ranks compare. Assumes nothing.
use mathlib.Core.Path.{◌≡◌, refl, sym, ap, ◌∙◌}
use mathlib.Core.Bool.{true, false, and-false}
use mathlib.Core.List.{List, [], ◌∷◌}
use Prim.Native.Nat.{ℕ, zero, suc, ◌-◌, ◌≤◌, ◌<◌}
use native.Mathlib.Omega.{arith}
use native.Mathlib.Decide.{dec_lt}
use native.Mathlib.Nat.{le_of_suc-le-suc, not-suc-le-zero}
use lib.IntN.{ℤ}
use lib.ListN.{length, take, set, length-take}
use lib.Seq.{get_or-take, take_all, take-take}
use lib.Dec.{leb}
use borrow.Author.Tests.{lt-leb, le-ltb, lt-ltb, eq-eqb, ne_eqb}
use Rattle.number.specs.Refusal.{refused, given, numbered}
use Rattle.watchfile.specs.Rules.{kind_right, rank}
use Rattle.watchfile.specs.Format.{blank, rank_of, writing}
use Rattle.watchfile.specs.declared.Record.{Record}
use Rattle.writer.proofs.RestLaws.{at}
use Rattle.watchlog.specs.Placing.{NO_RECORD, stands, without, taken_in, place_of, pulled}
use Rattle.watchlog.proofs.InsertLaws.{place_here, place_later}
use Rattle.watchlog.proofs.LaidLaws.{same_front}

-- ---- pulling on, one place after the other

pub pull_on : (i : ℕ) (l : List Record) → suc i < length l → pulled (suc i) (set l i (at l (suc i))) ≡ pulled i l
unfolding pulled
pull_on i [] h = absurd (not-suc-le-zero h)
pull_on zero (q ∷ []) h = absurd (not-suc-le-zero (le_of_suc-le-suc h))
pull_on zero (q ∷ p ∷ l) h = refl
pull_on (suc i) (q ∷ l) h = ap (◌∷◌ q) (pull_on i l (le_of_suc-le-suc h))

-- those before the place stay
pub pull_front : (n i : ℕ) (l : List Record) → n ≤ i → take n (pulled i l) ≡ take n l
unfolding pulled
pull_front zero i l h = refl
pull_front (suc n) zero l h = absurd (not-suc-le-zero h)
pull_front (suc n) (suc i) [] h = refl
pull_front (suc n) (suc i) (q ∷ l) h = ap (◌∷◌ q) (pull_front n i l (le_of_suc-le-suc h))

-- among the first n and one more
pull_take : (n i : ℕ) (l : List Record) → i ≤ n → take n (pulled i l) ≡ pulled i (take (suc n) l)
unfolding pulled
pull_take zero i [] h = refl
pull_take (suc n) i [] h = refl
pull_take n zero (q ∷ l) h = refl
pull_take zero (suc i) (q ∷ l) h = absurd (not-suc-le-zero h)
pull_take (suc n) (suc i) (q ∷ l) h = ap (◌∷◌ q) (pull_take n i l (le_of_suc-le-suc h))

pull_length : (i : ℕ) (l : List Record) → i < length l → suc (length (pulled i l)) ≡ length l
unfolding pulled
pull_length i [] h = absurd (not-suc-le-zero h)
pull_length zero (q ∷ l) h = refl
pull_length (suc i) (q ∷ l) h = ap suc (pull_length i l (le_of_suc-le-suc h))

-- ---- three cases of the first record

module _ (n : ℕ) (q : Record) (qs : List Record) where
  pub later : rank_of q < n → (stands n (q ∷ qs) ≡ stands n qs) × (without n (q ∷ qs) ≡ q ∷ without n qs)
  unfolding stands without
  later h = (rw (lt-ltb (rank_of q) n h), rw (lt-ltb (rank_of q) n h))

  pub same : rank_of q ≡ n → (stands n (q ∷ qs) ≡ true) × (without n (q ∷ qs) ≡ qs)
  unfolding stands without
  same h = (
    rw (le-ltb (rank_of q) n (omega arith), eq-eqb (rank_of q) n h),
    rw (le-ltb (rank_of q) n (omega arith), eq-eqb (rank_of q) n h),
  )

  pub above : n < rank_of q → (stands n (q ∷ qs) ≡ false) × (without n (q ∷ qs) ≡ q ∷ qs)
  unfolding stands without
  above h = (
    rw (le-ltb (rank_of q) n (omega arith), ne_eqb (rank_of q) n (λ e. omega arith)),
    rw (le-ltb (rank_of q) n (omega arith), ne_eqb (rank_of q) n (λ e. omega arith)),
  )

  -- every property of how the record compares
  pub by : (P : Type 0) → (rank_of q < n → P) → (rank_of q ≡ n → P) → (n < rank_of q → P) → P
  by P below equal over = go (dec_lt (rank_of q) n) (dec_lt n (rank_of q))
    where
      go : Dec (rank_of q < n) → Dec (n < rank_of q) → P
      go (yes y) d = below y
      go (no y) (yes z) = over z
      go (no y) (no z) = equal (omega arith)

-- ---- by places: one of this rank is taken out, and where there is none it does not stand there

abbrev There : ℕ → List Record → Type 0
There n qs = (stands n qs ≡ true) × (without n qs ≡ pulled (place_of n qs) qs)

out_there : (n : ℕ) (qs : List Record) → place_of n qs < length qs → rank_of (at qs (place_of n qs)) ≡ n → There n qs
unfolding pulled
out_there n [] l e = absurd (not-suc-le-zero l)
out_there n (q ∷ qs) l e =
    by n q qs (There n (q ∷ qs))
    (λ h. let p = place_later n q qs h in
    let ih = out_there n qs (le_of_suc-le-suc (rw p at l)) (rw p at e) in
    ((later n q qs h).0 ∙ ih.0, (later n q qs h).1 ∙ ap (◌∷◌ q) ih.1 ∙ ap (λ (i : ℕ). pulled i (q ∷ qs)) (sym p)))
    (λ h. ((same n q qs h).0, (same n q qs h).1 ∙ ap (λ (i : ℕ). pulled i (q ∷ qs)) (sym (place_here n q qs (omega arith)))))
    (λ h. absurd (let f = rw (place_here n q qs (omega arith)) at e in omega arith))

out_none : (n : ℕ) (qs : List Record) → (place_of n qs < length qs → rank_of (at qs (place_of n qs)) ≡ n → ⊥) → stands n qs ≡ false
unfolding stands place_of
out_none n [] none = refl
out_none n (q ∷ qs) none =
    by n q qs (stands n (q ∷ qs) ≡ false)
    (λ h. let p = place_later n q qs h in (later n q qs h).0 ∙ out_none n qs (λ l e. none (rw p (omega arith)) (rw p e)))
    (λ h. absurd (let p = place_here n q qs (omega arith) in none (rw p (omega arith)) (rw p h)))
    (λ h. (above n q qs h).0)

-- ---- what is written without it, of records in 48 places

pub no_kind : (kind : ℕ) → 255 < kind → kind_right kind ≡ false
unfolding kind_right
no_kind kind h = rw (lt-leb kind 4 (omega arith)) (and-false (leb 1 kind))

module _ (rule : ℕ → ℤ) (records : List Record) (long : length records ≡ 48) (count : ℕ) (few : count ≤ 48) (minute kind room i : ℕ)
    (right : kind_right kind ≡ true) (found : i ≡ place_of (rank minute kind) (take count records)) where
  abbrev rs : List Record
  rs = take count records

  abbrev n : ℕ
  n = rank minute kind

  many : length rs ≡ count
  many = omega (arith, length-take count records)

  here : i < count → rank_of (at rs (place_of n rs)) ≡ rank_of (at records i)
  here l = ap (λ (k : ℕ). rank_of (at rs k)) (sym found) ∙ ap rank_of (get_or-take count records i blank l)

  pub out_written : (all : List Record) → take 47 all ≡ take 47 (pulled i records) → i < count → rank_of (at records i) ≡ n
      → writing rule all (count - 1) room ≡ taken_in rule minute kind room (given rs)
  out_written all e l r =
      let there = out_there n rs (omega (arith, many, found)) (here l ∙ r) in
      let is : without n rs ≡ pulled i rs = there.1 ∙ ap (λ (k : ℕ). pulled k rs) (sym found) in
      let less : suc (length (without n rs)) ≡ count = ap (λ (x : List Record). suc (length x)) is ∙ pull_length i rs (omega (arith, many)) ∙ many in
      let fewer : length (without n rs) ≡ count - 1 = omega arith in
      let k : suc (count - 1) ≡ count = omega arith in
      let one : take (count - 1) all ≡ take (count - 1) (pulled i records) =
      sym (take-take (count - 1) 47 all (omega arith)) ∙ ap (take (count - 1)) e ∙ take-take (count - 1) 47 (pulled i records) (omega arith) in
      let front : take (count - 1) (pulled i records) ≡ pulled i rs = pull_take (count - 1) i records (omega arith) ∙ ap (λ (j : ℕ). pulled i (take j records)) k in
      rw (right, there.0)
      (same_front rule all (without n rs) (count - 1) room (one ∙ front ∙ sym is ∙ sym (take_all (count - 1) (without n rs) (omega arith)))
      ∙ ap (λ (j : ℕ). writing rule (without n rs) j room) (sym fewer))

  pub none_written : (i < count → rank_of (at records i) ≡ n → ⊥) → taken_in rule minute kind room (given rs) ≡ refused (numbered NO_RECORD [])
  none_written none =
      rw (right, out_none n rs (λ l e. let k : i < count = omega (arith, many, found) in none k (sym (here k) ∙ e)))
