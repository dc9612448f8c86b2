-- Points whose readings rise, as a certificate's do: by at least one from place to place. So two pairs of neighbours round one x are
-- the same, or meet at a point that reads it, which then gives its own value; and no pair stands round x exactly when it lies below the
-- first point's reading or above the last's. Assumes nothing.
use mathlib.Core.Path.{◌≡◌, refl, sym, ap, subst, ◌∙◌}
use mathlib.Core.Bool.{Bool, true, false, not, ◌&&◌}
use mathlib.Core.Logic.{◌↔◌, ◌⊎◌, inl, inr}
use Prim.Native.Nat.{ℕ, zero, suc, ◌+◌, ◌-◌, ◌≤◌, ◌<◌}
use native.Mathlib.Omega.{arith}
use native.Mathlib.Decide.{dec_lt}
use native.Mathlib.Nat.{add-zero, zero-add}
use native.Mathlib.Numerals.{add-one}
use lib.IntN.{ℤ}
use lib.Signed.{le_z, lt_z}
use borrow.Author.Tests.{not-true}
use Rattle.number.specs.Whole.{within}
use Rattle.number.proofs.Sizes.{never}
use Rattle.settings.specs.Settings.{every}
use Rattle.settings.proofs.EveryLaws.{every_at}
use Rattle.certificate.specs.declared.Corner.{Corner}
use Rattle.certificate.specs.Line.{rises, stands, between, value_from, none_round}
use Rattle.certificate.proofs.OrderLaws.{up, down, at_most, is_at_most, above, below_is, same}
use Rattle.certificate.proofs.LineLaws.{round, round_back, at_low, at_high}

-- what passes at each place passes at all
all_pass : (passes : ℕ → Bool) (i n : ℕ) → ((k : ℕ) → k < n → passes (i + k) ≡ true) → every passes i n ≡ true
unfolding every
all_pass passes i zero f = refl
all_pass passes i (suc n) f =
    rw (
      ap passes (sym (add-zero i)) ∙ f 0 (omega arith),
      all_pass passes (suc i) n (λ k h. let e : suc i + k ≡ i + suc k = omega arith in ap passes e ∙ f (suc k) (omega arith)),
    )

-- n + 1 points that rise
module _ (corner : ℕ → Corner) (n : ℕ) (rise : (k : ℕ) → k < n → rises (corner k) (corner (k + 1)) ≡ true) where
  low : ℕ → ℕ → ℕ
  low i j = up (corner i).reads.v + down (corner j).reads.v

  -- d places on, the reading is at least d higher
  higher : (i d j : ℕ) → j ≡ i + d → j ≤ n → d + low i j ≤ low j i
  unfolding low
  higher i zero j e h = rw (e ∙ add-zero i) (omega arith)
  higher i (suc d) j e h =
      let e' : j ≡ i + d + 1 = omega arith in
      let so_far = higher i d (i + d) refl (omega arith) in
      let step = above (corner (i + d + 1)).reads.v (corner (i + d)).reads.v (not-true _ (rise (i + d) (omega arith))) in
      rw e' (omega arith)

  -- the readings of two places in order
  in_order : (i j : ℕ) → i ≤ j → j ≤ n → (j - i) + low i j ≤ low j i
  in_order i j h k = higher i (j - i) j (omega arith) k

  abbrev pub Round : ℕ → ℤ → Type 0
  Round i x = stands (corner i) (corner (i + 1)) x ≡ true

  -- ---- two pairs round one x give the same

  one_answer : (x : ℤ) (i j : ℕ) → i ≤ j → j < n → Round i x → Round j x → between (corner i) (corner (i + 1)) x ≡ between (corner j) (corner (j + 1)) x
  unfolding low
  one_answer x i j h k a b = go (dec_lt i j)
    where
      under : up x + down (corner (i + 1)).reads.v ≤ up (corner (i + 1)).reads.v + down x
      under = at_most x (corner (i + 1)).reads.v (round (corner i) (corner (i + 1)) x a).high

      over : up (corner j).reads.v + down x ≤ up x + down (corner j).reads.v
      over = at_most (corner j).reads.v x (round (corner j) (corner (j + 1)) x b).low

      go : Dec (i < j) → between (corner i) (corner (i + 1)) x ≡ between (corner j) (corner (j + 1)) x
      go (no d) =
          let e : i ≡ j = omega arith in
          ap (λ (k : ℕ). between (corner k) (corner (k + 1)) x) e
      go (yes d) =
          let o = in_order (i + 1) j (omega arith) (omega arith) in
          let e : i + 1 ≡ j = omega (arith, under, over) in
          let at : x ≡ (corner j).reads.v = same x (corner j).reads.v (omega (arith, under, over, o)) in
          at_high (corner i) (corner (i + 1)) x a (at ∙ ap (λ (k : ℕ). (corner k).reads.v) (sym e))
          ∙ ap (λ (k : ℕ). (corner k).gives.v) e
          ∙ sym (at_low (corner j) (corner (j + 1)) x b at)

  -- of the m pairs from place k on, the first that stands round x gives what any of them gives
  pub any_from : (x : ℤ) (i k m : ℕ) → k ≤ i → i < k + m → k + m ≤ n → Round i x → value_from corner x k m ≡ between (corner i) (corner (i + 1)) x
  unfolding value_from
  any_from x i k zero h l f a = absurd (omega arith)
  any_from x i k (suc m) h l f a =
      go (stands (corner k) (corner (k + 1)) x) refl (dec_lt k i) (λ g. any_from x i (k + 1) m g (omega arith) (omega arith) a)
    where
      go : (t : Bool) → stands (corner k) (corner (k + 1)) x ≡ t → Dec (k < i) → (k + 1 ≤ i → value_from corner x (k + 1) m ≡ between (corner i) (corner (i + 1)) x)
          → value_from corner x k (suc m) ≡ between (corner i) (corner (i + 1)) x
      go true e d rest = rw e (one_answer x k i h (omega arith) e a)
      go false e (yes d) rest = rw e (rest (omega arith))
      go false e (no d) rest =
          let same_place : k ≡ i = omega arith in
          never (sym e ∙ ap (λ (j : ℕ). stands (corner j) (corner (j + 1)) x) same_place ∙ a)

  -- ---- at a point

  -- neighbours stand round their own readings
  pub stands_at_own_readings : (i : ℕ) → i < n → Round i (corner i).reads.v × Round i (corner (i + 1)).reads.v
  stands_at_own_readings i h = (
    round_back (corner i) (corner (i + 1)) p (record { rise = not-true _ (rise i h); low = is_at_most p p (omega arith); high = is_at_most p q (omega (arith, s)) }),
    round_back (corner i) (corner (i + 1)) q (record { rise = not-true _ (rise i h); low = is_at_most p q (omega (arith, s)); high = is_at_most q q (omega arith) }),
  )
    where
      p : ℤ
      p = (corner i).reads.v

      q : ℤ
      q = (corner (i + 1)).reads.v

      s : up p + down q < up q + down p
      s = above q p (not-true _ (rise i h))

  -- ---- outside

  abbrev pub passes : ℤ → ℕ → Bool
  passes x k = not (stands (corner k) (corner (k + 1)) x)

  pub not_outside : (x : ℤ) (i : ℕ) → i < n → Round i x → none_round corner x n ≡ false
  unfolding none_round
  not_outside x i h a = go (none_round corner x n) refl
    where
      go : (t : Bool) → none_round corner x n ≡ t → none_round corner x n ≡ false
      go true e = never (sym (ap not a) ∙ ap (passes x) (sym (zero-add i)) ∙ every_at (passes x) 0 n i e h)
      go false e = e

  -- from the first point on, an x that no pair stands round is passed over by each
  module _ (x : ℤ) (all : none_round corner x n ≡ true) (first : le_z (corner 0).reads.v x ≡ true) where
    over : (k : ℕ) → k < n → le_z (corner k).reads.v x ≡ true → le_z x (corner (k + 1)).reads.v ≡ false
    over k h l = go (le_z x (corner (k + 1)).reads.v) refl
      where
        go : (t : Bool) → le_z x (corner (k + 1)).reads.v ≡ t → le_z x (corner (k + 1)).reads.v ≡ false
        go true e =
            let a = round_back (corner k) (corner (k + 1)) x (record { rise = not-true _ (rise k h); low = l; high = e }) in
            never (sym (not_outside x k h a) ∙ all)
        go false e = e

    climb : (k : ℕ) → k ≤ n → le_z (corner k).reads.v x ≡ true
    climb zero h = first
    climb (suc k) h =
        let s = above x (corner (k + 1)).reads.v (over k h (climb k (omega arith))) in
        ap (λ (j : ℕ). le_z (corner j).reads.v x) (sym (add-one k)) ∙ is_at_most (corner (k + 1)).reads.v x (omega arith)

  -- an x below the first point's reading or above the last's has no pair round it
  below_first : (x : ℤ) (k : ℕ) → k < n → le_z (corner 0).reads.v x ≡ false → passes x k ≡ true
  unfolding low
  below_first x k h f = ap not (go (stands (corner k) (corner (k + 1)) x) refl)
    where
      go : (t : Bool) → stands (corner k) (corner (k + 1)) x ≡ t → stands (corner k) (corner (k + 1)) x ≡ false
      go true e =
          let a = at_most (corner k).reads.v x (round (corner k) (corner (k + 1)) x e).low in
          let b = above (corner 0).reads.v x f in
          let o = in_order 0 k (omega arith) (omega arith) in
          absurd (omega arith)
      go false e = e

  above_last : (x : ℤ) (k : ℕ) → k < n → le_z x (corner n).reads.v ≡ false → passes x k ≡ true
  unfolding low
  above_last x k h f = ap not (go (stands (corner k) (corner (k + 1)) x) refl)
    where
      go : (t : Bool) → stands (corner k) (corner (k + 1)) x ≡ t → stands (corner k) (corner (k + 1)) x ≡ false
      go true e =
          let a = at_most x (corner (k + 1)).reads.v (round (corner k) (corner (k + 1)) x e).high in
          let b = above x (corner n).reads.v f in
          let o = in_order (k + 1) n (omega arith) (omega arith) in
          absurd (omega arith)
      go false e = e

  pub outside_is : (x : ℤ) → 0 < n → none_round corner x n ≡ not (within (corner 0).reads.v (corner n).reads.v x)
  unfolding none_round
  outside_is x some = go (le_z (corner 0).reads.v x) (le_z x (corner n).reads.v) refl refl
    where
      last : n - 1 + 1 ≡ n
      last = omega arith

      inner : le_z (corner 0).reads.v x ≡ true → le_z x (corner n).reads.v ≡ true → (t : Bool) → none_round corner x n ≡ t → none_round corner x n ≡ false
      inner f l true e =
          let o = over x e f (n - 1) (omega arith) (climb x e f (n - 1) (omega arith)) in
          never (sym o ∙ ap (λ (k : ℕ). le_z x (corner k).reads.v) last ∙ l)
      inner f l false e = e

      go : (a b : Bool) → le_z (corner 0).reads.v x ≡ a → le_z x (corner n).reads.v ≡ b
          → none_round corner x n ≡ not (within (corner 0).reads.v (corner n).reads.v x)
      go false b f l = rw f (all_pass (passes x) 0 n (λ k h. ap (passes x) (zero-add k) ∙ below_first x k h f))
      go true false f l = rw (f, l) (all_pass (passes x) 0 n (λ k h. ap (passes x) (zero-add k) ∙ above_last x k h l))
      go true true f l = rw (f, l) (inner f l (none_round corner x n) refl)

  -- At a point, what that point gives, the last included.
  pub at_corner : 0 < n → (i : ℕ) → i ≤ n → (none_round corner (corner i).reads.v n ≡ false) × (value_from corner (corner i).reads.v 0 n ≡ (corner i).gives.v)
  at_corner some i h = go (dec_lt i n)
    where
      up_to : (k : ℕ) → k < n → (none_round corner (corner (k + 1)).reads.v n ≡ false) × (value_from corner (corner (k + 1)).reads.v 0 n ≡ (corner (k + 1)).gives.v)
      up_to k l =
          let x = (corner (k + 1)).reads.v in
          let a = (stands_at_own_readings k l).1 in
          (not_outside x k l a, any_from x k 0 n (omega arith) (omega arith) (omega arith) a ∙ at_high (corner k) (corner (k + 1)) x a refl)

      go : Dec (i < n) → (none_round corner (corner i).reads.v n ≡ false) × (value_from corner (corner i).reads.v 0 n ≡ (corner i).gives.v)
      go (yes l) =
          let x = (corner i).reads.v in
          let a = (stands_at_own_readings i l).0 in
          (not_outside x i l a, any_from x i 0 n (omega arith) (omega arith) (omega arith) a ∙ at_low (corner i) (corner (i + 1)) x a refl)
      go (no l) =
          let e : i - 1 + 1 ≡ i = omega arith in
          subst (λ (k : ℕ). (none_round corner (corner k).reads.v n ≡ false) × (value_from corner (corner k).reads.v 0 n ≡ (corner k).gives.v)) e
          (up_to (i - 1) (omega arith))

  -- No pair stands round x exactly when it lies below the first point's reading or above the last's.
  pub outside_exactly : 0 < n → (x : ℤ) → (none_round corner x n ≡ true) ↔ ((lt_z x (corner 0).reads.v ≡ true) ⊎ (lt_z (corner n).reads.v x ≡ true))
  outside_exactly some x = (λ e. from (le_z first x) refl (sym is ∙ e), λ e. is ∙ back e)
    where
      first : ℤ
      first = (corner 0).reads.v

      last : ℤ
      last = (corner n).reads.v

      is : none_round corner x n ≡ not (within first last x)
      is = outside_is x some

      from : (t : Bool) → le_z first x ≡ t → not (within first last x) ≡ true → (lt_z x first ≡ true) ⊎ (lt_z last x ≡ true)
      from true f e = inr (below_is last x ∙ (rw f at e))
      from false f e = inl (below_is x first ∙ ap not f)

      either : (t : Bool) → le_z x last ≡ false → not (t && le_z x last) ≡ true
      either true e = rw e
      either false e = refl

      back : (lt_z x first ≡ true) ⊎ (lt_z last x ≡ true) → not (within first last x) ≡ true
      back (inl e) = rw (not-true (le_z first x) (sym (below_is x first) ∙ e))
      back (inr e) = either (le_z first x) (not-true (le_z x last) (sym (below_is last x) ∙ e))
