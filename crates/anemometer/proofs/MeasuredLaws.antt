-- What the dial tells, by the tests that the code makes; and the certificate's words as its points. Assumes nothing.
use mathlib.Core.Path.{◌≡◌, refl, sym, ap, ap₂, ◌∙◌}
use mathlib.Core.Bool.{Bool, true, false, not, ◌&&◌, ◌||◌, cond}
use mathlib.Core.List.{List}
use Prim.Native.Nat.{ℕ, ◌+◌, ◌-◌, ◌<◌, ◌≤◌, min}
use native.Mathlib.Omega.{arith}
use lib.Dec.{eqb, leb}
use lib.IntN.{ℤ, pos, nat_abs}
use lib.ListN.{get_or, take, drop, length}
use lib.Seq.{get_or-take, get_or-drop}
use borrow.Author.Tests.{leb-true, lt-ltb, not-false}
use Rattle.std.specs.Prelude.{Option, Some, None}
use Rattle.number.specs.Refusal.{refused, given, answer}
use Rattle.number.specs.declared.Number.{Number}
use Rattle.number.proofs.Sizes.{and_true, impossible, natural, within_size}
use Rattle.quantity.specs.Limits.{inside, metres_per_second}
use Rattle.certificate.specs.Line.{value_from, none_round, valued, corner_at, corner_in, valued_as}
use Rattle.certificate.specs.declared.Corner.{Corner}
use Rattle.certificate.proofs.SameLaws.{same_valued}
use Rattle.block.specs.Layout.{RATES}
use Rattle.block.specs.Words.{rates_of, rate_of, rate_words_of}
use Rattle.anemometer.specs.Anemometer.{Certificate, certificate_held, last_division, longest, dial_holds, turns, corners, turned, speed, outside, no_speed, measured}
use Rattle.anemometer.specs.declared.Note.{Note}

-- ---- the dial

pub record Limits (n : Note) : Type 0 where
  pub first : n.first ≤ 9999
  pub second : n.second ≤ 9999
  pub seconds : n.seconds ≤ 600

pub limits : (n : Note) → dial_holds n ≡ true → Limits n
unfolding dial_holds
limits n e =
    let a = leb n.first last_division in
    let b = leb n.second last_division in
    let c = not (eqb n.seconds 0) in
    let d = and_true (a && b && c) (leb n.seconds longest) e in
    let i = and_true a b (and_true (a && b) c d.0).0 in
    record { first = leb-true n.first 9999 i.0; second = leb-true n.second 9999 i.1; seconds = leb-true n.seconds 600 d.1 }

-- ---- the points

-- a word of the certificate is its point's
word_corner : (s : List ℕ) (n : Note) (i : ℕ) → i < rates_of s → corner_at n.seconds (rate_words_of s) i ≡ corners (certificate_held s) n i
word_corner s n i h =
    let few : i < 20 = omega arith in
    rw (lt-ltb i 20 few) (ap (corner_in n.seconds) (get_or-take (rates_of s) (drop (RATES + 1) s) i 0 h ∙ get_or-drop (RATES + 1) s i 0))

by_words : (s : List ℕ) (n : Note) → length (rate_words_of s) ≡ rates_of s
    → valued (corner_at n.seconds (rate_words_of s)) (length (rate_words_of s)) (turned n) ≡ valued (corners (certificate_held s) n) (rates_of s) (turned n)
by_words s n long =
    ap (λ (k : ℕ). valued (corner_at n.seconds (rate_words_of s)) k (turned n)) long
    ∙ same_valued (corner_at n.seconds (rate_words_of s)) (corners (certificate_held s) n) (turned n) (rates_of s) (λ i h. word_corner s n i h)

-- the same of words, turns and a number that were worked out apart
pub line_told_lem : (s : List ℕ) (n : Note) {words : List ℕ} {t : ℕ} {z : ℤ} → (words ≡ rate_words_of s) × (length words ≡ rates_of s)
    → t ≡ turns n.first n.second → z ≡ pos t
    → valued (corner_at n.seconds words) (length words) z ≡ valued (corners (certificate_held s) n) (rates_of s) (turned n)
line_told_lem s n is turn whole =
    ap₂ (λ (l : List ℕ) (y : ℤ). valued (corner_at n.seconds l) (length l) y) is.0 (whole ∙ ap pos turn)
    ∙ by_words s n (ap length (sym is.0) ∙ is.1)

-- ---- what the line gives

module _ (c : Certificate) (n : Note) where
  none_there : {x : Option Number} → x ≡ None → valued_as x ≡ valued (corners c n) c.points (turned n) → outside c n ≡ true
  unfolding valued outside
  none_there is e = go (none_round (corners c n) (turned n) (c.points - 1)) refl
    where
      go : (t : Bool) → none_round (corners c n) (turned n) (c.points - 1) ≡ t → none_round (corners c n) (turned n) (c.points - 1) ≡ true
      go true h = h
      go false h = let e' = rw (is, h) at e in impossible (cc)

  there : {x : Option Number} {z : Number} → x ≡ Some z → valued_as x ≡ valued (corners c n) c.points (turned n) → (outside c n ≡ false) × (z.v ≡ speed c n)
  unfolding valued outside speed
  there {x} {z} is e = go (none_round (corners c n) (turned n) (c.points - 1)) refl
    where
      go : (t : Bool) → none_round (corners c n) (turned n) (c.points - 1) ≡ t
          → (none_round (corners c n) (turned n) (c.points - 1) ≡ false) × (z.v ≡ value_from (corners c n) (turned n) 0 (c.points - 1))
      go true h = let e' = rw (is, h) at e in impossible (cc)
      go false h = let e' = rw (is, h) at e in (h, cc)

  -- ---- what an answer says

  pub was_dial : refused 23 ≡ measured c n → dial_holds n ≡ false
  unfolding measured answer
  was_dial e = go (dial_holds n) (no_speed c n) refl refl
    where
      go : (a b : Bool) → dial_holds n ≡ a → no_speed c n ≡ b → dial_holds n ≡ false
      go true true h k = let e' = rw (h, k) at e in impossible (cc)
      go true false h k = let e' = rw (h, k) at e in impossible (cc)
      go false b h k = h

  pub was_certificate : refused 24 ≡ measured c n → (dial_holds n ≡ true) × (no_speed c n ≡ true)
  unfolding measured answer
  was_certificate e = go (dial_holds n) (no_speed c n) refl refl
    where
      go : (a b : Bool) → dial_holds n ≡ a → no_speed c n ≡ b → (dial_holds n ≡ true) × (no_speed c n ≡ true)
      go true true h k = (h, k)
      go true false h k = let e' = rw (h, k) at e in impossible (cc)
      go false b h k = let e' = rw h at e in impossible (cc)

  pub was_speed : {z : ℤ} → given z ≡ measured c n → (dial_holds n ≡ true) × (no_speed c n ≡ false) × (z ≡ speed c n)
  unfolding measured answer
  was_speed {z} e = go (dial_holds n) (no_speed c n) refl refl
    where
      go : (a b : Bool) → dial_holds n ≡ a → no_speed c n ≡ b → (dial_holds n ≡ true) × (no_speed c n ≡ false) × (z ≡ speed c n)
      go true true h k = let e' = rw (h, k) at e in impossible (cc)
      go true false h k = let e' = rw (h, k) at e in (h, k, cc)
      go false b h k = let e' = rw h at e in impossible (cc)

  -- ---- the answers

  pub outside_dial : dial_holds n ≡ false → refused 23 ≡ measured c n
  unfolding measured answer
  outside_dial h = rw h

  module _ (dial : dial_holds n ≡ true) where
    pub outside_certificate : {x : Option Number} → x ≡ None → valued_as x ≡ valued (corners c n) c.points (turned n) → refused 24 ≡ measured c n
    unfolding measured answer
    outside_certificate is e = rw (dial, none_there is e)

    pub beyond : {x : Option Number} {z : Number} → x ≡ Some z → valued_as x ≡ valued (corners c n) c.points (turned n) → inside metres_per_second z.v ≡ false
        → refused 24 ≡ measured c n
    unfolding measured answer
    beyond is e i =
        let w = there is e in
        let i' : inside metres_per_second (speed c n) ≡ false = sym (ap (inside metres_per_second) w.1) ∙ i in
        rw (dial, w.0, i')

    pub a_speed : {x : Option Number} {z : Number} {r : ℕ} → x ≡ Some z → valued_as x ≡ valued (corners c n) c.points (turned n) → inside metres_per_second z.v ≡ true
        → r ≡ nat_abs z.v → given (pos r) ≡ measured c n
    unfolding measured answer
    a_speed {x} {z} is e i size =
        let w = there is e in
        let i' : inside metres_per_second (speed c n) ≡ true = sym (ap (inside metres_per_second) w.1) ∙ i in
        rw (dial, w.0, i') (ap given (ap pos size ∙ natural 0 (pos 750) z.v i ∙ w.1))
