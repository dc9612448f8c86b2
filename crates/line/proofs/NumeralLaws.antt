-- Laws of numerals: the digits from a place on say what all of them say, and once a number is too large it stays so.
-- Assumes nothing.
use mathlib.Core.Path.{◌≡◌, refl}
use mathlib.Core.Bool.{Bool, true, false, cond}
use mathlib.Core.List.{List, [], ◌∷◌}
use Prim.Native.Nat.{ℕ, ◌+◌, ◌-◌, ◌*◌, ◌≤◌, ◌<◌}
use native.Mathlib.Omega.{arith}
use native.Mathlib.Numerals.{add-one}
use lib.Dec.{leb}
use lib.ListN.{length, get_or, drop, drop_of_length-le}
use lib.Seq.{drop-cons}
use borrow.Author.Tests.{leb-true, le-leb, lt-leb}
use Rattle.number.proofs.Sizes.{impossible, never}
use Rattle.text.specs.Text.{said}
use Rattle.line.proofs.WordLaws.{rest}
use Rattle.line.specs.Words.{part}
use Rattle.line.specs.Numeral.{digit, every_digit, natural, up_to, minus, whole, less, plus, signed}
use Rattle.std.specs.Prelude.{Option, Some, None}

-- the number that digits say behind a number n
unfoldable pub natural_from : ℕ → List ℕ → Option ℕ
natural_from n s = cond (every_digit s) (Some (said n s)) None

pub natural_some : (s : List ℕ) → 0 < length s → natural s ≡ natural_from 0 s
unfolding natural_from
natural_some [] h = absurd (omega arith)
natural_some (b ∷ s) h = refl

pub natural_none : (s : List ℕ) → length s ≡ 0 → natural s ≡ None
natural_none [] h = refl
natural_none (b ∷ s) h = absurd (omega arith)

pub natural_on : (s : List ℕ) (n i : ℕ) → i < length s → digit (get_or s i 0) ≡ true → natural_from n (drop i s) ≡ natural_from (10 * n + (get_or s i 0 - 0x30)) (drop (i + 1) s)
unfolding natural_from every_digit
natural_on s n i h e = rw (add-one i, drop-cons s i 0 h, e)

pub natural_stop : (s : List ℕ) (n i : ℕ) → i < length s → digit (get_or s i 0) ≡ false → natural_from n (drop i s) ≡ None
unfolding natural_from every_digit
natural_stop s n i h e = rw (drop-cons s i 0 h, e)

pub natural_end : (s : List ℕ) (n i : ℕ) → length s ≤ i → natural_from n (drop i s) ≡ Some n
unfolding natural_from every_digit
natural_end s n i h = rw (drop_of_length-le s h)

-- no digit makes a number smaller
said_more : (n : ℕ) (s : List ℕ) → n ≤ said n s
said_more n [] = omega arith
said_more n (x ∷ s) = omega (arith, said_more (10 * n + (x - 48)) s)

pub natural_large : (most n : ℕ) (s : List ℕ) → most < n → up_to most (natural_from n s) ≡ None
unfolding natural_from
natural_large most n s h = go (every_digit s)
  where
    go : (t : Bool) → up_to most (cond t (Some (said n s)) None) ≡ None
    go true = rw (lt-leb (said n s) most (omega (arith, said_more n s)))
    go false = refl

pub up_to_given : (most n : ℕ) → n ≤ most → up_to most (Some n) ≡ Some n
up_to_given most n h = rw (le-leb n most h)

-- ---- the sign

pub minus_some : (s : List ℕ) → minus s ≡ true → 1 ≤ length s
minus_some [] e = never e
minus_some (b ∷ s) e = omega arith

-- no larger than asked for
pub up_to_most : (most n : ℕ) (a : Option ℕ) → Some n ≡ up_to most a → n ≤ most
up_to_most most n None e = impossible (cc)
up_to_most most n (Some m) e = go (leb m most) refl e
  where
    go : (t : Bool) → leb m most ≡ t → Some n ≡ cond t (Some m) None → n ≤ most
    go true b e = let same : n ≡ m = cc in omega (arith, leb-true m most b)
    go false b e = impossible (cc)

-- by the sign
pub whole_minus : (most : ℕ) (s : List ℕ) → minus s ≡ true → whole most s ≡ up_to 0 (natural (drop 1 s))
unfolding whole
whole_minus most s e = rw e

pub whole_plain : (most : ℕ) (s : List ℕ) → minus s ≡ false → whole most s ≡ up_to most (natural s)
unfolding whole
whole_plain most s e = rw e

pub signed_below : (s : List ℕ) (r : Option ℕ) → minus s ≡ true → r ≡ up_to 2147483648 (natural (part s 1 (length s))) → less r ≡ signed s
unfolding signed
signed_below s r m e = rw (m, e, rest s 1)

pub signed_above : (s : List ℕ) (r : Option ℕ) → minus s ≡ false → r ≡ up_to 2147483647 (natural s) → plus r ≡ signed s
unfolding signed
signed_above s r m e = rw (m, e)
