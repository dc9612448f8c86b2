-- The sine and the cosine of any half degree, from the table's laws: each angle is folded into the first quarter turn, and what
-- is left of it there is decided by the remainder. Assumes nothing.
use mathlib.Core.Path.{◌≡◌, refl, ap, ◌∙◌}
use mathlib.Core.Bool.{Bool, true, false}
use mathlib.Core.Logic.{⊎_elim}
use Prim.Native.Nat.{ℕ, zero, suc, ◌+◌, ◌-◌, ◌*◌, ◌%◌, ◌≤◌, ◌<◌}
use native.Mathlib.Omega.{arith}
use lib.Dec.{le→leb}
use lib.IntN.{ℤ, pos, negsuc, neg_ℤ, nat_abs, ◌+ℤ◌, ◌*ℤ◌}
use lib.Signed.{◌≤ℤ◌}
use borrow.Author.Tests.{le-leb, lt-leb, lt-ltb, le-ltb}
use Rattle.number.specs.Whole.{signed}
use Rattle.number.proofs.Sizes.{size_signed}
use Rattle.sine.specs.Sine.{entry, fold, size, is_minus, sine, cosine, Parts}
use Rattle.sine.proofs.EveryNumber.{le_or_lt}
use Rattle.sine.proofs.TableLaws.{small, Near, quarter}

-- ---- the fold into the first quarter turn

pub fold_low : (y : ℕ) → y ≤ 180 → fold y ≡ y
unfolding fold
fold_low y h = rw (le-leb y 180 h)

pub fold_high : (y : ℕ) → 180 ≤ y → fold y ≡ 360 - y
unfolding fold
fold_high y h = ⊎_elim (λ low. rw (le-leb y 180 low) (omega arith)) (λ high. rw (lt-leb y 180 high)) (le_or_lt y 180)

fold_small : (y : ℕ) → fold y ≤ 180
fold_small y =
    ⊎_elim (λ h. omega (arith, fold_low y h)) (λ h. omega (arith, fold_high y (omega arith))) (le_or_lt y 180)

-- a quarter turn on, the fold is what is left to a quarter turn
fold_quarter : (x : ℕ) → fold ((x + 180) % 360) ≡ 180 - fold (x % 360)
fold_quarter x =
    ⊎_elim
    (λ second. omega (arith, fold_high (x % 360) second, fold_low ((x + 180) % 360) (omega arith)))
    (λ first. omega (arith, fold_low (x % 360) (omega arith), fold_high ((x + 180) % 360) (omega arith)))
    (le_or_lt 180 (x % 360))

-- ---- sizes

pub size_small : (x : ℕ) → size x ≤ 1000000
unfolding size
size_small x = small (fold (x % 360))

pub sine_size : (x : ℕ) → nat_abs (sine x) ≡ size x
unfolding sine
sine_size x = size_signed (is_minus x) (size x)

-- ---- the whole turn: "sine squared plus cosine squared is within 1,500,000 of a million squared"

squared : (t : Bool) (n : ℕ) → signed t n *ℤ signed t n ≡ pos (n * n)
squared false n = refl
squared true zero = refl
squared true (suc n) = refl

abbrev pub Close : ℤ → Type 0
Close z = (pos (1000000 * 1000000 - 1500000) ≤ℤ z) × (z ≤ℤ pos (1000000 * 1000000 + 1500000))

close : (n : ℕ) → Near n → Close (pos n)
close n near = (
  record { le = le→leb (1000000 * 1000000 - 1500000) n (omega arith) },
  record { le = le→leb n (1000000 * 1000000 + 1500000) (omega arith) },
)

pub squares : (x : ℕ) → Close (sine x *ℤ sine x +ℤ cosine x *ℤ cosine x)
unfolding sine cosine size
squares x =
    let i = fold (x % 360) in
    rw (squared (is_minus x) (size x), squared (is_minus (x + 180)) (size (x + 180)), fold_quarter x)
    (close (entry i * entry i + entry (180 - i) * entry (180 - i)) (quarter i (fold_small (x % 360))))

-- ---- up to half a turn, by the table's entries

upright : (x : ℕ) → x ≤ 360 → sine x ≡ pos (size x)
unfolding sine
upright x h = rw (le-ltb 360 (x % 720) (omega arith))

pub sine_low : (x : ℕ) → x ≤ 180 → sine x ≡ pos (entry x)
unfolding size
sine_low x h = upright x (omega arith) ∙ ap (λ (i : ℕ). pos (entry i)) (omega (arith, fold_low (x % 360) (omega arith)))

pub sine_high : (x : ℕ) → 180 < x → x < 360 → sine x ≡ pos (entry (360 - x))
unfolding size
sine_high x h k = upright x (omega arith) ∙ ap (λ (i : ℕ). pos (entry i)) (omega (arith, fold_high (x % 360) (omega arith)))

pub cosine_low : (x : ℕ) → x < 180 → cosine x ≡ pos (entry (180 - x))
unfolding cosine size
cosine_low x h =
    upright (x + 180) (omega arith) ∙ ap (λ (i : ℕ). pos (entry i)) (fold_quarter x ∙ ap (λ (i : ℕ). 180 - i) (omega (arith, fold_low (x % 360) (omega arith))))

pub cosine_high : (x : ℕ) → 180 < x → x < 360 → cosine x ≡ neg_ℤ (pos (entry (x - 180)))
unfolding cosine sine size
cosine_high x h k =
    rw (lt-ltb 360 ((x + 180) % 720) (omega arith))
    (ap (λ (i : ℕ). neg_ℤ (pos (entry i))) (omega (arith, fold_low ((x + 180) % 360) (omega arith))))

-- ---- above zero and below

pub parts_size : (z : ℤ) {up down : ℕ} → Parts z up down → up + down ≡ nat_abs z
parts_size (pos n) p = omega (arith, p.up_is, p.down_is)
parts_size (negsuc n) p = omega (arith, p.up_is, p.down_is)

pub sine_small : (x : ℕ) → nat_abs (sine x) ≤ 1000000
sine_small x = omega (arith, sine_size x, size_small x)

pub cosine_small : (x : ℕ) → nat_abs (cosine x) ≤ 1000000
unfolding cosine
cosine_small x = sine_small (x + 180)
