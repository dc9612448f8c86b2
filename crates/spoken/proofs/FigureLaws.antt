-- Laws of figures: a last digit is a number of one digit, a minus stands before what is below zero, and a plus before what is above it.
-- Assumes nothing.
use mathlib.Core.Path.{◌≡◌, refl, ap, ◌∙◌}
use mathlib.Core.Bool.{true, false}
use mathlib.Core.List.{[], ◌∷◌, ◌++◌}
use Prim.Native.Nat.{ℕ, ◌%◌}
use native.Mathlib.Omega.{arith}
use lib.IntN.{ℤ, pos, negsuc, nat_abs}
use lib.Signed.{lt_z, le_z}
use borrow.Author.Tests.{ltb-true, leb-true, leb-false, lt-ltb, le-ltb}
use Rattle.number.proofs.Sizes.{never}
use Rattle.text.specs.Letters.{letters}
use Rattle.text.specs.Text.{digit, decimal}
use Rattle.text.proofs.DecimalLaws.{decimal_one}
use Rattle.spoken.specs.Figures.{tenths, tenths_of, change_of}

pub last_digit : (n : ℕ) → decimal (n % 10) ≡ digit (n % 10) ∷ []
last_digit n =
    let e : n % 10 % 10 ≡ n % 10 = omega arith in
    decimal_one (n % 10) (omega arith) ∙ ap (λ (d : ℕ). digit d ∷ []) e

pub below_zero : (z : ℤ) → lt_z z (pos 0) ≡ true → tenths_of z ≡ letters "-" ++ tenths (nat_abs z)
below_zero (pos n) t = absurd (omega (arith, ltb-true n 0 t))
below_zero (negsuc n) t = refl

pub from_zero : (z : ℤ) → lt_z z (pos 0) ≡ false → tenths_of z ≡ tenths (nat_abs z)
from_zero (pos n) t = refl
from_zero (negsuc n) t = never (cc)

pub no_rise : (z : ℤ) → le_z z (pos 0) ≡ true → change_of z ≡ tenths_of z
no_rise (pos n) t = rw (le-ltb 0 n (leb-true n 0 t))
no_rise (negsuc n) t = refl

pub rise : (z : ℤ) → le_z z (pos 0) ≡ false → change_of z ≡ letters "+" ++ tenths_of z
rise (pos n) t = rw (lt-ltb 0 n (leb-false n 0 t))
rise (negsuc n) t = never (cc)
