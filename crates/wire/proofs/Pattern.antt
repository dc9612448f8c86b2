-- Whether a binary32 is finite shows in the exponent's field of its pattern: the field is not all ones. Assumes nothing.
use mathlib.Core.Path.{◌≡◌, refl, subst}
use mathlib.Core.Bool.{Bool, true, false, not, ◌&&◌, cond}
use Prim.Native.Nat.{ℕ, zero, suc, ◌+◌, ◌/◌, ◌%◌, ◌^◌}
use lib.Dec.{T, leb, eqb}
use lib.Ieee.{Float, nan, inf, binary32, odd, of_fields, of_bits, nan_bits}
use Rattle.wire.specs.Finite.{is_finite, Finite}

T_true : (b : Bool) → T b → b ≡ true
T_true true t = refl
T_true false t = absurd t

odd_finite : (d : ℕ) (s : Bool) (q k l : ℕ) → Finite (odd d s q k l)
unfolding odd
odd_finite d s zero k l = tt
odd_finite d s (suc q) k l = tt

pick_test : (b c s : Bool) (v : Float) → Finite v → is_finite (cond b (cond c (inf s) nan) v) ≡ not b
pick_test true true s v f = refl
pick_test true false s v f = refl
pick_test false c s v f = T_true (is_finite v) f

fields_test : (s : Bool) (x t : ℕ) → is_finite (of_fields binary32 s x t) ≡ not (eqb x 255)
unfolding of_fields
fields_test s zero t = T_true (is_finite (odd 24 s t 0 149)) (odd_finite 24 s t 0 149)
fields_test s (suc x) t = pick_test (eqb (suc x) 255) (eqb t 0) s (odd 24 s (2 ^ 23 + t) x 149) (odd_finite 24 s (2 ^ 23 + t) x 149)

pub bits_test : (b : ℕ) → is_finite (of_bits binary32 b) ≡ not (eqb (b % 2 ^ 31 / 2 ^ 23) 255)
unfolding of_bits
bits_test b = fields_test (leb (2 ^ 31) b) (b % 2 ^ 31 / 2 ^ 23) (b % 2 ^ 23)

pub bits_no_nan : (b : ℕ) → Finite (of_bits binary32 b) → T (not (nan_bits binary32 b))
unfolding nan_bits
bits_no_nan b h = go (eqb (b % 2 ^ 31 / 2 ^ 23) 255) (not (eqb (b % 2 ^ 23) 0)) (subst T (bits_test b) h)
  where
    go : (x y : Bool) → T (not x) → T (not (x && y))
    go true y n = absurd n
    go false y n = tt
