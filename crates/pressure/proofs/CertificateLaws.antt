-- The points of a block, as its settings say them and as the words of its certificate: the same corners of one line. Assumes nothing.
use mathlib.Core.Path.{◌≡◌, refl, ap, ◌∙◌}
use mathlib.Core.Bool.{Bool, true, false}
use mathlib.Core.List.{List}
use Prim.Native.Nat.{ℕ, suc, ◌+◌, ◌*◌, ◌/◌, ◌<◌}
use native.Mathlib.Omega.{arith}
use lib.IntN.{ℤ, pos, negsuc, neg_ℤ, ◌*ℤ◌}
use lib.ListN.{get_or, drop, length}
use lib.Seq.{get_or-take, get_or-drop}
use borrow.Author.Tests.{lt-ltb}
use Rattle.std.specs.Prelude.{Option, Some, None}
use Rattle.number.specs.declared.Number.{Number}
use Rattle.number.specs.Refusal.{answer}
use Rattle.number.proofs.Sizes.{impossible}
use Rattle.cell.specs.Cells.{unbiased}
use Rattle.certificate.specs.Line.{valued, corner_in, corner_at, valued_as}
use Rattle.certificate.specs.declared.Corner.{Corner}
use Rattle.certificate.proofs.SameLaws.{same_valued}
use Rattle.block.specs.Layout.{POINTS}
use Rattle.block.specs.Words.{points_of, point_in, point_of, certificate_of}
use Rattle.pressure.specs.Pressure.{Barometer, corner, scale, outside, scaled, scaled_as}

once : (z : ℤ) → z *ℤ pos 1 ≡ z
once (pos n) = let e : n * 1 ≡ n = omega arith in ap pos e
once (negsuc n) = let e : suc n * 1 ≡ suc n = omega arith in ap (λ (m : ℕ). neg_ℤ (pos m)) e

corner_of : (w : ℕ) → corner_in 1 w ≡ corner (point_in w)
corner_of w = ap (λ (z : ℤ). make z) (once (unbiased w))
  where
    make : ℤ → Corner
    make z = record { reads = record { v = z }; gives = record { v = unbiased (w / 65536) } }

-- a word of the certificate is the point of its place
pub corner_at_lem : (s : List ℕ) (i : ℕ) → i < points_of s → corner_at 1 (certificate_of s) i ≡ corner (point_of s i)
corner_at_lem s i h =
    ap (corner_in 1) (get_or-take (points_of s) (drop POINTS s) i 0 h ∙ get_or-drop POINTS s i 0)
    ∙ rw (lt-ltb i 16 (omega arith)) (corner_of (get_or s (POINTS + i) 0))

-- what the words give, the barometer's points give
pub words_valued : (s : List ℕ) (r : ℤ) → length (certificate_of s) ≡ points_of s
    → valued (corner_at 1 (certificate_of s)) (length (certificate_of s)) r ≡ valued (λ i. corner (point_of s i)) (points_of s) r
words_valued s r e =
    ap (λ (n : ℕ). valued (corner_at 1 (certificate_of s)) n r) e
    ∙ same_valued (corner_at 1 (certificate_of s)) (λ i. corner (point_of s i)) r (points_of s) (λ k h. corner_at_lem s k h)

-- and that is the scale correction, or refusal 12
pub is_scaled : (b : Barometer) (r : ℤ) (v : Option Number) → valued_as v ≡ valued (λ i. corner (b.point i)) b.points r → scaled_as v ≡ scaled b r
unfolding scaled answer outside scale valued
is_scaled b r (Some n) e = go (outside b r) refl
  where
    go : (t : Bool) → outside b r ≡ t → scaled_as (Some n) ≡ scaled b r
    go true o = let e' = rw o at e in impossible (cc)
    go false o = let e' = rw o at e in rw o (cc)
is_scaled b r None e = go (outside b r) refl
  where
    go : (t : Bool) → outside b r ≡ t → scaled_as None ≡ scaled b r
    go true o = rw o refl
    go false o = let e' = rw o at e in impossible (cc)
