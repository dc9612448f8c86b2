-- Each public contract of this crate allows a single answer. Assumes nothing.
use mathlib.Core.Path.{◌≡◌, sym, ap₂, ◌∙◌}
use Prim.Native.Nat.{ℕ}
use lib.IntN.{ℤ}
use Rattle.number.specs.Single.{Single}
use Rattle.sine.specs.declared.Millionths.{Millionths}
use Rattle.sine.specs.declared.SineAndCosine.{SineAndCosine}
use Rattle.sine.specs.Sine.{Parts}
use Rattle.sine.proofs.mark.Reads as mark
use Rattle.sine.proofs.size.Reads as size
use Rattle.sine.proofs.sine.Reads as sine
use Rattle.sine.proofs.cosine.Reads as cosine

pub single_mark : Single mark.Post
single_mark κs a r r' s s' p q = ap₂ make (p.0 ∙ sym q.0) (p.1 ∙ sym q.1)
  where
    make : ℕ → ℕ → SineAndCosine
    make x y = record { 0 = x; 1 = y }

pub single_size : Single size.Post
single_size κs a r r' s s' p q = p ∙ sym q

-- a number's parts give it away
by_parts : (z : ℤ) (r r' : Millionths) → Parts z r.up r.down → Parts z r'.up r'.down → r ≡ r'
by_parts z r r' p q = ap₂ make (p.up_is ∙ sym q.up_is) (p.down_is ∙ sym q.down_is)
  where
    make : ℕ → ℕ → Millionths
    make up down = record { up = up; down = down }

pub single_sine : Single sine.Post
single_sine κs a r r' s s' p q = by_parts _ r r' p q

pub single_cosine : Single cosine.Post
single_cosine κs a r r' s s' p q = by_parts _ r r' p q
