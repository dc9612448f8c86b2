-- Each public contract of this crate allows a single answer: each gives the result, or its number, as a function of the
-- arguments. Assumes nothing.
use mathlib.Core.Path.{◌≡◌, sym, ap, ◌∙◌}
use lib.IntN.{ℤ}
use Rattle.number.specs.Single.{Single}
use Rattle.number.specs.declared.Number.{Number}
use Rattle.number.specs.declared.Kept.{Kept}
use Rattle.number.proofs.Kept.number.Reads as kept-number
use Rattle.number.proofs.Number.whole.Reads as whole
use Rattle.number.proofs.Number.signed.Reads as signed
use Rattle.number.proofs.Number.keep.Reads as keep
use Rattle.number.proofs.Number.plus.Reads as plus
use Rattle.number.proofs.Number.minus.Reads as minus
use Rattle.number.proofs.Number.times.Reads as times
use Rattle.number.proofs.Number.is_minus.Reads as is-minus
use Rattle.number.proofs.Number.size.Reads as size
use Rattle.number.proofs.Number.over.Reads as over
use Rattle.number.proofs.Number.within.Reads as within
use Rattle.number.proofs.power.Reads as power

pub number_by : {x y : Number} → x.v ≡ y.v → x ≡ y
number_by e = ap make e
  where
    make : ℤ → Number
    make z = record { v = z }

pub kept_by : {x y : Kept} → x.v ≡ y.v → x ≡ y
kept_by e = ap make e
  where
    make : ℤ → Kept
    make z = record { v = z }

pub single_kept_number : Single kept-number.Post
single_kept_number κs a r r' s s' p q = number_by (p.value ∙ sym q.value)

pub single_whole : Single whole.Post
single_whole κs a r r' s s' p q = number_by (p.value ∙ sym q.value)

pub single_signed : Single signed.Post
single_signed κs a r r' s s' p q = number_by (p.value ∙ sym q.value)

pub single_keep : Single keep.Post
single_keep κs a r r' s s' p q = kept_by (p ∙ sym q)

pub single_plus : Single plus.Post
single_plus κs a r r' s s' p q = number_by (p.value ∙ sym q.value)

pub single_minus : Single minus.Post
single_minus κs a r r' s s' p q = number_by (p.value ∙ sym q.value)

pub single_times : Single times.Post
single_times κs a r r' s s' p q = number_by (p.value ∙ sym q.value)

pub single_is_minus : Single is-minus.Post
single_is_minus κs a r r' s s' p q = p ∙ sym q

pub single_size : Single size.Post
single_size κs a r r' s s' p q = p ∙ sym q

pub single_over : Single over.Post
single_over κs a r r' s s' p q = number_by (p.value ∙ sym q.value)

pub single_within : Single within.Post
single_within κs a r r' s s' p q = p ∙ sym q

pub single_power : Single power.Post
single_power κs a r r' s s' p q = p ∙ sym q
