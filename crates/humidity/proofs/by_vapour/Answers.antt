-- `by_vapour` meets its contract: 22, then 15, and then e lies from 0.19 hPa to saturation. Assumes nothing.
use mathlib.Core.Path.{◌≡◌, sym, ap, subst, ◌∙◌}
use mathlib.Core.Bool.{Bool, true, false}
use Prim.Native.Nat.{ℕ, ◌≤◌}
use lib.IntN.{ℤ, pos, nat_abs}
use lib.Signed.{le_z}
use borrow.Author.Tests.{leb-true}
use Rattle.std.proofs.Common.{rules}
use Rattle.number.specs.Refusal.{answer}
use Rattle.number.proofs.Sizes.{impossible}
use Rattle.vapour.specs.Vapour.{lowest_vapour}
use Rattle.humidity.specs.Parts.{FiguresOf}
use Rattle.humidity.proofs.VapourPressureLaws.{whole_e}
use Rattle.humidity.proofs.MoistureLaws.{none}
use Rattle.humidity.proofs.by_vapour.Goals as goal
use Rattle.humidity.proofs.by_vapour.Goals.{After-size, Else-gt}

-- the number that was made is the one that the test has
at_most : (e : ℤ) {n m : ℤ} {b : Bool} → n ≡ m → le_z e n ≡ b → le_z e m ≡ b
at_most e h k = ap (le_z e) (sym h) ∙ k

at_least : (e : ℤ) {n m : ℤ} {b : Bool} → n ≡ m → le_z n e ≡ b → le_z m e ≡ b
at_least e h k = ap (λ (z : ℤ). le_z z e) (sym h) ∙ k

-- e as the code has it
record Size (e : ℤ) (d n : ℕ) : Type 0 where
  is : pos n ≡ e
  least : lowest_vapour ≤ n
  most : n ≤ d

sized : (e : ℤ) (d n : ℕ) → n ≡ nat_abs e → le_z e (pos d) ≡ true → le_z (pos lowest_vapour) e ≡ true → Size e d n
sized e d n h u l =
    let w = whole_e e l in
    let is : pos n ≡ e = ap pos h ∙ w.0 in
    record {
      is = is;
      least = subst (λ (k : ℕ). lowest_vapour ≤ k) (sym h) w.1;
      most = leb-true n d (ap (λ (z : ℤ). le_z z (pos d)) is ∙ u);
    }

under : (c : Else-gt) → le_z c.args.e.v (pos c.args.saturation) ≡ true
under c = at_most c.args.e.v c.whole.ensures.value (search rules)

enough : (c : After-size) → le_z (pos lowest_vapour) c.args.e.v ≡ true
enough c = at_least c.args.e.v c.whole-2.ensures.value (search rules)

by_size : (c : After-size) → let x = c.args in Size x.e.v x.saturation c.size.result
by_size c = sized _ _ c.size.result c.size.ensures (at_most c.args.e.v c.whole.ensures.value (search rules)) (enough c)

pub returns-then-gt : goal.returns-then-gt
unfolding answer
returns-then-gt c =
    let over : le_z c.args.e.v (pos c.args.saturation) ≡ false = at_most c.args.e.v c.whole.ensures.value (search rules) in
    record { figures = none; first = rw over; worked = λ e. impossible (cc) }

pub returns-then-lt : goal.returns-then-lt
unfolding answer
returns-then-lt c =
    let short : le_z (pos lowest_vapour) c.args.e.v ≡ false = at_least c.args.e.v c.whole-2.ensures.value (search rules) in
    record { figures = none; first = rw (under (goal.at.returns-then-lt c).Else-gt, short); worked = λ e. impossible (cc) }

pub returns : goal.returns
unfolding answer
returns c =
    let at = (goal.at.returns c).After-size in
    let x = c.args in
    record {
      figures = c.figures.result;
      first = rw (under (goal.at.returns c).Else-gt, enough at);
      worked = λ g. subst (λ (e : ℤ). FiguresOf e x.saturation c.figures.result) (by_size at).is c.figures.ensures;
    }
