-- `value_at` meets its contract: the pairs that are left to try answer for the whole. Assumes nothing.
use mathlib.Core.Path.{◌≡◌, sym, ap, ap₂, subst, ◌∙◌}
use mathlib.Core.Bool.{Bool, false}
use Rattle.certificate.proofs.value_at.Goals.{then-up_to+else-around, else-up_to}
use Prim.Native.Nat.{ℕ, ◌+◌, ◌-◌}
use native.Mathlib.Omega.{arith}
use lib.IntN.{ℤ}
use lib.ListN.{get_or, length}
use lib.Signed.{le_z}
use Rattle.number.specs.Refusal.{given}
use Rattle.certificate.specs.declared.Corner.{Corner}
use Rattle.certificate.specs.Line.{stands, between, corner_at}
use Rattle.certificate.specs.Stored.{Stored}
use Rattle.certificate.proofs.PairLaws.{pairs, whole, found, above, next, none}
use Rattle.certificate.proofs.SizeLaws.{stored}
use borrow.Author.Rules.{rules}
use Rattle.certificate.proofs.value_at.Goals as goal

-- a test of two corners that were made, as one of the corners of the points
said : (x : ℤ) {p q a b : Corner} {y t : Bool} → y ≡ stands p q x → p ≡ a → q ≡ b → y ≡ t → stands a b x ≡ t
said x h e f k = sym (ap₂ (λ (u v : Corner). stands u v x) e f) ∙ sym h ∙ k

-- an x above the higher of two corners
beyond : (x : ℤ) {q b : Corner} {y : Bool} (a : Corner) → y ≡ le_z x q.reads.v → q ≡ b → y ≡ false → stands a b x ≡ false
beyond x {q} {b} a h f k = above a b x (sym (ap (λ (v : Corner). le_z x v.reads.v) f) ∙ sym h ∙ k)

pub loop-i-init : goal.loop-i-init
loop-i-init c = whole (corner_at c.args.scale c.args.points.now) (length c.args.points.now) c.args.x.v

pub between-requires : goal.between-requires
between-requires c =
    let s = c.args.points.now in (
      subst Stored (sym c.corner_in-p.ensures) (stored c.args.scale (get_or s (c.loop-i.i - 1) 0) c.ranges.scale.fits),
      subst Stored (sym c.corner_in-q.ensures) (stored c.args.scale (get_or s c.loop-i.i 0) c.ranges.scale.fits),
      sym c.around.ensures ∙ c.if-around.true,
    )

pub returns-then-around : goal.returns-then-around
returns-then-around c =
    let s = c.args.points.now in
    let x = c.args.x.v in
    let corner = corner_at c.args.scale s in
    let k = c.loop-i.i - 1 in
    let up : c.loop-i.i ≡ k + 1 = omega arith in
    let p = c.corner_in-p.ensures in
    let q = c.corner_in-q.ensures ∙ ap corner up in
    ap given (c.between.ensures ∙ ap₂ (λ (u v : Corner). between u v x) p q)
    ∙ sym (found corner x k (length s - 1) (omega arith) (said x c.around.ensures p q c.if-around.true))
    ∙ c.loop-i.invariant

pub loop-i-preserved : goal.loop-i-preserved
loop-i-preserved c =
    let s = c.args.points.now in
    let x = c.args.x.v in
    let corner = corner_at c.args.scale s in
    let k = c.loop-i.i - 1 in
    let up : c.loop-i.i ≡ k + 1 = omega arith in
    let q = c.corner_in-q.ensures ∙ ap corner up in
    let not_round : stands (corner k) (corner (k + 1)) x ≡ false = elim c.if-up_to.branch [
      | then-up_to+else-around w ↦ said x w.around.ensures w.corner_in-p.ensures q w.if-around.false
      | else-up_to w ↦ beyond x (corner k) c.up_to.ensures q w.if-up_to.false
    ] in
    let on : c.loop-i.i + 1 - 1 ≡ k + 1 = omega arith in
    ap (λ (j : ℕ). pairs corner x j (length s - 1 - j)) on ∙ next corner x k (length s - 1) (omega arith) not_round ∙ c.loop-i.invariant

pub returns : goal.returns
returns c =
    let s = c.args.points.now in
    sym (none (corner_at c.args.scale s) c.args.x.v (c.loop-i.i - 1) (length s - 1) (omega arith)) ∙ c.loop-i.invariant
