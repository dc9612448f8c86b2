-- `Page::bytes` meets its contract: as many bytes as have room are put. Assumes nothing.
use mathlib.Core.Path.{◌≡◌, refl, sym, ap, ◌∙◌}
use mathlib.Core.List.{List}
use Prim.Native.Nat.{ℕ, ◌+◌, ◌-◌, ◌≤◌, min}
use native.Mathlib.Nat.{zero-add}
use lib.ListN.{length, take, drop, set, get_or, length-set, length-take, length-drop}
use lib.Seq.{take_all}
use native.Mathlib.Omega.{arith}
use borrow.Author.Rules.{rules}
use Rattle.std.proofs.Math.Seq.{paste, paste-zero}
use Rattle.std.proofs.lemmas.List.Edits.{paste_more, take-paste}
use Rattle.text.specs.Text.{behind}
use Rattle.text.proofs.PutLaws.{put_none, put_fitting}
use Rattle.text.proofs.Page.bytes.Goals as goal

-- all of them pasted over a part of their number are these bytes
pasted : (d s : List ℕ) (k : ℕ) (part : List ℕ) → length d ≡ k → length part ≡ k → k ≤ length s → part ≡ paste d 0 s k → part ≡ take k s
pasted d s k part e l h p =
    sym (take_all k part (omega (arith, l)))
    ∙ ap (take k) p
    ∙ ap (λ (j : ℕ). take j (paste d 0 s k)) (sym (zero-add k))
    ∙ take-paste d 0 s k (omega arith) h

pub returns-then-self : goal.returns-then-self
returns-then-self c =
    let p = c.args.self.now in
    record { put = put_none p.text.now p.at _ c.if-self.true; lent = refl }

pub loop-i-init : goal.loop-i-init
loop-i-init c =
    let p = c.args.self.now in
    let k = c.min-fitting.result in
    (omega (arith, length-take (p.at + k - p.at) (drop p.at p.text.now), length-drop p.at p.text.now), paste-zero (take (p.at + k - p.at) (drop p.at p.text.now)) 0 c.args.bytes.now)

pub loop-i-preserved : goal.loop-i-preserved
loop-i-preserved c =
    let l = c.loop-i in
    let p = c.args.self.now in
    let k = c.min-fitting.result in
    let bytes = c.args.bytes.now in
    let d = take (p.at + k - p.at) (drop p.at p.text.now) in
    let long : length d ≡ k = omega (arith, length-take (p.at + k - p.at) (drop p.at p.text.now), length-drop p.at p.text.now) in (
      length-set l.part l.i _ ∙ l.invariant.0,
      ap (λ (x : List ℕ). set x l.i (get_or bytes l.i 0)) l.invariant.1
          ∙ ap (λ (j : ℕ). set (paste d 0 bytes l.i) j (get_or bytes l.i 0)) (sym (zero-add l.i))
          ∙ paste_more d 0 bytes l.i 0 (omega arith) (omega arith),
    )

pub returns : goal.returns
unfolding behind
returns c =
    let p = c.args.self.now in
    let l = c.loop-i in
    let k = c.min-fitting.result in
    let fits : k ≡ min (length c.args.bytes.now) (length p.text.now - p.at) = search rules in
    let back : p.at + k - p.at ≡ k = omega arith in
    let done : l.i ≡ k = omega arith in
    let part : l.part ≡ take k c.args.bytes.now =
    pasted _ c.args.bytes.now k l.part (omega (arith, length-take (p.at + k - p.at) (drop p.at p.text.now), length-drop p.at p.text.now)) l.invariant.0 (omega arith) (rw done at l.invariant.1) in
    record {
      put = record {
        laid = rw (part, back) (put_fitting p.text.now p.at k c.args.bytes.now (omega arith) fits);
        next = omega (arith, fits);
      };
      lent = refl;
    }
