-- `lay` meets its contract: the seven words are put, one by one. Assumes nothing.
use mathlib.Core.Path.{◌≡◌, refl, sym, ap, ◌∙◌}
use mathlib.Core.List.{List, ◌++◌}
use Prim.Native.Nat.{ℕ, ◌+◌, ◌≤◌}
use lib.ListN.{length, take, drop, set, get_or, length-set}
use lib.Seq.{sets, sets-eq}
use native.Mathlib.Omega.{arith}
use Rattle.std.proofs.lemmas.List.{append_assoc}
use Rattle.std.proofs.Math.Seq.{paste, paste-zero}
use Rattle.std.proofs.lemmas.List.Edits.{paste_more, paste_all}
use Rattle.handed.specs.Words.{record_at}
use Rattle.watchlog.proofs.lay.Goals as goal

pub loop-i-init : goal.loop-i-init
loop-i-init c = (refl, paste-zero c.args.words.now c.args.at c.words-seven.result)

pub loop-i-preserved : goal.loop-i-preserved
loop-i-preserved c =
    let l = c.loop-i in
    let q = c.args in
    let seven = c.words-seven.result in
    let n : length seven ≡ 7 = ap length c.words-seven.ensures.exact in (
      length-set l.words (q.at + l.i) _ ∙ l.invariant.0,
      ap (λ (x : List ℕ). set x (q.at + l.i) (get_or seven l.i 0)) l.invariant.1 ∙ paste_more q.words.now q.at seven l.i 0 (omega arith) (omega arith),
    )

pub returns : goal.returns
returns c =
    let l = c.loop-i in
    let q = c.args in
    let are = c.words-seven.ensures in
    let seven = c.words-seven.result in
    let n : length seven ≡ 7 = ap length are.exact in
    let done : l.i ≡ 7 = omega arith in
    let room : q.at + length seven ≤ length q.words.now = omega arith in
    let k : q.at + 7 ≡ q.at + length seven = omega arith in (
      l.invariant.1
          ∙ ap (paste q.words.now q.at seven) done
          ∙ paste_all q.words.now q.at seven 7 (sym n)
          ∙ ap (λ (j : ℕ). take q.at q.words.now ++ (seven ++ drop j q.words.now)) k
          ∙ sym (append_assoc (take q.at q.words.now) seven (drop (q.at + length seven) q.words.now))
          ∙ sym (sets-eq seven q.words.now q.at room)
          ∙ ap (sets q.words.now q.at) are.exact,
      ap (λ (w : List ℕ). record_at w 0) (sym are.exact) ∙ are.back,
    )
