-- `write_with` meets its contract: one of the same rank at the place is replaced, and else the others make room. Assumes nothing.
use mathlib.Core.Path.{◌≡◌, sym, ap, ◌∙◌}
use mathlib.Core.List.{List}
use Prim.Native.Nat.{◌+◌}
use native.Mathlib.Omega.{arith}
use lib.ListN.{length}
use Rattle.watchfile.specs.Format.{writing}
use Rattle.watchfile.specs.declared.Record.{Record}
use Rattle.watchlog.proofs.PlaceLaws.{leaves, set_written, push_written}
use Rattle.watchlog.proofs.write_with.Goals as goal
use Rattle.watchlog.proofs.write_with.Goals.{else-at-count-via-then-at-count+else-rank_of-rank, else-at-count-via-else-at-count}

pub returns-then-rank_of-rank : goal.returns-then-rank_of-rank
returns-then-rank_of-rank c =
    λ rule ruled.
    let q = c.args in
    let n : length q.records ≡ 48 = c.well_formed.1.0.1.0.1 in
    leaves rule _ q.count q.file.now c.write.new.file c.write.result _ _ (c.write.ensures rule ruled) c.written.ensures
    (set_written rule q.records n q.count c.requires q.r (length q.file.now) c.rank_of-rank.result c.place_of-at.result c.rank_of-rank.ensures c.place_of-at.ensures
    c.if-at-count.true (sym c.rank_of.ensures ∙ c.if-rank_of-rank.true))

pub returns : goal.returns
returns c =
    λ rule ruled.
    let q = c.args in
    let n : length q.records ≡ 48 = c.well_formed.1.0.1.0.1 in
    leaves rule _ (q.count + 1) q.file.now c.write-2.new.file c.write-2.result _ _ (c.write-2.ensures rule ruled) c.written-2.ensures
    (ap (λ (l : List Record). writing rule l (q.count + 1) (length q.file.now)) c.pushed.ensures
    ∙ push_written rule q.records n q.count c.requires q.r (length q.file.now) c.rank_of-rank.result c.place_of-at.result c.rank_of-rank.ensures c.place_of-at.ensures
    (λ l e. elim c.else-at-count.branch [ else-at-count-via-then-at-count+else-rank_of-rank w ↦ w.if-rank_of-rank.false (w.rank_of.ensures ∙ e) | else-at-count-via-else-at-count w ↦ omega arith ]))
