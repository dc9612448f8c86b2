-- `write_without` meets its contract: the one of this rank at its place is pulled out, and else there is none. Assumes nothing.
use mathlib.Core.Path.{◌≡◌, refl, sym, ap, ◌∙◌}
use mathlib.Core.Bool.{true, false}
use mathlib.Core.List.{List, []}
use Prim.Native.Nat.{ℕ, ◌-◌}
use native.Mathlib.Omega.{arith}
use lib.ListN.{length, take}
use borrow.Author.Tests.{not-true, not-false}
use Rattle.number.specs.Refusal.{Answer, Numbered, refused, given, numbered}
use Rattle.watchfile.specs.Rules.{kind_right, rank}
use Rattle.watchfile.specs.Format.{writing}
use lib.IntN.{ℤ}
use Rattle.watchlog.specs.Placing.{NO_RECORD, Leaves, taken_in, place_of}
use Rattle.std.specs.Prelude.{Err}
use Rattle.watchlog.specs.declared.PlaceRefusal.TheVariants.{NoRecord}
use Rattle.watchlog.proofs.PlaceLaws.{leaves}
use Rattle.watchlog.proofs.OutLaws.{no_kind, out_written, none_written}
use Rattle.watchlog.proofs.write_without.Goals as goal
use Rattle.watchlog.proofs.write_without.Goals.{After-place_of-at, After-kind_right, After-write, else-at-count-via-then-at-count+else-rank_of-wanted, else-at-count-via-else-at-count}

-- nothing is written where there is no such record
left_alone : (file : Answer Numbered (List ℕ)) (before : List ℕ) → file ≡ refused (numbered NO_RECORD []) → Leaves file before before (Err NoRecord)
left_alone file before e = rw e (record { answer = refl; bytes = refl })

-- of what is known where the place was found
long : (c : After-place_of-at) → length c.args.records ≡ 48
long c = c.well_formed.1.0.1.0.1

same : (c : After-kind_right) → c.in-Ok.number ≡ c.args.kind
same c = omega (arith, c.in-Ok.ensures)

right : (c : After-place_of-at) → kind_right c.args.kind ≡ true
right c =
    ap kind_right (sym (same (goal.at-After-place_of-at c).After-kind_right)) ∙ sym c.kind_right.ensures ∙ not-false _ c.if-not-kind_right.false-raw

place : (c : After-place_of-at)
    → c.place_of-at.result ≡ place_of (rank c.args.minute c.args.kind) (take c.args.count c.args.records)
place c =
    c.place_of-at.ensures
    ∙ ap (λ (k : ℕ). place_of k (take c.args.count c.args.records))
    (c.rank-wanted.ensures ∙ ap (rank c.args.minute) (same (goal.at-After-place_of-at c).After-kind_right))

-- what is written there
found : (c : After-write) (rule : ℕ → ℤ) →
    let q = c.args in
    writing rule c.pulled.result (q.count - 1) (length q.file.now) ≡ taken_in rule q.minute q.kind (length q.file.now) (given (take q.count q.records))
found c rule =
    let at = (goal.at-After-write c).After-place_of-at in
    let q = c.args in
    out_written rule q.records (long at) q.count c.requires q.minute q.kind (length q.file.now)
    c.place_of-at.result (right at) (place at) _ c.pulled.ensures c.if-at-count.true
    (sym c.rank_of.ensures ∙ c.if-rank_of-wanted.true ∙ c.rank-wanted.ensures ∙ ap (rank q.minute) (same (goal.at-After-place_of-at at).After-kind_right))

pub returns-in_default : goal.returns-in_default
returns-in_default c =
    λ rule ruled.
    let q = c.args in
    left_alone _ q.file.now (rw (no_kind q.kind (omega (arith, c.in_default.ensures))))

pub returns-then-not-kind_right : goal.returns-then-not-kind_right
returns-then-not-kind_right c =
    λ rule ruled.
    let q = c.args in
    let wrong : kind_right q.kind ≡ false =
    ap kind_right (sym (same (goal.at.returns-then-not-kind_right c).After-kind_right)) ∙ sym c.kind_right.ensures ∙ not-true _ c.if-not-kind_right.true-raw in
    left_alone _ q.file.now (rw wrong)

pub returns-then-rank_of-wanted : goal.returns-then-rank_of-wanted
returns-then-rank_of-wanted c =
    λ rule ruled.
    let q = c.args in
    leaves rule _ (q.count - 1) q.file.now c.write.new.file c.write.result _ _ (c.write.ensures rule ruled) c.written.ensures
    (found (goal.at.returns-then-rank_of-wanted c).After-write rule)

-- the place was found, and the record there is another, or there is none there
pub returns : goal.returns
returns c =
    λ rule ruled.
    let at = (goal.at.returns c).After-place_of-at in
    let q = c.args in
    left_alone _ q.file.now
    (none_written rule q.records (long at) q.count c.requires q.minute q.kind (length q.file.now)
    c.place_of-at.result (right at) (place at)
    (λ l e. elim c.else-at-count.branch [
      | else-at-count-via-then-at-count+else-rank_of-wanted w ↦ w.if-rank_of-wanted.false (w.rank_of.ensures ∙ e ∙ ap (rank q.minute) (sym (same (goal.at-After-place_of-at at).After-kind_right)) ∙ sym c.rank-wanted.ensures)
      | else-at-count-via-else-at-count w ↦ omega arith
    ]))
