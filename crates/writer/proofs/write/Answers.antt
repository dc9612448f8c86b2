-- `write` meets its contract: a record that breaks the rules, then too little room, and else the file. Assumes nothing.
use mathlib.Core.Path.{sym, ap, ◌∙◌, subst}
use mathlib.Core.List.{[], ◌∷◌}
use Prim.Native.Nat.{ℕ, min}
use native.Mathlib.Omega.{arith}
use lib.ListN.{length}
use lib.Seq.{length-sets}
use Rattle.writer.proofs.WriteLaws.{length_offered, needed, room_asked, wrote_breaks, wrote_short, wrote_done}
use Rattle.writer.specs.Write.{Wrote, offered}
use Rattle.std.specs.Prelude.{Ok, Err}
use Rattle.std.proofs.lemmas.Result.{err_from_is_err_and}
use Rattle.writer.specs.declared.WriteRefusal.TheVariants.{TooShort}
use Rattle.writer.proofs.write.Goals as goal

pub check-requires : goal.check-requires
check-requires c = sym c.count-count.ensures

pub returns-then-buffer-bytes : goal.returns-then-buffer-bytes
returns-then-buffer-bytes c =
    let start = c.args in
    let w = start.records.now in
    λ rule dew.
    subst (λ (n : ℕ). Wrote rule (offered w) n start.buffer.now start.buffer.now (Err (TooShort c.in_ok-bytes.bytes))) c.count-count.ensures
    (wrote_short (offered w) c.count-count.result c.check.result c.check.ensures start.buffer.now c.in_ok-bytes.bytes c.in_ok-bytes.was c.if-buffer-bytes.true rule dew)

pub write_head-requires : goal.write_head-requires
write_head-requires c =
    let start = c.args in
    let w = start.records.now in
    let asked = room_asked (offered w) c.count-count.result c.check.result c.check.ensures start.buffer.now c.in_ok-bytes.bytes c.in_ok-bytes.was (length_offered w ∙ ap (λ (n : ℕ). min n 48) (sym c.count-count.ensures)) in
    (omega arith, (needed (offered w) c.count-count.result c.check.result c.check.ensures start.buffer.now c.in_ok-bytes.bytes c.in_ok-bytes.was).0)

pub write_records-requires : goal.write_records-requires
write_records-requires c =
    let start = c.args in
    let w = start.records.now in
    let asked = room_asked (offered w) c.count-count.result c.check.result c.check.ensures start.buffer.now c.in_ok-bytes.bytes c.in_ok-bytes.was (length_offered w ∙ ap (λ (n : ℕ). min n 48) (sym c.count-count.ensures)) in
    let same = ap length c.write_head.ensures ∙ length-sets start.buffer.now 0 (0x57 ∷ 0x54 ∷ 1 ∷ c.count-count.result ∷ []) in
    (sym c.count-count.ensures, omega arith, (needed (offered w) c.count-count.result c.check.result c.check.ensures start.buffer.now c.in_ok-bytes.bytes c.in_ok-bytes.was).0)

pub returns-in_err-bytes : goal.returns-in_err-bytes
returns-in_err-bytes c =
    let start = c.args in
    let w = start.records.now in
    let p = err_from_is_err_and c.from_residual.result c.from_residual.ensures.1 in
    λ rule dew.
    rw (p.1, p.2)
    (subst (λ (n : ℕ). Wrote rule (offered w) n start.buffer.now start.buffer.now (Err c.in_err-bytes.field-0.0)) c.count-count.ensures
    (wrote_breaks (offered w) c.count-count.result c.check.result c.check.ensures start.buffer.now c.in_err-bytes.field-0.0 c.in_err-bytes.was rule dew))

pub returns : goal.returns
returns c =
    let start = c.args in
    let w = start.records.now in
    λ rule dew.
    subst (λ (n : ℕ). Wrote rule (offered w) n start.buffer.now c.write_records.new.buffer (Ok c.in_ok-bytes.bytes)) c.count-count.ensures
    (wrote_done (offered w) c.count-count.result c.check.result c.check.ensures start.buffer.now c.in_ok-bytes.bytes c.in_ok-bytes.was c.if-buffer-bytes.false c.write_head.new.buffer c.write_records.new.buffer
    (length_offered w ∙ ap (λ (n : ℕ). min n 48) (sym c.count-count.ensures)) c.write_head.ensures c.write_records.ensures rule dew)
