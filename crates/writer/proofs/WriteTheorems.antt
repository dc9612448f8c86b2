-- What the contract of `write` says of the buffer: a refused write leaves every byte, a good one every byte behind the file, and what
-- it wrote is read as the same records. Assumes nothing.
use mathlib.Core.Path.{◌≡◌, sym, ap, ◌∙◌}
use mathlib.Core.List.{List}
use Prim.Native.Nat.{ℕ}
use lib.IntN.{ℤ}
use lib.ListN.{length, take, drop}
use lib.Seq.{take_at, drop_at}
use Rattle.number.specs.Refusal.{refused, given, Numbered}
use Rattle.octets.proofs.LentLaws.{refused_leaves, given_lays}
use Rattle.watchfile.specs.Format.{DewRule, reading, writing}
use Rattle.watchfile.specs.declared.Record.{Record}
use Rattle.writer.specs.Write.{Wrote, written_as}
use Rattle.std.specs.Prelude.{Result, Ok}
use Rattle.writer.specs.declared.WriteRefusal.{WriteRefusal}
use Rattle.writer.proofs.RoundTrips.{written_then_read}

module _ (rule : ℕ → ℤ) (all : List Record) (count : ℕ) (before after : List ℕ) where
  pub refused_leaves_every_byte : (w : Result ℕ WriteRefusal) (r : Numbered) → Wrote rule all count before after w → written_as w ≡ refused r → after ≡ before
  refused_leaves_every_byte w r h e = h.bytes ∙ refused_leaves (writing rule all count (length before)) before r (sym h.answer ∙ e)

  module _ (n : ℕ) (h : Wrote rule all count before after (Ok n)) where
    pub leaves_what_is_behind : drop n after ≡ drop n before
    leaves_what_is_behind =
        let f = given_lays (writing rule all count (length before)) before n (sym h.answer) in
        ap (drop n) (h.bytes ∙ f.3) ∙ drop_at f.0 (drop n before) n f.2

    pub written_is_read : DewRule rule → reading rule (take n after) ≡ given (take count all)
    written_is_read ruled =
        let f = given_lays (writing rule all count (length before)) before n (sym h.answer) in
        ap (λ (s : List ℕ). reading rule (take n s)) (h.bytes ∙ f.3)
        ∙ ap (reading rule) (take_at f.0 (drop n before) n f.2)
        ∙ written_then_read rule all count (length before) f.0 f.1 ruled
