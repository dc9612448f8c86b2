-- One turn of `write_records`: the row and the body of the record at i are written, and what is left to write from there makes
-- the same whole. Assumes nothing.
use mathlib.Core.Path.{◌≡◌, sym, ap, ◌∙◌}
use mathlib.Core.List.{List, ◌++◌}
use Prim.Native.Nat.{ℕ, ◌+◌, ◌*◌, ◌≤◌, ◌<◌}
use native.Mathlib.Omega.{arith}
use lib.ListN.{length}
use lib.Seq.{sets, length-sets}
use Rattle.watchfile.specs.Rules.{size_of}
use Rattle.watchfile.specs.Format.{kind_of, body_bytes, row_bytes, rows_bytes, bodies_bytes, start_of}
use Rattle.watchfile.specs.declared.Record.{Record}
use Rattle.writer.proofs.PartLaws.{part, joined, length_part, back, record_length, record_turn}
use Rattle.writer.proofs.SizeLaws.{length_body, length_rows}
use Rattle.writer.proofs.RestLaws.{rest, at, rest_most, rows_next, bodies_next, bodies_shorter}

module _ (all : List Record) (count i row to : ℕ) (buffer last : List ℕ) (more : i < count) (inside : i < length all)
    (place : row ≡ 4 + 8 * i) (behind : start_of count ≤ to) (room : to + length (bodies_bytes (rest all count i)) ≤ length buffer)
    (first : last ≡ sets (part buffer row) 0 (row_bytes (at all i) to)) where
  row_put : joined buffer row last ≡ sets buffer row (row_bytes (at all i) to)
  row_put = back buffer (row_bytes (at all i) to) last row (omega arith) first

  pub row_put_length : length (joined buffer row last) ≡ length buffer
  row_put_length = ap length row_put ∙ length-sets buffer row (row_bytes (at all i) to)

  pub body_room : size_of (kind_of (at all i).body) ≤ length (part (joined buffer row last) to)
  body_room = omega (arith, length_part (joined buffer row last) to, row_put_length, bodies_shorter all count i more inside)

  module _ (whole last' : List ℕ) (so : sets (sets buffer row (rows_bytes (rest all count i) to)) to (bodies_bytes (rest all count i)) ≡ whole)
      (second : last' ≡ sets (part (joined buffer row last) to) 0 (body_bytes (at all i).body)) where
    before : row + 8 + length (rows_bytes (rest all count (i + 1)) (to + size_of (kind_of (at all i).body))) ≤ to
    before = omega (arith, length_rows (rest all count (i + 1)) (to + size_of (kind_of (at all i).body)), rest_most all count (i + 1))

    enough : to + length (body_bytes (at all i).body) ≤ length buffer
    enough = omega (arith, length_body (at all i).body, bodies_shorter all count i more inside)

    opened : sets (sets buffer row (row_bytes (at all i) to ++ rows_bytes (rest all count (i + 1)) (to + size_of (kind_of (at all i).body)))) to (body_bytes (at all i).body ++ bodies_bytes (rest all count (i + 1))) ≡ whole
    opened =
        ap (λ (l : List ℕ). sets (sets buffer row l) to (body_bytes (at all i).body ++ bodies_bytes (rest all count (i + 1)))) (sym (rows_next all count i more inside to))
        ∙ ap (sets (sets buffer row (rows_bytes (rest all count i) to)) to) (sym (bodies_next all count i more inside))
        ∙ so

    pub put_length : length (joined (joined buffer row last) to last') ≡ length buffer
    put_length =
        record_length buffer whole (row_bytes (at all i) to) (rows_bytes (rest all count (i + 1)) (to + size_of (kind_of (at all i).body))) (body_bytes (at all i).body)
        (bodies_bytes (rest all count (i + 1))) last last' row to before enough opened row_put second

    pub put_turn : sets (sets (joined (joined buffer row last) to last') (row + 8) (rows_bytes (rest all count (i + 1)) (to + size_of (kind_of (at all i).body)))) (to + size_of (kind_of (at all i).body)) (bodies_bytes (rest all count (i + 1))) ≡ whole
    put_turn =
        ap (λ (n : ℕ). sets (sets (joined (joined buffer row last) to last') (row + 8) (rows_bytes (rest all count (i + 1)) (to + size_of (kind_of (at all i).body)))) (to + n) (bodies_bytes (rest all count (i + 1)))) (sym (length_body (at all i).body))
        ∙ record_turn buffer whole (row_bytes (at all i) to) (rows_bytes (rest all count (i + 1)) (to + size_of (kind_of (at all i).body))) (body_bytes (at all i).body)
        (bodies_bytes (rest all count (i + 1))) last last' row to before enough opened row_put second
