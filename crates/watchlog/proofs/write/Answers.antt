-- `write` meets its contract: the words hold the records. Assumes nothing.
use mathlib.Core.Path.{◌≡◌, refl}
use Prim.Native.Nat.{◌*◌}
use native.Mathlib.Omega.{arith}
use lib.ListN.{length, length-take}
use Rattle.watchlog.proofs.LaidLaws.{wrote_first}
use Rattle.watchlog.proofs.write.Goals as goal

pub overflow_mul-end : goal.overflow_mul-end
overflow_mul-end c = omega (arith, c.min-end.ensures)

pub slice_bounds-words-end : goal.slice_bounds-words-end
slice_bounds-words-end c = omega (arith, c.min-end.ensures, c.words_of-words.ensures.long)

pub slice_bounds-write-end : goal.slice_bounds-write-end
slice_bounds-write-end c = omega (arith, c.min-end.ensures, c.words_of-words.ensures.long, length-take (7 * c.min-end.result) c.words_of-words.result)

pub returns : goal.returns
returns c =
    λ rule ruled.
    let n : length c.args.records ≡ 48 = c.well_formed.1.0.1.0.1 in
    wrote_first rule c.args.records c.words_of-words.result n c.words_of-words.ensures c.args.count c.min-end.result (length c.args.file.now) c.min-end.ensures
    c.args.file.now c.write.new.buffer c.write.result refl (c.write.ensures rule ruled)
